-- The sub-table of a right table has its shape.
use Rattle.std.proofs.Common.{◌≡◌, ℕ, zero, suc, ◌+◌, ◌-◌, ◌%◌, ◌^◌, ◌<◌, ◌≤◌, ◌==◌, Bool, true, ◌&&◌, ◌||◌, List, [], ◌∷◌, map, length, get_or, sum, nat_le, nat_lt, sym, refl, ap, ◌∙◌, subst, arith, inl, inr, ◌⊎◌}
use Rattle.std.specs.Prelude.{◌≢◌, not, Option, None, Some, unwrap_or}
use Rattle.std.specs.List.{list_all, flat_map}
use Rattle.std.proofs.Math.Nat.{mod-eq_of_lt}
use Rattle.std.proofs.lemmas.Bool.{cases_Bool}
use Rattle.std.proofs.lemmas.Bool.Decides.{nat_tests}
use Rattle.std.proofs.lemmas.List.{get_or-map, get_or-take, get_or_append_left, get_or-append_right, length-map}
use Rattle.alb_mono.specs.Listing.{Each}
use Rattle.alb_mono.specs.Tree.{leaf, type_le, type_of, type_plus, rising}
use Rattle.alb_mono.proofs.ListingLemmas.{each-at, each-weaker, each-map, each-flat}
use Rattle.alb_poly.specs.Poly.{list_eq}
use Rattle.alb_linear.proofs.LinearLemmas.{all_from_each}
use Rattle.alb_rows.specs.Row.{Cells}
use Rattle.alb_table.specs.Table.{products, entry_of, same_pair, find_entry, PartView, elems, type_at, first_of, dim_of, entries_at, Table, IsTable, IsPartOf, IsElementOf, IsRowAmong}
use Rattle.alb_table.specs.Right.{IsTypeTo}
use Rattle.alb_table.specs.declared.part.Elem.{Elem}
use Rattle.alb_table.specs.declared.part.Elem.TheVariants.{Gen, Prod}
use Rattle.alb_poly.proofs.Types.{list_eq-itself, list_eq-sound}
use Rattle.alb_table.proofs.PartLemmas.{elems_step}
use Rattle.alb_table.proofs.RangeLemmas.{type_first, type_later, type_of_range}
use Rattle.alb_table.proofs.TableLemmas.{type_shape, long_enough}
use Rattle.alb_check.specs.declared.raw.RawEntry.{RawEntry}
use Rattle.alb_check.specs.Raw.{Raw, IsRaw, is_element, element_type as raw_type, is_top_right, are_elements_right, is_generator_right, are_generators_right, is_entry_right, is_before, are_ascending, shape_fault}
use Rattle.alb_check.specs.SubTable.{is_kept, kept_elements, number_of, generator_number, row_entries, product_entries, sub_table}
use Rattle.alb_check.proofs.Passing.{Rises, rises-flat, rises-map, rises-from, rises-where, passing, passing-each, passing-rises, places-few, place-less, place-get}
use Rattle.alb_check.proofs.TableLemmas.{IsShaped}

-- ---- tests of lists

list_all-each : {X : Type 0} (test : X → Bool) (xs : List X) → Each (λ x. test x ≡ true) xs → list_all test xs ≡ true
list_all-each test [] h = refl
list_all-each test (x ∷ xs) h = rw (h.0, list_all-each test xs h.1)

ascending-from : (es : List RawEntry) → Rises (λ d e. is_before d e ≡ true) es → are_ascending es ≡ true
ascending-from [] h = refl
ascending-from (d ∷ []) h = refl
ascending-from (d ∷ e ∷ es) h = rw (h.0.0, ascending-from (e ∷ es) h.1)

-- ---- the entries of a table

find_each : (P : Cells → Type 0) (k : ℕ × ℕ) (xs : List (ℕ × ℕ)) (es : List Cells) (e : Cells) → Each P es → find_entry k xs es ≡ Some e → P e
find_each P k [] es e h q = absurd (cc)
find_each P k (x ∷ xs) [] e h q = absurd (cc)
find_each P k (x ∷ xs) (d ∷ es) e h q = elim (cases_Bool (same_pair x k)) [
  | inl b ↦ let r : Some d ≡ Some e = rw b at q in let s : d ≡ e = cc in subst P s h.0
  | inr b ↦ find_each P k xs es e h.1 (rw b at q)
]

entries_of_type : (P : List ℕ → Cells → Type 0) (parts : List PartView) (w : List ℕ) → Each (λ (q : PartView). Each (P q.at) q.entries) parts → Each (P w) (entries_at parts w)
entries_of_type P [] w h = tt
entries_of_type P (q ∷ parts) w h = elim (cases_Bool (list_eq q.at w)) [
  | inl e ↦ rw e (subst (λ u. Each (P u) q.entries) (list_eq-sound q.at w e) h.0)
  | inr e ↦ rw e (entries_of_type P parts w h.1)
]

-- an entry is a row over the basis elements of its type
entry_among : (t : Table) (b c : ℕ) (e : Cells) → IsTable t → entry_of t.parts b c ≡ Some e →
    IsRowAmong t.p (first_of t.parts (type_plus (type_at t.parts b) (type_at t.parts c))) (dim_of t.parts (type_plus (type_at t.parts b) (type_at t.parts c))) e
entry_among t b c e tab h =
    let w : List ℕ = type_plus (type_at t.parts b) (type_at t.parts c) in
    find_each (IsRowAmong t.p (first_of t.parts w) (dim_of t.parts w)) (b, c) (products t.parts w) (entries_at t.parts w) e
    (entries_of_type (λ u. IsRowAmong t.p (first_of t.parts u) (dim_of t.parts u)) t.parts w
    (each-weaker (IsPartOf t.p t.parts t.parts) (λ (q : PartView). Each (IsRowAmong t.p (first_of t.parts q.at) (dim_of t.parts q.at)) q.entries) t.parts (λ q z. z.rows) tab.each)) h

-- a basis element whose type is at most `top`
pub record IsKept (t : Table) (top : List ℕ) (b : ℕ) : Type 0 where
  pub below : b < length (elems t.parts)
  pub passes : is_kept t top b ≡ true

-- a coefficient of the product of two basis elements, at a basis element that has the sum of their types
pub record IsEntryOf (t : Table) (top : List ℕ) (b c : ℕ) (x : RawEntry) : Type 0 where
  pub left : x.left ≡ number_of t top b
  pub right : x.right ≡ number_of t top c
  pub element : ℕ
  pub is_kept : IsKept t top element
  pub to : x.to ≡ number_of t top element
  pub type : type_at t.parts element ≡ type_plus (type_at t.parts b) (type_at t.parts c)
  pub nonzero : x.coef ≢ 0
  pub residue : x.coef < t.p

-- a cell of a row that is an entry of a table
record IsCell (t : Table) (b c : ℕ) (cell : ℕ × ℕ) : Type 0 where
  pub below : cell.0 < length (elems t.parts)
  pub type : type_at t.parts cell.0 ≡ type_plus (type_at t.parts b) (type_at t.parts c)
  pub nonzero : cell.1 ≢ 0
  pub residue : cell.1 < t.p

cells-are : (t : Table) (b c : ℕ) (e : Cells) → IsTable t → entry_of t.parts b c ≡ Some e → Each (IsCell t b c) e
cells-are t b c e tab h =
    let w : List ℕ = type_plus (type_at t.parts b) (type_at t.parts c) in
    let r = entry_among t b c e tab h in
    by_places (IsCell t b c) e (λ i d l.
    let place = type_of_range t.parts w (get_or e i d).0 (record { low = r.low i d l; high = r.high i d l }) in
    record { below = place.0; type = place.1; nonzero = r.row.row.nonzero i d l; residue = r.row.residues i d l })
  where
    by_places : (P : ℕ × ℕ → Type 0) (xs : Cells) → ((i : ℕ) (d : ℕ × ℕ) → i < length xs → P (get_or xs i d)) → Each P xs
    by_places P [] h = tt
    by_places P (x ∷ xs) h = (h 0 x (omega arith), by_places P xs (λ i d l. h (suc i) d (omega arith)))

-- a coefficient of the product of two basis elements that are kept
pub record IsGiven (t : Table) (top : List ℕ) (x : RawEntry) : Type 0 where
  pub b : ℕ
  pub c : ℕ
  pub b_kept : IsKept t top b
  pub c_kept : IsKept t top c
  pub entry : IsEntryOf t top b c x

abbrev Before : RawEntry → RawEntry → Type 0
Before d e = is_before d e ≡ true

before_left : (a b c d e f : ℕ) → a < d → (nat_lt a d || (a == d && (nat_lt b e || (b == e && nat_lt c f)))) ≡ true
before_left a b c d e f h = grind (arith, nat_tests)

before_right : (a b c d e f : ℕ) → a ≡ d → b < e → (nat_lt a d || (a == d && (nat_lt b e || (b == e && nat_lt c f)))) ≡ true
before_right a b c d e f h k = grind (arith, nat_tests)

before_to : (a b c d e f : ℕ) → a ≡ d → b ≡ e → c < f → (nat_lt a d || (a == d && (nat_lt b e || (b == e && nat_lt c f)))) ≡ true
before_to a b c d e f h k l = grind (arith, nat_tests)

module _ (t : Table) (top : List ℕ) (tab : IsTable t) where
  abbrev number : ℕ → ℕ
  number = number_of t top

  pub kept-each : (P : ℕ → Type 0) → ((b : ℕ) → IsKept t top b → P b) → Each P (kept_elements t top)
  kept-each P h = passing-each (is_kept t top) P (length (elems t.parts)) (λ b l k. h b (record { below = l; passes = k }))

  -- ---- the numbers of the elements

  pub number-less : (b c : ℕ) → IsKept t top b → b < c → number_of t top b < number_of t top c
  number-less b c h l = omega (arith, place-less (is_kept t top) b c l h.passes)

  number-low : (b : ℕ) → number_of t top b - 1 ≡ length (passing (is_kept t top) b)
  number-low b = omega arith

  pub number-get : (b d : ℕ) → IsKept t top b → get_or (kept_elements t top) (number_of t top b - 1) d ≡ b
  number-get b d h = ap (λ k. get_or (kept_elements t top) k d) (number-low b) ∙ place-get (is_kept t top) (length (elems t.parts)) b d h.below h.passes

  pub number-high : (b : ℕ) → IsKept t top b → number_of t top b ≤ length (kept_elements t top)
  number-high b h = omega (arith, place-less (is_kept t top) b (length (elems t.parts)) h.below h.passes)

  pub number-type_at : (b : ℕ) → IsKept t top b → raw_type (sub_table t top) (number_of t top b) ≡ type_at t.parts b
  number-type_at b h =
      get_or-map (type_at t.parts) (kept_elements t top) (number_of t top b - 1) 0 [] (omega (arith, number-high b h))
      ∙ ap (type_at t.parts) (number-get b 0 h)

  pub number-element : (b : ℕ) → IsKept t top b → is_element (sub_table t top) (number_of t top b) ≡ true
  number-element b h = between (length (passing (is_kept t top) b)) (length (kept_elements t top)) (length (map (type_at t.parts) (kept_elements t top)))
      (number-high b h) (length-map (kept_elements t top) (type_at t.parts))
    where
      between : (k n m : ℕ) → k + 1 ≤ n → m ≡ n → (nat_le 1 (k + 1) && nat_le (k + 1) m) ≡ true
      between k n m h e = grind (arith, nat_tests)

  -- ---- the entries

  pub cells-kept : (b c : ℕ) (e : Cells) → type_le (type_plus (type_at t.parts b) (type_at t.parts c)) top ≡ true → entry_of t.parts b c ≡ Some e →
      Each (λ cell. IsKept t top cell.0) e
  cells-kept b c e h k = each-weaker (IsCell t b c) (λ cell. IsKept t top cell.0) e
      (λ cell r. record { below = r.below; passes = ap (λ w. type_le w top) r.type ∙ h }) (cells-are t b c e tab k)

  pub row-entries : (b c : ℕ) (e : Cells) → type_le (type_plus (type_at t.parts b) (type_at t.parts c)) top ≡ true → entry_of t.parts b c ≡ Some e →
      Each (IsEntryOf t top b c) (row_entries (number_of t top) b c e)
  row-entries b c e h k = each-map (IsEntryOf t top b c) (λ cell. record { left = number b; right = number c; to = number cell.0; coef = cell.1 }) e
      (each-weaker (IsCell t b c) _ e (λ cell r. record {
        left = refl;
        right = refl;
        element = cell.0;
        is_kept = record { below = r.below; passes = ap (λ w. type_le w top) r.type ∙ h };
        to = refl;
        type = r.type;
        nonzero = r.nonzero;
        residue = r.residue;
      }) (cells-are t b c e tab k))

  pub product-each : (b c : ℕ) → Each (IsEntryOf t top b c) (product_entries t top b c)
  product-each b c = elim (cases_Bool (type_le (type_plus (type_at t.parts b) (type_at t.parts c)) top)) [
    | inr n ↦ rw n tt
    | inl h ↦ rw h (by_entry h (entry_of t.parts b c) refl)
  ]
    where
      by_entry : type_le (type_plus (type_at t.parts b) (type_at t.parts c)) top ≡ true → (o : Option Cells) → entry_of t.parts b c ≡ o →
          Each (IsEntryOf t top b c) (row_entries (number_of t top) b c (unwrap_or o []))
      by_entry h None k = tt
      by_entry h (Some e) k = row-entries b c e h k

  pub entries-each : Each (IsGiven t top) (sub_table t top).entries
  entries-each = each-flat (IsGiven t top) (λ b. flat_map (product_entries t top b) (kept_elements t top)) (kept_elements t top)
      (kept-each (λ b. Each (IsGiven t top) (flat_map (product_entries t top b) (kept_elements t top))) (λ b hb.
      each-flat (IsGiven t top) (product_entries t top b) (kept_elements t top)
      (kept-each (λ c. Each (IsGiven t top) (product_entries t top b c)) (λ c hc.
      each-weaker (IsEntryOf t top b c) (IsGiven t top) (product_entries t top b c) (λ x e. record { b = b; c = c; b_kept = hb; c_kept = hc; entry = e }) (product-each b c)))))

  -- ---- their order

  kept-rises : Rises (λ b c. number_of t top b < number_of t top c) (kept_elements t top)
  kept-rises = passing-rises (is_kept t top) _ (length (elems t.parts)) (λ a b l h j k. number-less a b (record { below = omega arith; passes = j }) l)

  row-rises : (b c : ℕ) (e : Cells) → type_le (type_plus (type_at t.parts b) (type_at t.parts c)) top ≡ true → entry_of t.parts b c ≡ Some e →
      Rises Before (row_entries (number_of t top) b c e)
  row-rises b c e h k = rises-map (λ x y. number x.0 < number y.0) Before (λ cell. record { left = number b; right = number c; to = number cell.0; coef = cell.1 }) e
      (λ x y l. before_to (number b) (number c) (number x.0) (number b) (number c) (number y.0) refl refl l)
      (rises-where (λ x y. x.0 < y.0) (λ x y. number x.0 < number y.0) (IsCell t b c) e
      (λ x y r l. number-less x.0 y.0 (record { below = r.below; passes = ap (λ w. type_le w top) r.type ∙ h }) l)
      (cells-are t b c e tab k) (rises-from (λ x y. x.0 < y.0) e (entry_among t b c e tab k).row.row.ascending))

  product-rises : (b c : ℕ) → Rises Before (product_entries t top b c)
  product-rises b c = elim (cases_Bool (type_le (type_plus (type_at t.parts b) (type_at t.parts c)) top)) [
    | inr n ↦ rw n tt
    | inl h ↦ rw h (by_entry h (entry_of t.parts b c) refl)
  ]
    where
      by_entry : type_le (type_plus (type_at t.parts b) (type_at t.parts c)) top ≡ true → (o : Option Cells) → entry_of t.parts b c ≡ o →
          Rises Before (row_entries (number_of t top) b c (unwrap_or o []))
      by_entry h None k = tt
      by_entry h (Some e) k = row-rises b c e h k

  left-rises : (b : ℕ) → Rises Before (flat_map (product_entries t top b) (kept_elements t top))
  left-rises b = rises-flat (λ c e. number c < number e) Before (IsEntryOf t top b) (product_entries t top b) (kept_elements t top)
      (λ c e x y l p q. before_right x.left x.right x.to y.left y.right y.to (p.left ∙ sym q.left) (omega (arith, p.right, q.right)))
      kept-rises (kept-each _ (λ c h. product-each b c)) (kept-each _ (λ c h. product-rises b c))

  pub entries-rise : Rises Before (sub_table t top).entries
  entries-rise = rises-flat (λ b e. number b < number e) Before (λ b x. x.left ≡ number b) (λ b. flat_map (product_entries t top b) (kept_elements t top)) (kept_elements t top)
      (λ b e x y l p q. before_left x.left x.right x.to y.left y.right y.to (omega (arith, p, q)))
      kept-rises
      (kept-each _ (λ b h. each-flat (λ x. x.left ≡ number b) (product_entries t top b) (kept_elements t top)
      (kept-each _ (λ c k. each-weaker (IsEntryOf t top b c) (λ x. x.left ≡ number b) (product_entries t top b c) (λ x r. r.left) (product-each b c)))))
      (kept-each _ (λ b h. left-rises b))

-- ---- the rules of shape

pub shape-from : (target : List ℕ) (p : ℕ) (r : Raw) → IsShaped target p r → shape_fault target p r ≡ None
shape-from target p r h = rw (h.top, h.elements, h.generators, h.entries, h.ascending, h.nonzero) refl

entry-passes : (r : Raw) (x : RawEntry) → is_element r x.left ≡ true → is_element r x.right ≡ true → is_element r x.to ≡ true →
    raw_type r x.to ≡ type_plus (raw_type r x.left) (raw_type r x.right) → is_entry_right r x ≡ true
entry-passes r x a b c e = rw (a, b, c, e) (list_eq-itself (type_plus (raw_type r x.left) (raw_type r x.right)))

generator-passes : (r : Raw) (g k : ℕ) → is_element r k ≡ true → raw_type r k ≡ type_of (length r.top) (leaf g) → is_generator_right r g (Some k) ≡ true
generator-passes r g k a e = rw (a, e) (list_eq-itself (type_of (length r.top) (leaf g)))

generators-pass : (r : Raw) (f : ℕ → Option ℕ) (k n : ℕ) → ((g : ℕ) → g < k + n → is_generator_right r g (f g) ≡ true) → are_generators_right r k (map f (rising k n)) ≡ true
generators-pass r f k zero h = refl
generators-pass r f k (suc n) h = rw (h k (omega arith), generators-pass r f (suc k) n (λ g l. h g (omega arith)))

pub length-rising : (k n : ℕ) → length (rising k n) ≡ n
length-rising k zero = refl
length-rising k (suc n) = omega (arith, length-rising (suc k) n)

-- an element that is a generator has its type
abbrev OfGenerator : List ℕ → Elem → Type 0
OfGenerator w (Gen k) = w ≡ type_of (length w) (leaf k)
OfGenerator w (Prod b c) = Unit {0}

-- what parts say of their elements and types
element-of : (P : List ℕ → Elem → Type 0) (parts : List PartView) (b : ℕ) (d : Elem) → Each (λ (q : PartView). Each (P q.at) q.basis) parts → b < length (elems parts) →
    P (type_at parts b) (get_or (elems parts) b d)
element-of P [] b d h l = absurd (omega arith)
element-of P (q ∷ qs) b d h l =
    let n : length (elems (q ∷ qs)) ≡ length q.basis + length (elems qs) = elems_step q qs in
    elim (side b (length q.basis)) [
      | inl s ↦ subst (λ w. P w (get_or (elems (q ∷ qs)) b d)) (sym (type_first q qs b s))
          (subst (P q.at) (sym (get_or_append_left q.basis (elems qs) d b s)) (each-at (P q.at) q.basis b d h.0 s))
      | inr s ↦ subst (λ w. P w (get_or (elems (q ∷ qs)) b d)) (sym (type_later q qs b s))
          (subst (P (type_at qs (b - length q.basis))) (sym (get_or-append_right q.basis (elems qs) (length q.basis) b d refl s))
          (element-of P qs (b - length q.basis) d h.1 (omega arith)))
    ]
  where
    side : (a b : ℕ) → (a < b) ⊎ (b ≤ a)
    side a b = grind arith

gens-at : (k n i : ℕ) (d : Elem) → i < n → get_or (map Gen (rising k n)) i d ≡ Gen (k + i)
gens-at k zero i d l = absurd (omega arith)
gens-at k (suc n) zero d l = ap Gen (omega arith)
gens-at k (suc n) (suc i) d l = gens-at (suc k) n i d (omega arith) ∙ ap Gen (omega arith)

module _ (t : Table) (top : List ℕ) (tab : IsTable t) (long : length top ≡ length t.target) where
  pub generator-below : (g : ℕ) → g < length t.target → g < length (elems t.parts)
  generator-below g h = omega (arith, long_enough (length t.target) (elems t.parts) tab.generators)

  -- the type of a generator
  pub generator-type : (g : ℕ) → g < length t.target → type_at t.parts g ≡ type_of (length top) (leaf g)
  generator-type g h =
      let l : g < length (elems t.parts) = generator-below g h in
      let is : get_or (elems t.parts) g (Gen g) ≡ Gen g =
      sym (get_or-take (length t.target) (elems t.parts) g (Gen g) h) ∙ ap (λ es. get_or es g (Gen g)) tab.generators ∙ gens-at 0 (length t.target) g (Gen g) h
      ∙ ap Gen (zero_plus g) in
      let e : length (type_at t.parts g) ≡ length top = (type_shape t g tab l).long ∙ sym long in
      let own : OfGenerator (type_at t.parts g) (get_or (elems t.parts) g (Gen g)) = element-of OfGenerator t.parts g (Gen g)
      (each-weaker (IsPartOf t.p t.parts t.parts) (λ (q : PartView). Each (OfGenerator q.at) q.basis) t.parts
      (λ q z. each-weaker (IsElementOf q.at (products t.parts q.at)) (OfGenerator q.at) q.basis (of_generator q.at (products t.parts q.at)) z.elements) tab.each) l in
      let here : OfGenerator (type_at t.parts g) (Gen g) = subst (OfGenerator (type_at t.parts g)) is own in
      here ∙ ap (λ n. type_of n (leaf g)) e
    where
      zero_plus : (g : ℕ) → 0 + g ≡ g
      zero_plus g = omega arith

      of_generator : (w : List ℕ) (ps : List (ℕ × ℕ)) (x : Elem) → IsElementOf w ps x → OfGenerator w x
      of_generator w ps (Gen k) h = h
      of_generator w ps (Prod b c) h = tt

  -- it is a raw table
  pub sub-raw : IsRaw t.p (length t.target) (sub_table t top)
  sub-raw = record {
    top = long;
    elements = all_from_each (λ e. length e ≡ length t.target) (map (type_at t.parts) (kept_elements t top))
        (each-map (λ e. length e ≡ length t.target) (type_at t.parts) (kept_elements t top) (kept-each t top tab _ (λ b h. (type_shape t b tab h.below).long)));
    generators = length-map (rising 0 (length t.target)) (generator_number t top) ∙ length-rising 0 (length t.target);
    residues = all_from_each (λ e. e.coef < t.p) (sub_table t top).entries
        (each-weaker (IsGiven t top) _ (sub_table t top).entries (λ x h. h.entry.residue) (entries-each t top tab));
  }

module _ (t : Table) (top : List ℕ) (tab : IsTable t) (ty : IsTypeTo t.target t.degree top) where
  top-passes : 0 < sum top → is_top_right t.target (sub_table t top) ≡ true
  top-passes some =
      let few : length (kept_elements t top) ≤ length (elems t.parts) = places-few (is_kept t top) (length (elems t.parts)) in
      let long : length (map (type_at t.parts) (kept_elements t top)) ≡ length (kept_elements t top) = length-map (kept_elements t top) (type_at t.parts) in
      let small : length (elems t.parts) < 2 ^ 32 = tab.countable.elements in
      all_three (sum top) (type_le top t.target) (length (map (type_at t.parts) (kept_elements t top))) some ty.le (omega (arith, few, long, small))
    where
      all_three : (s : ℕ) (b : Bool) (n : ℕ) → 0 < s → b ≡ true → n < 4294967296 → (nat_lt 0 s && (b && nat_lt n 4294967296)) ≡ true
      all_three s b n h e l = grind (arith, nat_tests)

  elements-pass : are_elements_right (sub_table t top) ≡ true
  elements-pass = list_all-each (λ e. nat_lt 0 (sum e) && type_le e top) (map (type_at t.parts) (kept_elements t top))
      (each-map (λ e. (nat_lt 0 (sum e) && type_le e top) ≡ true) (type_at t.parts) (kept_elements t top)
      (kept-each t top tab _ (λ b h. both (sum (type_at t.parts b)) (type_le (type_at t.parts b) top) (type_shape t b tab h.below).some h.passes)))
    where
      both : (s : ℕ) (b : Bool) → 0 < s → b ≡ true → (nat_lt 0 s && b) ≡ true
      both s b h e = grind (arith, nat_tests)

  generator-right : (g : ℕ) → g < length t.target → is_generator_right (sub_table t top) g (generator_number t top g) ≡ true
  generator-right g h = elim (cases_Bool (is_kept t top g)) [
    | inr n ↦ rw n refl
    | inl k ↦
        let here : IsKept t top g = record { below = generator-below t top tab ty.counts g h; passes = k } in
        rw k (generator-passes (sub_table t top) g (number_of t top g) (number-element t top tab g here) (number-type_at t top tab g here ∙ generator-type t top tab ty.counts g h))
  ]

  entry-right : (x : RawEntry) → IsGiven t top x → is_entry_right (sub_table t top) x ≡ true
  entry-right x h =
      let e = h.entry in
      entry-passes (sub_table t top) x
      (ap (is_element (sub_table t top)) e.left ∙ number-element t top tab h.b h.b_kept)
      (ap (is_element (sub_table t top)) e.right ∙ number-element t top tab h.c h.c_kept)
      (ap (is_element (sub_table t top)) e.to ∙ number-element t top tab e.element e.is_kept)
      (ap (raw_type (sub_table t top)) e.to ∙ number-type_at t top tab e.element e.is_kept ∙ e.type
      ∙ sym (ap (λ n. type_plus (raw_type (sub_table t top) n) (raw_type (sub_table t top) x.right)) e.left
      ∙ ap (λ n. type_plus (raw_type (sub_table t top) (number_of t top h.b)) (raw_type (sub_table t top) n)) e.right
      ∙ ap (λ w. type_plus w (raw_type (sub_table t top) (number_of t top h.c))) (number-type_at t top tab h.b h.b_kept)
      ∙ ap (type_plus (type_at t.parts h.b)) (number-type_at t top tab h.c h.c_kept)))

  coefficient-passes : (x : RawEntry) → IsGiven t top x → not (x.coef % t.p == 0) ≡ true
  coefficient-passes x h =
      let m : x.coef % t.p ≡ x.coef = mod-eq_of_lt h.entry.residue in
      rw m (other x.coef h.entry.nonzero)
    where
      other : (n : ℕ) → n ≢ 0 → not (n == 0) ≡ true
      other n h = grind (arith, nat_tests)

  pub sub-shaped : 0 < sum top → IsShaped t.target t.p (sub_table t top)
  sub-shaped some = record {
    top = top-passes some;
    elements = elements-pass;
    generators = generators-pass (sub_table t top) (generator_number t top) 0 (length t.target) (λ g l. generator-right g (omega arith));
    entries = list_all-each (is_entry_right (sub_table t top)) (sub_table t top).entries
        (each-weaker (IsGiven t top) _ (sub_table t top).entries entry-right (entries-each t top tab));
    ascending = ascending-from (sub_table t top).entries (entries-rise t top tab);
    nonzero = list_all-each (λ e. not (e.coef % t.p == 0)) (sub_table t top).entries
        (each-weaker (IsGiven t top) _ (sub_table t top).entries coefficient-passes (entries-each t top tab));
  }
