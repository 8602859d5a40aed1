-- What follows from what every table keeps.
use Rattle.std.proofs.Common.{◌≡◌, ℕ, zero, suc, ◌+◌, ◌<◌, ◌≤◌, true, List, [], ◌∷◌, ◌++◌, map, length, take, sym, refl, ap, ◌∙◌, arith, inl, inr, subst, sum}
use Rattle.std.specs.Prelude.{All, Option, Some, None, MatchOption, IfSome, IfNone}
use Rattle.std.specs.List.{flat_map}
use Rattle.std.proofs.lemmas.Bool.{cases_Bool, cases_lt}
use Rattle.std.proofs.lemmas.List.{map-append, append-nil, take-append-le, take_all}
use Rattle.std.proofs.lemmas.List.Concat.{flat_map-append}
use Rattle.alb_mono.specs.Listing.{Each, IsIn, Ascends}
use Rattle.alb_mono.specs.Tree.{cmp_types, type_plus, types_of, IsTypeWithin, rising, IsSplit}
use Rattle.alb_mono.proofs.ListingLemmas.{each-weaker, each-append, each-member, in-map}
use Rattle.alb_mono.proofs.TypeLemmas.{length-type_plus, rising_more}
use Rattle.alb_mono.proofs.TypesListing.{types_of-listing}
use Rattle.alb_poly.specs.Poly.{list_eq}
use Rattle.alb_linear.proofs.IdentityLemmas.{list_eq-itself}
use Rattle.alb_rows.specs.Row.{Cells}
use Rattle.alb_table.specs.declared.part.Elem.{Elem}
use Rattle.alb_table.specs.declared.part.Elem.TheVariants.{Gen}
use Rattle.alb_table.specs.Table.{PartView, first_of, dim_of, elems, type_at, entries_at, products, entry_of, same_pair, find_entry, Table, IsTable, IsPartOf, IsElementOf, IsRowAmong, IsCountable, CoversType, types_to, extended}
use Rattle.alb_table.specs.Value.{IsBasisRow}
use Rattle.alb_table.proofs.GridLemmas.{find_empty}
use Rattle.alb_table.proofs.PartLemmas.{sum-plus, products-extend}
use Rattle.alb_table.proofs.TypesTo.{IsTypeTo, types_to-each, types_to-all, types_to-ascends, counts_small}
use Rattle.alb_table.proofs.RangeLemmas.{ats, type_in, number_in_range, product_in, found_in, entries_full, entries_where, range_within}

pub each-unmap : {X Y : Type 0} (P : Y → Type 0) (f : X → Y) (xs : List X) → Each P (map f xs) → Each (λ x. P (f x)) xs
each-unmap P f [] h = tt
each-unmap P f (x ∷ xs) h = (h.0, each-unmap P f xs h.1)

shapes : (t : Table) → IsTable t → Each (IsTypeTo t.target t.degree) (ats t.parts)
shapes t k = subst (Each (IsTypeTo t.target t.degree)) (sym k.types) (types_to-each t.target t.degree)

pub types_ascend : (t : Table) → IsTable t → Ascends cmp_types (ats t.parts)
types_ascend t k = subst (Ascends cmp_types) (sym k.types) (types_to-ascends t.target t.degree)

pub type_shape : (t : Table) (b : ℕ) → IsTable t → b < length (elems t.parts) → IsTypeTo t.target t.degree (type_at t.parts b)
type_shape t b k h = each-member (IsTypeTo t.target t.degree) (ats t.parts) (type_at t.parts b) (shapes t k) (type_in t.parts b h)

-- the type of a basis element has as many counts as the target, none above 12
pub type_small : (t : Table) (b : ℕ) → IsTable t → b < length (elems t.parts) → (length (type_at t.parts b) ≡ length t.target) × All (λ c. c ≤ 12) (type_at t.parts b)
type_small t b k h =
    let s = type_shape t b k h in (s.long, counts_small t.target (type_at t.parts b) s.long s.within k.goal.small)

-- all types have as many counts as the target
pub parts_long : (t : Table) → IsTable t → Each (λ (q : PartView). length q.at ≡ length t.target) t.parts
parts_long t k =
    each-unmap (λ w. length w ≡ length t.target) (λ (q : PartView). q.at) t.parts
    (each-weaker (IsTypeTo t.target t.degree) (λ w. length w ≡ length t.target) (ats t.parts) (λ w h. h.long) (shapes t k))

-- ---- the products that have an entry

split_plus : (x y : List ℕ) → length x ≡ length y → 0 < sum x → 0 < sum y → IsSplit (type_plus x y) (x, y)
split_plus x y e h k = record { long = sym (length-type_plus x y e); long_right = sym e ∙ sym (length-type_plus x y e); left = h; right = k; both = refl }

product_listed : (t : Table) (b c : ℕ) → IsTable t → b < length (elems t.parts) → c < length (elems t.parts) →
    IsIn (b, c) (products t.parts (type_plus (type_at t.parts b) (type_at t.parts c)))
product_listed t b c k h g =
    let x = type_shape t b k h in let y = type_shape t c k g in
    product_in t.parts b c (type_plus (type_at t.parts b) (type_at t.parts c)) (type_at t.parts b) (type_at t.parts c)
    (split_plus (type_at t.parts b) (type_at t.parts c) (x.long ∙ sym y.long) x.some y.some)
    (number_in_range t.parts b (types_ascend t k) h) (number_in_range t.parts c (types_ascend t k) g)

-- where the table covers the type there is an entry
pub entry_exists : (t : Table) (b c : ℕ) → IsTable t → b < length (elems t.parts) → c < length (elems t.parts) → entry_of t.parts b c ≡ None →
    CoversType t (type_plus (type_at t.parts b) (type_at t.parts c)) → ⊥
entry_exists t b c k h g n v =
    let x = type_shape t b k h in let y = type_shape t c k g in
    let e : length (type_at t.parts b) ≡ length (type_at t.parts c) = x.long ∙ sym y.long in
    let s : sum (type_at t.parts b) + sum (type_at t.parts c) ≡ sum (type_plus (type_at t.parts b) (type_at t.parts c)) = sum-plus (type_at t.parts b) (type_at t.parts c) e in
    let p : 0 < sum (type_at t.parts b) = x.some in
    let w : IsTypeTo t.target t.degree (type_plus (type_at t.parts b) (type_at t.parts c)) = record {
      long = length-type_plus (type_at t.parts b) (type_at t.parts c) e ∙ x.long;
      within = v.within;
      some = omega arith;
      degree_le = v.degree_le;
    } in
    let i : IsIn (type_plus (type_at t.parts b) (type_at t.parts c)) (ats t.parts) =
    subst (IsIn (type_plus (type_at t.parts b) (type_at t.parts c))) (sym k.types) (types_to-all t.target t.degree (type_plus (type_at t.parts b) (type_at t.parts c)) w) in
    let l : length (entries_at t.parts (type_plus (type_at t.parts b) (type_at t.parts c))) ≡ length (products t.parts (type_plus (type_at t.parts b) (type_at t.parts c))) =
    entries_full t.parts (λ u. length (products t.parts u)) (type_plus (type_at t.parts b) (type_at t.parts c)) i (each-weaker (IsPartOf t.p t.parts t.parts) (λ (q : PartView). length q.entries ≡ length (products t.parts q.at)) t.parts (λ q z. z.full) k.each) in
    found_in (b, c) (products t.parts (type_plus (type_at t.parts b) (type_at t.parts c))) (entries_at t.parts (type_plus (type_at t.parts b) (type_at t.parts c)))
    (product_listed t b c k h g) (omega arith) n

-- where there is an entry the table covers the type
pub entry_covers : (t : Table) (b c : ℕ) (e : Cells) → IsTable t → entry_of t.parts b c ≡ Some e → CoversType t (type_plus (type_at t.parts b) (type_at t.parts c))
entry_covers t b c e k h = elim (entries_where (IsTypeTo t.target t.degree) t.parts (type_plus (type_at t.parts b) (type_at t.parts c)) (shapes t k)) [
  | inl n ↦
      let z : entry_of t.parts b c ≡ None = ap (find_entry (b, c) (products t.parts (type_plus (type_at t.parts b) (type_at t.parts c)))) n
      ∙ find_empty (b, c) (products t.parts (type_plus (type_at t.parts b) (type_at t.parts c))) in
      let q : Some e ≡ None = sym h ∙ z in absurd (cc)
  | inr s ↦ record { within = s.within; degree_le = s.degree_le }
]

pub match_from : {X : Type 0} (o : Option X) (P : X → Type 0) (N C : Type 0) → IfSome o P → IfNone o N → ((r : X) → P r → C) → (N → C → ⊥) → MatchOption o (C → ⊥) (λ r. C)
match_from (Some x) P N C s n f g = f x s
match_from None P N C s n f g = g n

pub some_from : {X : Type 0} (o : Option X) (P Q : X → Type 0) → IfSome o P → ((r : X) → P r → Q r) → IfSome o Q
some_from (Some x) P Q s f = f x s
some_from None P Q s f = tt

-- ---- entries as vectors

-- what holds of each entry holds of the entry of a product
pub find_each : (P : Cells → Type 0) (k : ℕ × ℕ) (xs : List (ℕ × ℕ)) (es : List Cells) (e : Cells) → Each P es → find_entry k xs es ≡ Some e → P e
find_each P k [] es e h q = absurd (cc)
find_each P k (x ∷ xs) [] e h q = absurd (cc)
find_each P k (x ∷ xs) (d ∷ es) e h q = elim (cases_Bool (same_pair x k)) [
  | inl b ↦ let r : Some d ≡ Some e = rw b at q in let s : d ≡ e = cc in subst P s h.0
  | inr b ↦ find_each P k xs es e h.1 (rw b at q)
]

entries_each : (P : Cells → Type 0) (parts : List PartView) (w : List ℕ) → Each (λ (q : PartView). Each P q.entries) parts → Each P (entries_at parts w)
entries_each P [] w h = tt
entries_each P (q ∷ parts) w h = elim (cases_Bool (list_eq q.at w)) [ inl e ↦ rw e h.0 | inr e ↦ rw e (entries_each P parts w h.1) ]

row_vector : (p n : ℕ) (parts : List PartView) (w : List ℕ) (cells : Cells) → length (elems parts) ≡ n → IsRowAmong p (first_of parts w) (dim_of parts w) cells → IsBasisRow p n cells
row_vector p n parts w cells e r = record {
  row = r.row;
  below = λ k d l. (let a = r.high k d l in let b = range_within parts w in omega (arith, a, b));
}

-- an entry is a row over the field and the basis numbers
pub entry_vector : (t : Table) (b c : ℕ) (e : Cells) → IsTable t → entry_of t.parts b c ≡ Some e → IsBasisRow t.p (length (elems t.parts)) e
entry_vector t b c e k h =
    find_each (IsBasisRow t.p (length (elems t.parts))) (b, c) (products t.parts (type_plus (type_at t.parts b) (type_at t.parts c))) (entries_at t.parts (type_plus (type_at t.parts b) (type_at t.parts c))) e
    (entries_each (IsBasisRow t.p (length (elems t.parts))) t.parts (type_plus (type_at t.parts b) (type_at t.parts c))
    (each-weaker (IsPartOf t.p t.parts t.parts) (λ (q : PartView). Each (IsBasisRow t.p (length (elems t.parts))) q.entries) t.parts
    (λ q z. each-weaker (IsRowAmong t.p (first_of t.parts q.at) (dim_of t.parts q.at)) (IsBasisRow t.p (length (elems t.parts))) q.entries
    (λ cells r. row_vector t.p (length (elems t.parts)) t.parts q.at cells refl r) z.rows) k.each)) h

-- ---- one degree more

pub each-in : {X : Type 0} (P : X → Type 0) (xs : List X) → ((x : X) → IsIn x xs → P x) → Each P xs
each-in P [] h = tt
each-in P (x ∷ xs) h = (h x (inl refl), each-in P xs (λ y i. h y (inr i)))

pub new_degrees : (target : List ℕ) (d : ℕ) (new : List PartView) → ats new ≡ types_of target d → Each (λ (q : PartView). sum q.at ≡ d) new
new_degrees target d new e =
    each-unmap (λ w. sum w ≡ d) (λ (q : PartView). q.at) new
    (subst (Each (λ w. sum w ≡ d)) (sym e) (each-weaker (IsTypeWithin target d) (λ w. sum w ≡ d) (types_of target d) (λ w h. h.degree) (types_of-listing target d).each))

pub old_degrees : (t : Table) → IsTable t → Each (λ (q : PartView). sum q.at ≤ t.degree) t.parts
old_degrees t k =
    each-unmap (λ w. sum w ≤ t.degree) (λ (q : PartView). q.at) t.parts
    (each-weaker (IsTypeTo t.target t.degree) (λ w. sum w ≤ t.degree) (ats t.parts) (λ w h. h.degree_le) (shapes t k))

range_kept : (ps new : List PartView) (w : List ℕ) → IsIn w (ats ps) → (first_of (ps ++ new) w ≡ first_of ps w) × (dim_of (ps ++ new) w ≡ dim_of ps w)
range_kept [] new w i = absurd i
range_kept (q ∷ ps) new w i = elim (cases_Bool (list_eq q.at w)) [
  | inl s ↦ (rw s refl, rw s refl)
  | inr s ↦ elim i [
    | inl z ↦ (let y : list_eq q.at w ≡ true = subst (λ u. list_eq q.at u ≡ true) (sym z) (list_eq-itself q.at) in absurd (cc))
    | inr j ↦ let r = range_kept ps new w j in (rw s (ap (λ n. length q.basis + n) r.0), rw s r.1)
  ]
]

part_kept : (p d : ℕ) (ps new : List PartView) (q : PartView) → Each (λ (v : PartView). sum v.at ≡ d) new → sum q.at ≤ d → IsIn q.at (ats ps) →
    IsPartOf p ps ps q → IsPartOf p (ps ++ new) (ps ++ new) q
part_kept p d ps new q e l i h =
    let s : products (ps ++ new) q.at ≡ products ps q.at = products-extend ps new q.at d e l in
    let r = range_kept ps new q.at i in
    record {
      full = h.full ∙ ap length (sym s);
      fits = h.fits;
      elements = subst (λ (ks : List (ℕ × ℕ)). Each (IsElementOf q.at ks) q.basis) (sym s) h.elements;
      rows = subst (λ n. Each (IsRowAmong p n (dim_of (ps ++ new) q.at)) q.entries) (sym r.0) (subst (λ m. Each (IsRowAmong p (first_of ps q.at) m) q.entries) (sym r.1) h.rows);
    }

part_new : (p d : ℕ) (ps new : List PartView) (q : PartView) → Each (λ (v : PartView). sum v.at ≡ d) new → sum q.at ≤ d → IsPartOf p ps (ps ++ new) q → IsPartOf p (ps ++ new) (ps ++ new) q
part_new p d ps new q e l h =
    let s : products (ps ++ new) q.at ≡ products ps q.at = products-extend ps new q.at d e l in
    record {
      full = h.full ∙ ap length (sym s);
      fits = h.fits;
      elements = subst (λ (ks : List (ℕ × ℕ)). Each (IsElementOf q.at ks) q.basis) (sym s) h.elements;
      rows = h.rows;
    }

types_to-more : (target : List ℕ) (d : ℕ) → types_to target (d + 1) ≡ types_to target d ++ types_of target (d + 1)
types_to-more target d =
    let s : d + 1 ≡ suc d = omega arith in let u : 1 + d ≡ d + 1 = omega arith in
    ap (λ n. flat_map (types_of target) (rising 1 n)) s ∙ ap (flat_map (types_of target)) (rising_more 1 d)
    ∙ flat_map-append (types_of target) (rising 1 d) ((1 + d) ∷ [])
    ∙ ap (λ n. types_to target d ++ (types_of target n ++ [])) u
    ∙ ap (λ y. types_to target d ++ y) (append-nil (types_of target (d + 1)))

pub length_gens : (k n : ℕ) → length (map Gen (rising k n)) ≡ n
length_gens k zero = refl
length_gens k (suc n) = ap suc (length_gens (suc k) n)

pub long_enough : (n : ℕ) (es : List Elem) → take n es ≡ map Gen (rising 0 n) → n ≤ length es
long_enough n es h = elim (cases_lt (length es) n) [
  | inr s ↦ s
  | inl s ↦ let a : take n es ≡ es = take_all n es (omega arith) in let l : length es ≡ n = ap length (sym a ∙ h) ∙ length_gens 0 n in omega arith
]

pub extend_table : (t : Table) (new : List PartView) → IsTable t → t.degree < sum t.target → ats new ≡ types_of t.target (t.degree + 1) →
    Each (IsPartOf t.p t.parts (t.parts ++ new)) new → IsCountable (t.parts ++ new) → IsTable (extended t new)
extend_table t new k room types parts countable =
    let n : Each (λ (q : PartView). sum q.at ≡ t.degree + 1) new = new_degrees t.target (t.degree + 1) new types in
    let o : Each (λ (q : PartView). sum q.at ≤ t.degree) t.parts = old_degrees t k in
    let olds : Each (IsPartOf t.p (t.parts ++ new) (t.parts ++ new)) t.parts = each-in (IsPartOf t.p (t.parts ++ new) (t.parts ++ new)) t.parts
    (λ q i. part_kept t.p (t.degree + 1) t.parts new q n (let l : sum q.at ≤ t.degree = each-member (λ (v : PartView). sum v.at ≤ t.degree) t.parts q o i in omega arith)
    (in-map (λ (v : PartView). v.at) q t.parts i) (each-member (IsPartOf t.p t.parts t.parts) t.parts q k.each i)) in
    let news : Each (IsPartOf t.p (t.parts ++ new) (t.parts ++ new)) new = each-in (IsPartOf t.p (t.parts ++ new) (t.parts ++ new)) new
    (λ q i. part_new t.p (t.degree + 1) t.parts new q n (let l : sum q.at ≡ t.degree + 1 = each-member (λ (v : PartView). sum v.at ≡ t.degree + 1) new q n i in omega arith)
    (each-member (IsPartOf t.p t.parts (t.parts ++ new)) new q parts i)) in
    let es : elems (t.parts ++ new) ≡ elems t.parts ++ elems new = flat_map-append (λ (v : PartView). v.basis) t.parts new in
    record {
      field = k.field;
      goal = k.goal;
      started = omega arith;
      within = omega arith;
      types = map-append (λ (v : PartView). v.at) t.parts new ∙ ap (λ xs. xs ++ ats new) k.types ∙ ap (λ xs. types_to t.target t.degree ++ xs) types ∙ sym (types_to-more t.target t.degree);
      each = each-append (IsPartOf t.p (t.parts ++ new) (t.parts ++ new)) t.parts new olds news;
      generators = ap (take (length t.target)) es ∙ take-append-le (length t.target) (elems t.parts) (elems new) (long_enough (length t.target) (elems t.parts) k.generators) ∙ k.generators;
      countable = countable;
    }
