-- Right tables over numbers: each basis number has its monomial, and each basis monomial its number.
use Rattle.std.proofs.Common.{◌≡◌, ℕ, zero, suc, ◌+◌, ◌-◌, ◌<◌, ◌≤◌, false, List, [], ◌∷◌, ◌++◌, map, length, get_or, sym, refl, ap, ◌∙◌, subst, arith, inl, inr, ◌⊎◌}
use Rattle.std.specs.Prelude.{Option, Some, None, unwrap_or}
use Rattle.std.specs.List.{Contains, IsDistinct, AllByRecursion}
use Rattle.std.specs.declared.cmp.Ordering.TheVariants.{Less, Equal}
use Rattle.std.proofs.lemmas.Map.Keys.{Less-from_sorted}
use Rattle.std.proofs.lemmas.Cmp.{tied_itself}
use Rattle.std.proofs.lemmas.Bool.{cases_Bool}
use Rattle.std.proofs.lemmas.List.{get_or-take}
use Rattle.alb_mono.specs.Listing.{Each}
use Rattle.alb_mono.specs.Tree.{Tree, leaf, type_of, cmp_trees, same_tree, rising}
use Rattle.alb_mono.proofs.Order.{cmp_trees_total}
use Rattle.alb_poly.specs.Instance.{Form}
use Rattle.alb_poly.proofs.Consequence.{tree_tells}
use Rattle.alb_rows.specs.Row.{Cells, comb, ColumnsBelow}
use Rattle.alb_table.specs.Table as View
use Rattle.alb_table.specs.Table.{PartView, first_of, dim_of, elems, type_at, entries_at, monos, monos_after, mono_at, entry_of, table_product, Table, IsTable}
use Rattle.alb_table.specs.declared.part.Elem.{Elem}
use Rattle.alb_table.specs.declared.part.Elem.TheVariants.{Gen}
use Rattle.alb_table.specs.Right.{IsOfType, IsBasisTo, IsTypeTo, IsRight, basis_mono, IsNormal}
use Rattle.alb_table.proofs.Numbers.{IsNumbered}
use Rattle.alb_table.specs.RightTable.{basis_monos, mono_entry}
use Rattle.alb_table.proofs.Right.{of_type-within, within-type, within-of_type}
use Rattle.alb_table.proofs.RangeLemmas.{InRange, number_in_range, type_of_range}
use Rattle.alb_table.proofs.TableLemmas.{types_ascend, type_shape, entry_vector, long_enough}
use Rattle.alb_table.proofs.MonoLemmas.{mono_step}
use Rattle.alb_table.proofs.GridLemmas.{get_some}

-- ---- lists of numbers

each-range : (P : Tree → Type 0) (f : ℕ → Tree) (k n b : ℕ) → Each P (map f (rising k n)) → k ≤ b → b < k + n → P (f b)
each-range P f k zero b a l h = absurd (omega arith)
each-range P f k (suc n) b a l h = elim (at_first k b l) [
  | inl e ↦ subst (λ i. P (f i)) e a.0
  | inr m ↦ each-range P f (suc k) n b a.1 m (omega arith)
]
  where
    at_first : (k b : ℕ) → k ≤ b → (k ≡ b) ⊎ (suc k ≤ b)
    at_first k b h = grind arith

range-contains : (f : ℕ → Tree) (k n : ℕ) (x : Tree) → Contains (map f (rising k n)) x → (b : ℕ) × (k ≤ b) × (b < k + n) × (f b ≡ x)
range-contains f k n x h = by_place k n h.0 h.1 h.2
  where
    by_place : (k n i : ℕ) → i < length (map f (rising k n)) → get_or (map f (rising k n)) i x ≡ x → (b : ℕ) × (k ≤ b) × (b < k + n) × (f b ≡ x)
    by_place k zero i l e = absurd (omega arith)
    by_place k (suc n) zero l e = (k, omega arith, omega arith, e)
    by_place k (suc n) (suc i) l e = let w = by_place (suc k) n i (omega arith) e in (w.0, omega (arith, w.1), omega (arith, w.2), w.3)

range-at : (f : ℕ → Tree) (k n i : ℕ) (d : Tree) → i < n → get_or (map f (rising k n)) i d ≡ f (k + i)
range-at f k zero i d l = absurd (omega arith)
range-at f k (suc n) zero d l = ap f (omega arith)
range-at f k (suc n) (suc i) d l = range-at f (suc k) n i d (omega arith) ∙ ap f (omega arith)

length-range : (f : ℕ → Tree) (k n : ℕ) → length (map f (rising k n)) ≡ n
length-range f k zero = refl
length-range f k (suc n) = omega (arith, length-range f (suc k) n)

-- ---- the monomials of elements

length-one : (xs : List Tree) (x : Tree) → length (xs ++ x ∷ []) ≡ length xs + 1
length-one [] x = refl
length-one (y ∷ xs) x = omega (arith, length-one xs x)

length-after : (ms : List Tree) (es : List Elem) → length (monos_after ms es) ≡ length ms + length es
length-after ms [] = omega arith
length-after ms (e ∷ es) = omega (arith, length-after (ms ++ View.mono_of ms e ∷ []) es, length-one ms (View.mono_of ms e))

pub length-monos : (parts : List PartView) → length (monos parts) ≡ length (elems parts)
length-monos parts = omega (arith, length-after [] (elems parts))

-- ---- cells and elements

pub columns-below : (n : ℕ) (cells : Cells) → ColumnsBelow n cells → Each (λ s. s.1 < n) (comb cells)
columns-below n [] h = tt
columns-below n (x ∷ xs) h = (h 0 x (omega arith), columns-below n xs (λ k d l. h (suc k) d (omega arith)))

pub gens-at : (k n i : ℕ) (d : Elem) → i < n → get_or (map Gen (rising k n)) i d ≡ Gen (k + i)
gens-at k zero i d l = absurd (omega arith)
gens-at k (suc n) zero d l = ap Gen (omega arith)
gens-at k (suc n) (suc i) d l = gens-at (suc k) n i d (omega arith) ∙ ap Gen (omega arith)

distinct-later : (x : Tree) (xs : List Tree) → ((j : ℕ) → j < length xs → same_tree x (get_or xs j (leaf 0)) ≡ false) → AllByRecursion (λ y. same_tree x y ≡ false) xs
distinct-later x [] h = tt
distinct-later x (y ∷ ys) h = (h 0 (omega arith), distinct-later x ys (λ j l. h (suc j) (omega arith)))

distinct-from : (xs : List Tree) → ((i j : ℕ) → i < j → j < length xs → same_tree (get_or xs i (leaf 0)) (get_or xs j (leaf 0)) ≡ false) → IsDistinct same_tree xs
unfolding IsDistinct
distinct-from [] h = tt
distinct-from (x ∷ xs) h = (distinct-later x xs (λ j l. h 0 (suc j) (omega arith) (omega arith)), distinct-from xs (λ i j l m. h (suc i) (suc j) (omega arith) (omega arith)))

-- ---- the numbers of basis monomials

module _ (fs : List Form) (t : Table) (tab : IsTable t) (right : IsRight t.p fs t.target t.degree (basis_monos t.parts) (mono_entry t.parts)) where
  -- the type of a number is one of the table's
  pub type-to : (b : ℕ) → b < length (elems t.parts) → IsTypeTo t.target t.degree (type_at t.parts b)
  type-to b h = let s = type_shape t b tab h in record { counts = s.long; le = s.within; degree = s.degree_le }

  in-range : (b : ℕ) → b < length (elems t.parts) → InRange t.parts (type_at t.parts b) b
  in-range b h = number_in_range t.parts b (types_ascend t tab) h

  pub number-type : (b : ℕ) → b < length (elems t.parts) → IsOfType (type_at t.parts b) (mono_at t.parts b)
  number-type b h =
      let r = in-range b h in
      each-range (IsOfType (type_at t.parts b)) (mono_at t.parts) (first_of t.parts (type_at t.parts b)) (dim_of t.parts (type_at t.parts b)) b
      (right.bases (type_at t.parts b) (type-to b h)).types r.low r.high

  number-normal : (b : ℕ) → b < length (elems t.parts) → IsNormal t.p fs (mono_at t.parts b)
  number-normal b h =
      let r = in-range b h in
      each-range (IsNormal t.p fs) (mono_at t.parts) (first_of t.parts (type_at t.parts b)) (dim_of t.parts (type_at t.parts b)) b
      (right.bases (type_at t.parts b) (type-to b h)).normal r.low r.high

  -- each number has a basis monomial
  pub number-basis : (b : ℕ) → b < length (elems t.parts) → IsBasisTo t.p fs t.target t.degree (mono_at t.parts b)
  number-basis b h = record {
    within = of_type-within t.target t.degree (type_at t.parts b) (mono_at t.parts b) (type-to b h) (number-type b h);
    normal = number-normal b h;
  }

  -- and each basis monomial has its number
  pub basis-number : (x : Tree) → IsBasisTo t.p fs t.target t.degree x
      → (b : ℕ) × (b < length (elems t.parts)) × (mono_at t.parts b ≡ x) × InRange t.parts (type_of (length t.target) x) b
  basis-number x h =
      let w : List ℕ = type_of (length t.target) x in
      let c = (right.bases w (within-type t.target t.degree x h.within)).whole x (within-of_type t.target t.degree x h.within) h.normal in
      let n = range-contains (mono_at t.parts) (first_of t.parts w) (dim_of t.parts w) x c in
      let r : InRange t.parts w n.0 = record { low = n.1; high = n.2 } in
      (n.0, (type_of_range t.parts w n.0 r).0, n.3, r)

  -- in a type the monomials ascend
  pub numbers-ascend : (w : List ℕ) (a b : ℕ) → IsTypeTo t.target t.degree w → InRange t.parts w a → InRange t.parts w b → a < b → cmp_trees (mono_at t.parts a) (mono_at t.parts b) ≡ Less
  numbers-ascend w a b ty r s l =
      let f : ℕ = first_of t.parts w in
      let n : ℕ = dim_of t.parts w in
      let long : length (basis_monos t.parts w) ≡ n = length-range (mono_at t.parts) f n in
      let i : ℕ = a - f in
      let j : ℕ = b - f in
      let low : f ≤ a = r.low in
      let low' : f ≤ b = s.low in
      let high : a < f + n = r.high in
      let high' : b < f + n = s.high in
      let ei : get_or (basis_monos t.parts w) i (leaf 0) ≡ mono_at t.parts a = range-at (mono_at t.parts) f n i (leaf 0) (omega arith) ∙ ap (mono_at t.parts) (omega arith) in
      let ej : get_or (basis_monos t.parts w) j (leaf 0) ≡ mono_at t.parts b = range-at (mono_at t.parts) f n j (leaf 0) (omega arith) ∙ ap (mono_at t.parts) (omega arith) in
      let less : cmp_trees (get_or (basis_monos t.parts w) i (leaf 0)) (get_or (basis_monos t.parts w) j (leaf 0)) ≡ Less =
      Less-from_sorted cmp_trees (basis_monos t.parts w) i j (leaf 0) (right.bases w ty).ascends (omega arith) (omega arith) in
      subst (λ x. cmp_trees x (mono_at t.parts b) ≡ Less) ei (subst (λ y. cmp_trees (get_or (basis_monos t.parts w) i (leaf 0)) y ≡ Less) ej less)

  type-equal : (a b : ℕ) → a < length (elems t.parts) → b < length (elems t.parts) → mono_at t.parts a ≡ mono_at t.parts b → type_at t.parts a ≡ type_at t.parts b
  type-equal a b h k e =
      let ta : type_of (length (type_at t.parts a)) (mono_at t.parts a) ≡ type_at t.parts a = (number-type a h).counts in
      let tb : type_of (length (type_at t.parts b)) (mono_at t.parts b) ≡ type_at t.parts b = (number-type b k).counts in
      let la : length (type_at t.parts a) ≡ length t.target = (type-to a h).counts in
      let lb : length (type_at t.parts b) ≡ length t.target = (type-to b k).counts in
      sym ta ∙ ap (λ n. type_of n (mono_at t.parts a)) (la ∙ sym lb) ∙ ap (type_of (length (type_at t.parts b))) e ∙ tb

  pub numbers-differ : (a b : ℕ) → a < b → b < length (elems t.parts) → same_tree (mono_at t.parts a) (mono_at t.parts b) ≡ false
  numbers-differ a b l h = elim (cases_Bool (same_tree (mono_at t.parts a) (mono_at t.parts b))) [
    | inr f ↦ f
    | inl s ↦ (
        let e : mono_at t.parts a ≡ mono_at t.parts b = tree_tells.sound (mono_at t.parts a) (mono_at t.parts b) s in
        let k : a < length (elems t.parts) = omega arith in
        let w : type_at t.parts a ≡ type_at t.parts b = type-equal a b k h e in
        let ra : InRange t.parts (type_at t.parts b) a = subst (λ u. InRange t.parts u a) w (in-range a k) in
        let less : cmp_trees (mono_at t.parts a) (mono_at t.parts b) ≡ Less = numbers-ascend (type_at t.parts b) a b (type-to b h) ra (in-range b h) l in
        let same : cmp_trees (mono_at t.parts a) (mono_at t.parts b) ≡ Equal = ap (cmp_trees (mono_at t.parts a)) (sym e) ∙ tied_itself cmp_trees_total (mono_at t.parts a) in
        absurd (cc))
  ]

  entry-below : (b c : ℕ) (e : Cells) → entry_of t.parts b c ≡ Some e → Each (λ s. s.1 < length (monos t.parts)) (comb e)
  entry-below b c e h = columns-below (length (monos t.parts)) e (λ k d l. omega (arith, length-monos t.parts, (entry_vector t b c e tab h).below k d l))

  product-below : (b c : ℕ) (o : Option Cells) → entry_of t.parts b c ≡ o → Each (λ s. s.1 < length (monos t.parts)) (comb (unwrap_or o []))
  product-below b c None h = tt
  product-below b c (Some e) h = entry-below b c e h

  generator-at : (k : ℕ) → k < length t.target → basis_mono (monos t.parts) k ≡ leaf k
  generator-at k l =
      let many : length t.target ≤ length (elems t.parts) = long_enough (length t.target) (elems t.parts) tab.generators in
      let e : get_or (elems t.parts) k (Gen k) ≡ Gen k =
      sym (get_or-take (length t.target) (elems t.parts) k (Gen k) l) ∙ ap (λ es. get_or es k (Gen k)) tab.generators ∙ gens-at 0 (length t.target) k (Gen k) l ∙ ap Gen zero_plus in
      mono_step t k (Gen k) tab (omega arith) (get_some (elems t.parts) k (Gen k) (omega arith) (sym e))
    where
      zero_plus : 0 + k ≡ k
      zero_plus = omega arith

  -- the basis monomials are numbered
  pub numbered : IsNumbered (length t.target) (monos t.parts) (table_product t.parts)
  numbered = record {
    different = distinct-from (monos t.parts) (λ i j l h. numbers-differ i j l (omega (arith, h, length-monos t.parts)));
    entries = λ b c h k. product-below b c (entry_of t.parts b c) refl;
    many = omega (arith, length-monos t.parts, long_enough (length t.target) (elems t.parts) tab.generators);
    generators = generator-at;
  }
