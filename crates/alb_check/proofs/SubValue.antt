-- Values in the sub-table of a right table are values in the algebra of the basis monomials up to a type.
use Rattle.std.proofs.Common.{◌≡◌, ℕ, ◌+◌, ◌-◌, ◌<◌, ◌==◌, Bool, true, false, ◌&&◌, List, [], ◌∷◌, map, length, get_or, replicate, nat_eq, sym, refl, ap, ◌∙◌, subst, arith, inl, inr, ◌⊎◌}
use Rattle.std.specs.Prelude.{Option, None, Some, unwrap_or}
use Rattle.std.specs.List.{filter, flat_map}
use Rattle.std.proofs.lemmas.Bool.{cases_Bool, false≢true, eqb-true, eq-eqb}
use Rattle.std.proofs.lemmas.Bool.Decides.{nat_tests}
use Rattle.std.proofs.lemmas.List.{get_or-map, length-map, length-replicate}
use Rattle.gf_field.specs.Modular.{IsSameMod}
use Rattle.gf_field.proofs.Mod.{same}
use Rattle.gf_sums.specs.Sums.{Comb, reindex}
use Rattle.gf_sums.proofs.Alike.{Alike}
use Rattle.alb_mono.specs.Listing.{Each}
use Rattle.alb_mono.specs.Tree.{Tree, leaf, node, type_of, type_le, type_plus, are_below, same_tree, rising}
use Rattle.alb_mono.proofs.Leaves.{plus-node, plus_replicate}
use Rattle.alb_mono.proofs.ListingLemmas.{each-weaker, each-flat}
use Rattle.alb_poly.specs.Textbook.{unit}
use Rattle.alb_poly.specs.Instance.{Form}
use Rattle.alb_poly.proofs.Consequence.{tree_tells, poly_alike}
use Rattle.alb_problem.specs.Satisfied.{AreSameVectors}
use Rattle.alb_rows.specs.Row.{Cells, comb}
use Rattle.alb_table.specs.Table.{entry_of, table_product, elems, type_at, monos, mono_at, Table, IsTable}
use Rattle.alb_table.specs.Right.{IsRight, IsTypeTo}
use Rattle.alb_table.specs.RightTable.{basis_monos, mono_entry}
use Rattle.alb_table.proofs.Coefficients.{each-coefficient}
use Rattle.alb_table.proofs.Numbers.{entry-respects, coefficient-reindex}
use Rattle.alb_table.proofs.Image.{filter-all}
use Rattle.alb_table.proofs.RightTables.{length-monos, number-type, numbers-differ, numbered}
use Rattle.alb_table.proofs.TableLemmas.{type_shape}
use Rattle.alb_check.specs.declared.raw.RawEntry.{RawEntry}
use Rattle.alb_check.specs.SubTable.{is_kept, kept_elements, number_of, generator_number, row_entries, product_entries, sub_table}
use Rattle.alb_check.specs.TableAlgebra.{vector_of, element_product, generator_value, at_element, IsElement}
use Rattle.alb_check.proofs.Cut.{cut, cut_unit, passes_type}
use Rattle.alb_check.proofs.Passing.{filter-flat, filter-none, flat-one, place-number, rising-get}
use Rattle.alb_check.proofs.SubShape.{IsKept, IsEntryOf, length-rising, kept-each, number-less, number-get, cells-kept, product-each, generator-below}
use Rattle.alb_check.proofs.VectorLemmas.{numbers_tell}

-- ---- types

type-node : (n : ℕ) (l r : Tree) → type_of n (node l r) ≡ type_plus (type_of n l) (type_of n r)
type-node n l r =
    sym (plus_replicate n (node l r)) ∙ sym (plus-node (replicate n 0) n l r (length-replicate n 0)) ∙ ap (λ w. type_plus w (type_of n r)) (plus_replicate n l)

-- ---- the elements by their numbers

-- the basis element with a number in the sub-table, and its monomial
abbrev pub basis_of : Table → List ℕ → ℕ → ℕ
basis_of t top k = get_or (kept_elements t top) (k - 1) 0

abbrev pub mono_with : Table → List ℕ → ℕ → Tree
mono_with t top k = mono_at t.parts (basis_of t top k)

pub record HasNumber (t : Table) (top : List ℕ) (k : ℕ) : Type 0 where
  pub kept : IsKept t top (basis_of t top k)
  pub number : number_of t top (basis_of t top k) ≡ k

module _ (t : Table) (top : List ℕ) (tab : IsTable t) where
  pub has-number : (k : ℕ) → IsElement (sub_table t top) k → HasNumber t top k
  has-number k h =
      let long : length (map (type_at t.parts) (kept_elements t top)) ≡ length (kept_elements t top) = length-map (kept_elements t top) (type_at t.parts) in
      let r = place-number (is_kept t top) (length (elems t.parts)) (k - 1) (omega (arith, h.low, h.high, long)) in
      let kept : IsKept t top r.0 = record { below = r.1.below; passes = r.1.passes } in
      let number : number_of t top r.0 ≡ k = omega (arith, r.1.place, h.low) in
      let e : basis_of t top k ≡ r.0 = ap (basis_of t top) (sym number) ∙ number-get t top tab r.0 0 kept in
      record { kept = subst (IsKept t top) (sym e) kept; number = ap (number_of t top) e ∙ number }

  pub mono-number : (b : ℕ) → IsKept t top b → mono_with t top (number_of t top b) ≡ mono_at t.parts b
  mono-number b h = ap (mono_at t.parts) (number-get t top tab b 0 h)

  numbers-apart : (b c : ℕ) → IsKept t top b → IsKept t top c → (b ≡ c → ⊥) → number_of t top b ≡ number_of t top c → ⊥
  numbers-apart b c h k n e = elim (sides b c n) [
    | inl l ↦ omega (arith, e, number-less t top tab b c h l)
    | inr l ↦ omega (arith, e, number-less t top tab c b k l)
  ]
    where
      sides : (b c : ℕ) → (b ≡ c → ⊥) → (b < c) ⊎ (c < b)
      sides b c n = grind arith

  -- ---- products

  -- the entries of a pair of basis elements are those of its product
  module _ (b c : ℕ) (hb : IsKept t top b) (hc : IsKept t top c) where
    of_pair : RawEntry → Bool
    of_pair e = e.left == number_of t top b && e.right == number_of t top c

    other_left : (x y : ℕ) (e : RawEntry) → IsKept t top x → IsEntryOf t top x y e → (x ≡ b → ⊥) → of_pair e ≡ false
    unfolding of_pair
    other_left x y e hx h n = not_left e.left e.right (number_of t top b) (number_of t top c) (λ q. numbers-apart x b hx hb n (sym h.left ∙ q))
      where
        not_left : (a d i j : ℕ) → (a ≡ i → ⊥) → (a == i && d == j) ≡ false
        not_left a d i j n = grind (arith, nat_tests)

    other_right : (y : ℕ) (e : RawEntry) → IsKept t top y → IsEntryOf t top b y e → (y ≡ c → ⊥) → of_pair e ≡ false
    unfolding of_pair
    other_right y e hy h n = not_right e.left e.right (number_of t top b) (number_of t top c) (λ q. numbers-apart y c hy hc n (sym h.right ∙ q))
      where
        not_right : (a d i j : ℕ) → (d ≡ j → ⊥) → (a == i && d == j) ≡ false
        not_right a d i j n = grind (arith, nat_tests)

    same_pair : (e : RawEntry) → IsEntryOf t top b c e → of_pair e ≡ true
    unfolding of_pair
    same_pair e h = both e.left e.right (number_of t top b) (number_of t top c) h.left h.right
      where
        both : (a d i j : ℕ) → a ≡ i → d ≡ j → (a == i && d == j) ≡ true
        both a d i j h k = grind (arith, nat_tests)

    of-left : filter of_pair (flat_map (product_entries t top b) (kept_elements t top)) ≡ product_entries t top b c
    of-left =
        filter-flat of_pair (product_entries t top b) (kept_elements t top)
        ∙ flat-one (is_kept t top) (λ y. filter of_pair (product_entries t top b y)) (length (elems t.parts)) c hc.below hc.passes
        (λ y l k n. filter-none of_pair (product_entries t top b y)
        (each-weaker (IsEntryOf t top b y) _ (product_entries t top b y) (λ e h. other_right y e (record { below = l; passes = k }) h n) (product-each t top tab b y)))
        ∙ filter-all of_pair (product_entries t top b c) (each-weaker (IsEntryOf t top b c) _ (product_entries t top b c) same_pair (product-each t top tab b c))

    of-all : filter of_pair (sub_table t top).entries ≡ product_entries t top b c
    of-all =
        filter-flat of_pair (λ x. flat_map (product_entries t top x) (kept_elements t top)) (kept_elements t top)
        ∙ flat-one (is_kept t top) (λ x. filter of_pair (flat_map (product_entries t top x) (kept_elements t top))) (length (elems t.parts)) b hb.below hb.passes
        (λ x l k n. filter-none of_pair (flat_map (product_entries t top x) (kept_elements t top))
        (each-flat (λ e. of_pair e ≡ false) (product_entries t top x) (kept_elements t top) (kept-each t top tab _ (λ y hy.
        each-weaker (IsEntryOf t top x y) _ (product_entries t top x y) (λ e h. other_left x y e (record { below = l; passes = k }) h n) (product-each t top tab x y)))))
        ∙ of-left

    pub product-entries : element_product (sub_table t top) (number_of t top b) (number_of t top c) ≡ vector_of (product_entries t top b c)
    unfolding of_pair
    product-entries = ap vector_of of-all

  row-monos : (b c : ℕ) (e : Cells) → Each (λ cell. IsKept t top cell.0) e →
      reindex (mono_with t top) (vector_of (row_entries (number_of t top) b c e)) ≡ reindex (mono_at t.parts) (comb e)
  row-monos b c [] h = refl
  row-monos b c (cell ∷ e) h = rw (mono-number cell.0 h.0, row-monos b c e h.1) refl

  product-monos : (b c : ℕ) → type_le (type_plus (type_at t.parts b) (type_at t.parts c)) top ≡ true →
      reindex (mono_with t top) (vector_of (row_entries (number_of t top) b c (unwrap_or (entry_of t.parts b c) []))) ≡ reindex (mono_at t.parts) (table_product t.parts b c)
  product-monos b c h = by_entry (entry_of t.parts b c) refl
    where
      by_entry : (o : Option Cells) → entry_of t.parts b c ≡ o →
          reindex (mono_with t top) (vector_of (row_entries (number_of t top) b c (unwrap_or o []))) ≡ reindex (mono_at t.parts) (comb (unwrap_or o []))
      by_entry None k = refl
      by_entry (Some e) k = row-monos b c e (cells-kept t top tab b c e h k)

-- ---- the monomials of the basis elements

module _ (fs : List Form) (t : Table) (tab : IsTable t) (right : IsRight t.p fs t.target t.degree (basis_monos t.parts) (mono_entry t.parts)) where
  -- they differ
  pub monos-apart : (i j : ℕ) → i < length (elems t.parts) → j < length (elems t.parts) → same_tree (mono_at t.parts i) (mono_at t.parts j) ≡ nat_eq i j
  monos-apart i j h k = elim (three i j) [
    | inl e ↦ ap (λ n. same_tree (mono_at t.parts i) (mono_at t.parts n)) (sym e) ∙ tree_tells.whole (mono_at t.parts i) ∙ sym (eq-eqb i j e)
    | inr r ↦ elim r [
      | inl l ↦ numbers-differ fs t tab right i j l k ∙ sym (differ i j (λ e. omega (arith, e)))
      | inr l ↦ turned_false (mono_at t.parts j) (mono_at t.parts i) (numbers-differ fs t tab right j i l h) ∙ sym (differ i j (λ e. omega (arith, e)))
    ]
  ]
    where
      three : (a b : ℕ) → (a ≡ b) ⊎ ((a < b) ⊎ (b < a))
      three a b = grind arith

      differ : (i j : ℕ) → (i ≡ j → ⊥) → nat_eq i j ≡ false
      differ i j n = elim (cases_Bool (nat_eq i j)) [ inl e ↦ absurd (n (eqb-true i j e)) | inr e ↦ e ]

      turned_false : (x y : Tree) → same_tree x y ≡ false → same_tree y x ≡ false
      turned_false x y n = elim (cases_Bool (same_tree y x)) [
        | inr m ↦ m
        | inl m ↦ absurd (false≢true (sym n ∙ ap (same_tree x) (tree_tells.sound y x m) ∙ tree_tells.whole x))
      ]

-- ---- the algebra of the basis monomials up to the type

module _ (fs : List Form) (t : Table) (top : List ℕ) (tab : IsTable t) (right : IsRight t.p fs t.target t.degree (basis_monos t.parts) (mono_entry t.parts))
    (ty : IsTypeTo t.target t.degree top) where
  mono-below : (b : ℕ) → b < length (elems t.parts) → are_below (length top) (mono_at t.parts b) ≡ true
  mono-below b h = subst (λ n. are_below n (mono_at t.parts b) ≡ true) ((type_shape t b tab h).long ∙ sym ty.counts) (number-type fs t tab right b h).below

  mono-type : (b : ℕ) → b < length (elems t.parts) → type_of (length top) (mono_at t.parts b) ≡ type_at t.parts b
  mono-type b h = ap (λ n. type_of n (mono_at t.parts b)) (sym ((type_shape t b tab h).long ∙ sym ty.counts)) ∙ (number-type fs t tab right b h).counts

  -- the monomials of the elements pass
  pub mono-passes : (b : ℕ) → IsKept t top b → passes_type top (mono_at t.parts b) ≡ true
  mono-passes b h = rw (mono-below b h.below, mono-type b h.below, h.passes) refl

  product-passes : (b c : ℕ) → b < length (elems t.parts) → c < length (elems t.parts) →
      passes_type top (node (mono_at t.parts b) (mono_at t.parts c)) ≡ type_le (type_plus (type_at t.parts b) (type_at t.parts c)) top
  product-passes b c h k =
      rw (mono-below b h, mono-below c k)
      (ap (λ w. type_le w top) (type-node (length top) (mono_at t.parts b) (mono_at t.parts c)
      ∙ ap (λ w. type_plus w (type_of (length top) (mono_at t.parts c))) (mono-type b h) ∙ ap (type_plus (type_at t.parts b)) (mono-type c k)))

  entry-monos : (b c : ℕ) → b < length (elems t.parts) → c < length (elems t.parts) →
      reindex (mono_at t.parts) (table_product t.parts b c) ≡ mono_entry t.parts (mono_at t.parts b) (mono_at t.parts c)
  entry-monos b c h k = entry-respects (length t.target) (monos t.parts) (table_product t.parts) (numbered fs t tab right) b c
      (omega (arith, length-monos t.parts)) (omega (arith, length-monos t.parts))

  pair-respects : (b c : ℕ) → IsKept t top b → IsKept t top c →
      reindex (mono_with t top) (element_product (sub_table t top) (number_of t top b) (number_of t top c)) ≡ cut (passes_type top) (mono_entry t.parts) (mono_at t.parts b) (mono_at t.parts c)
  pair-respects b c h k =
      ap (reindex (mono_with t top)) (product-entries t top tab b c h k)
      ∙ elim (cases_Bool (type_le (type_plus (type_at t.parts b) (type_at t.parts c)) top)) [
        | inl e ↦ rw (product-passes b c h.below k.below, e) (product-monos t top tab b c e ∙ entry-monos b c h.below k.below)
        | inr e ↦ rw (product-passes b c h.below k.below, e) refl
      ]

  -- products
  pub sub-respects : (i j : ℕ) → IsElement (sub_table t top) i → IsElement (sub_table t top) j →
      reindex (mono_with t top) (element_product (sub_table t top) i j) ≡ cut (passes_type top) (mono_entry t.parts) (mono_with t top i) (mono_with t top j)
  sub-respects i j h k =
      let x = has-number t top tab i h in
      let y = has-number t top tab j k in
      ap (λ n. reindex (mono_with t top) (element_product (sub_table t top) n j)) (sym x.number)
      ∙ ap (λ n. reindex (mono_with t top) (element_product (sub_table t top) (number_of t top (basis_of t top i)) n)) (sym y.number)
      ∙ pair-respects (basis_of t top i) (basis_of t top j) x.kept y.kept

  -- generators
  pub sub-generators : (g : ℕ) → g < length t.target → reindex (mono_with t top) (generator_value (sub_table t top) g) ≡ cut_unit (passes_type top) g
  sub-generators g h =
      let n : get_or (map (generator_number t top) (rising 0 (length t.target))) g None ≡ generator_number t top g =
      get_or-map (generator_number t top) (rising 0 (length t.target)) g 0 None (omega (arith, length-rising 0 (length t.target)))
      ∙ ap (generator_number t top) (rising-get 0 (length t.target) g 0 h ∙ zero_plus g) in
      let m : mono_at t.parts g ≡ leaf g = (numbered fs t tab right).generators g h in
      let l : g < length (elems t.parts) = generator-below t top tab ty.counts g h in
      ap (λ o. reindex (mono_with t top) (at_element o)) n
      ∙ elim (cases_Bool (is_kept t top g)) [
        | inl k ↦
            let here : IsKept t top g = record { below = l; passes = k } in
            let pass : passes_type top (leaf g) ≡ true = ap (passes_type top) (sym m) ∙ mono-passes g here in
            rw (k, pass) (ap unit (mono-number t top tab g here ∙ m))
        | inr k ↦
            let pass : passes_type top (leaf g) ≡ false = ap (passes_type top) (sym m) ∙ rw (mono-below g l, mono-type g l, k) refl in
            rw (k, pass) refl
      ]
    where
      zero_plus : (g : ℕ) → 0 + g ≡ g
      zero_plus g = omega arith

  -- different elements have different monomials
  pub sub-apart : (i j : ℕ) → IsElement (sub_table t top) i → IsElement (sub_table t top) j → same_tree (mono_with t top i) (mono_with t top j) ≡ nat_eq i j
  sub-apart i j h k =
      let x = has-number t top tab i h in
      let y = has-number t top tab j k in
      monos-apart fs t tab right (basis_of t top i) (basis_of t top j) x.kept.below y.kept.below
      ∙ same_test (basis_of t top i) (basis_of t top j) i j (λ e. sym x.number ∙ ap (number_of t top) e ∙ y.number) (ap (basis_of t top))
    where
      same_test : (a b i j : ℕ) → (a ≡ b → i ≡ j) → (i ≡ j → a ≡ b) → nat_eq a b ≡ nat_eq i j
      same_test a b i j to from = elim (cases_Bool (nat_eq i j)) [
        | inl e ↦ eq-eqb a b (from (eqb-true i j e)) ∙ sym e
        | inr n ↦ elim (cases_Bool (nat_eq a b)) [
          | inl e ↦ absurd (false≢true (sym n ∙ eq-eqb i j (to (eqb-true a b e))))
          | inr e ↦ e ∙ sym n
        ]
      ]

  -- a combination of elements whose monomials add up to zero is zero
  pub sub-zero : (f : Comb ℕ) → Each (λ s. IsElement (sub_table t top) s.1) f → Alike t.p (reindex (mono_with t top) f) [] → AreSameVectors t.p f []
  sub-zero f a z i = elim (each-coefficient (λ i j. nat_eq i j) numbers_tell (IsElement (sub_table t top)) f i a) [
    | inr e ↦ same e
    | inl h ↦ subst (λ n. IsSameMod t.p n 0)
        (coefficient-reindex (IsElement (sub_table t top)) (λ i j. nat_eq i j) same_tree (mono_with t top) sub-apart f i h a) (poly_alike z (mono_with t top i))
  ]
