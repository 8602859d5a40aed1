-- The monomials of the basis elements of a right table, and values of polynomials by them.
use Rattle.std.proofs.Common.{false, ◌≡◌, ℕ, ◌<◌, ◌≤◌, true, [], ◌∷◌, length, sym, refl, ap, ◌∙◌, subst, arith, inl, inr, ◌⊎◌, nat_eq}
use Rattle.std.specs.Prelude.{IsTrue, sum}
use Rattle.std.proofs.lemmas.Bool.{cases_Bool}
use Rattle.std.proofs.lemmas.Bool.Decides.{nat_tests}
use Rattle.gf_field.specs.Modular.{IsSameMod}
use Rattle.gf_field.proofs.Mod.{same}
use Rattle.gf_sums.specs.Sums.{Comb, reindex}
use Rattle.gf_sums.proofs.Alike.{Alike, alike-same, turned, joined, reindex-alike}
use Rattle.alb_mono.specs.Listing.{Each}
use Rattle.alb_mono.specs.Tree.{Tree, degree, are_below, same_tree, AreBelow}
use Rattle.alb_mono.proofs.Leaves.{below_from_test}
use Rattle.alb_mono.proofs.ListingLemmas.{each-weaker}
use Rattle.alb_poly.specs.Textbook.{unit}
use Rattle.alb_poly.specs.Consequence.{IsConsequence}
use Rattle.alb_poly.specs.Poly.{Poly, IsSamePoly}
use Rattle.alb_poly.proofs.Consequence.{tree_tells, alike_poly, poly_alike}
use Rattle.alb_rows.specs.Row.{Cells, comb, AreSameVector}
use Rattle.gf_sums.proofs.Totals.{numbers-tell}
use Rattle.alb_table.specs.Table.{table_product, elems, type_at, monos, mono_at, Table}
use Rattle.alb_table.specs.Laws.{Decides, IsPolyWithin, HasValue, ValuesAgree, ValuesDecide}
use Rattle.alb_table.specs.Right.{IsNormal, poly_value}
use Rattle.alb_table.specs.RightTable.{RulesView, IsRightFor, basis_monos, mono_entry}
use Rattle.alb_table.specs.Value.{generator_vector, table_value}
use Rattle.alb_table.proofs.Coefficients.{each-coefficient}
use Rattle.alb_table.proofs.Congruent.{congruent-alike, congruent-joined}
use Rattle.alb_table.proofs.FirstLemmas.{few_generators}
use Rattle.alb_table.proofs.LawLemmas.{monomial-values-decide}
use Rattle.alb_table.proofs.Numbers.{IsNumbered, value-by_numbers, coefficient-reindex}
use Rattle.alb_table.proofs.Right.{of_type-degree}
use Rattle.alb_table.proofs.RightForLemmas.{right-positive}
use Rattle.alb_table.proofs.RightTables.{columns-below, numbered, number-type, number-basis, numbers-differ}
use Rattle.alb_table.proofs.TableLemmas.{type_shape}
use Rattle.alb_table.proofs.ValueLemmas.{poly-below, generator-unit, zero_exactly}
use Rattle.alb_table.proofs.Within.{test_from_below, below-more}

each-monos : (P : ℕ → Type 0) (Q : Tree → Type 0) (h : ℕ → Tree) → ((i : ℕ) → P i → Q (h i)) → (f : Comb ℕ) → Each (λ s. P s.1) f → Each (λ s. Q s.1) (reindex h f)
each-monos P Q h w [] a = tt
each-monos P Q h w (s ∷ f) a = (w s.1 a.0, each-monos P Q h w f a.1)

sides : (i j : ℕ) → nat_eq i j ≡ false → (i < j) ⊎ (j < i)
sides i j e = grind (arith, nat_tests)

turned_tree : (x y : Tree) → same_tree x y ≡ false → same_tree y x ≡ false
turned_tree x y h = elim (cases_Bool (same_tree y x)) [
  | inl e ↦ let q : y ≡ x = tree_tells.sound y x e in let w : same_tree x y ≡ true = subst (λ z. same_tree x z ≡ true) (sym q) (tree_tells.whole x) in absurd (cc)
  | inr e ↦ e
]

module _ (r : RulesView) (t : Table) (h : IsRightFor r t) where
  -- ---- the monomials of basis elements

  -- they are small
  pub mono-degree : (b : ℕ) → b < length (elems t.parts) → degree (mono_at t.parts b) ≤ 64
  mono-degree b l =
      let e : degree (mono_at t.parts b) ≡ sum (type_at t.parts b) = of_type-degree (type_at t.parts b) (mono_at t.parts b) (number-type r.forms t h.table h.right.right b l) in
      let d : sum (type_at t.parts b) ≤ t.degree = (type_shape t b h.table l).degree_le in
      let w : t.degree ≤ sum t.target = h.table.within in
      let s : sum t.target ≤ 12 = h.table.goal.small in omega arith

  -- and have the letters of the generators
  pub mono-below : (n b : ℕ) → length t.target ≤ n → b < length (elems t.parts) → IsTrue (are_below n (mono_at t.parts b))
  mono-below n b few l =
      let e : length (type_at t.parts b) ≡ length t.target = (type_shape t b h.table l).long in
      test_from_below n (mono_at t.parts b) (below-more (length (type_at t.parts b)) n (mono_at t.parts b) (omega arith)
      (below_from_test (length (type_at t.parts b)) (mono_at t.parts b) (number-type r.forms t h.table h.right.right b l).below))

  pub mono-letters : (b : ℕ) → b < length (elems t.parts) → IsTrue (are_below 26 (mono_at t.parts b))
  mono-letters b l = let f = few_generators t.target h.table.goal in mono-below 26 b (omega arith) l

  pub mono-known : (b : ℕ) → b < length (elems t.parts) → IsTrue (are_below (length t.target) (mono_at t.parts b))
  mono-known b l = mono-below (length t.target) b (omega arith) l

  others : (i j : ℕ) → i < length (elems t.parts) → j < length (elems t.parts) → nat_eq i j ≡ false → same_tree (mono_at t.parts i) (mono_at t.parts j) ≡ false
  others i j a b e = elim (sides i j e) [
    | inl l ↦ numbers-differ r.forms t h.table h.right.right i j l b
    | inr l ↦ turned_tree (mono_at t.parts j) (mono_at t.parts i) (numbers-differ r.forms t h.table h.right.right j i l a)
  ]

  -- different basis elements have different monomials
  pub monos-apart : (i j : ℕ) → i < length (elems t.parts) → j < length (elems t.parts) → same_tree (mono_at t.parts i) (mono_at t.parts j) ≡ nat_eq i j
  monos-apart i j a b = elim (cases_Bool (nat_eq i j)) [
    | inl e ↦ let q : i ≡ j = numbers-tell.sound i j e in rw (e, q) (tree_tells.whole (mono_at t.parts j))
    | inr e ↦ rw e (others i j a b e)
  ]

  -- ---- values

  is-numbered : IsNumbered (length t.target) (monos t.parts) (table_product t.parts)
  is-numbered = numbered r.forms t h.table h.right.right

  module _ (g : Poly) (within : IsPolyWithin t g) where
    below : Each (λ s. AreBelow (length t.target) s.1) g
    below = each-weaker _ _ g (λ s w. below_from_test (length t.target) s.1 w.below) within

    -- the value over numbers is that over monomials
    pub value-monos : reindex (mono_at t.parts) (table_value t g) ≡ poly_value (mono_entry t.parts) g
    value-monos =
        ap (reindex (mono_at t.parts)) (poly-below (table_product t.parts) (generator_vector (length t.target)) (λ k. unit k) (length t.target) g (generator-unit (length t.target)) below)
        ∙ value-by_numbers (length t.target) (monos t.parts) (table_product t.parts) is-numbered g below

    module _ (cells : Cells) (v : HasValue t g cells) where
      -- the polynomial of the row
      abbrev row : Poly
      row = reindex (mono_at t.parts) (comb cells)

      pub row-alike : Alike t.p row (poly_value (mono_entry t.parts) g)
      row-alike = subst (Alike t.p row) value-monos (reindex-alike (mono_at t.parts) (alike-same nat_eq numbers-tell v.value))

      columns : Each (λ s. s.1 < length (elems t.parts)) (comb cells)
      columns = columns-below (length (elems t.parts)) cells v.row.below

      by-value : Decides t.p r.forms g (poly_value (mono_entry t.parts) g)
      by-value = monomial-values-decide t.p r.forms t.target t.degree (basis_monos t.parts) (mono_entry t.parts) g (right-positive r t h) h.multilinear h.high h.right.right within

      -- the row decides the polynomial
      decides : Decides t.p r.forms g row
      decides = record {
        normal = each-monos (λ i. i < length (elems t.parts)) (IsNormal t.p r.forms) (mono_at t.parts) (λ i l. (number-basis r.forms t h.table h.right.right i l).normal) (comb cells) columns;
        congruent = congruent-joined t.p r.forms (right-positive r t h) by-value.congruent (congruent-alike t.p r.forms (right-positive r t h) (turned row-alike));
        unique = λ f n c. poly_alike {f = f} {g = row} (joined (alike_poly {f = f} (by-value.unique f n c)) (turned row-alike));
        zero = (
          λ z. by-value.zero.0 (poly_alike {g = []} (joined (turned row-alike) (alike_poly {g = []} z))),
          λ c. poly_alike {g = []} (joined row-alike (alike_poly {g = []} (by-value.zero.1 c))),
        );
      }

      row-zero : IsSamePoly t.p row [] → AreSameVector t.p (comb cells) []
      row-zero z = λ j. elim (each-coefficient nat_eq numbers-tell (λ i. i < length (elems t.parts)) (comb cells) j columns) [
        | inl l ↦ subst (λ n. IsSameMod t.p n 0) (coefficient-reindex (λ i. i < length (elems t.parts)) nat_eq same_tree (mono_at t.parts) monos-apart (comb cells) j l columns) (z (mono_at t.parts j))
        | inr e ↦ subst (λ n. IsSameMod t.p n 0) (sym e) (same refl)
      ]

      -- an empty row: the polynomial is a consequence
      pub empty-consequence : cells ≡ [] → IsConsequence t.p r.forms g
      empty-consequence e = decides.zero.0 (subst (λ c. IsSamePoly t.p (reindex (mono_at t.parts) (comb c)) []) (sym e) (λ x. same refl))

      -- and a consequence has the empty row
      pub consequence-empty : IsConsequence t.p r.forms g → cells ≡ []
      consequence-empty c = (zero_exactly t.p (length (elems t.parts)) cells (comb cells) v.row (λ j. same refl)).1 (row-zero (decides.zero.1 c))

pub values-agree : ValuesAgree
values-agree r t g h within = value-monos r t h g within

pub values-decide : ValuesDecide
values-decide r t g cells h within v = record {
  decides = decides r t h g within cells v;
  empty = (empty-consequence r t h g within cells v, consequence-empty r t h g within cells v);
}
