-- The sub-table of a right table, up to the first type of a polynomial's normal form, refutes the polynomial.
use Rattle.std.proofs.Common.{◌≡◌, ℕ, ◌<◌, true, List, [], length, map, get_or, sum, sym, ap, ◌∙◌, subst, arith, inl, inr, ◌⊎◌}
use Rattle.std.proofs.lemmas.List.{get_or-map, length-map}
use Rattle.gf_sums.specs.Sums.{reindex}
use Rattle.gf_sums.proofs.Alike.{Alike, reindex-alike}
use Rattle.alb_mono.specs.Listing.{Each}
use Rattle.alb_mono.specs.Tree.{leaf, AreBelow}
use Rattle.alb_mono.proofs.Leaves.{below_from_test}
use Rattle.alb_mono.proofs.ListingLemmas.{each-at}
use Rattle.alb_poly.specs.Textbook.{evaluate, evaluate_poly, unit}
use Rattle.alb_poly.specs.Poly.{Poly}
use Rattle.alb_poly.specs.Instance.{Form, IsMultilinear}
use Rattle.alb_poly.specs.Consequence.{form_at, IsConsequence, AreMultilinear}
use Rattle.alb_poly.proofs.Multilinear.{each-from, each-flat, multilinear-below}
use Rattle.alb_poly.proofs.Parts.{multilinear_at}
use Rattle.alb_table.specs.Right.{AreHigh, IsRight, IsTypeTo, IsWithinDegree, IsBasisTo, poly_value}
use Rattle.alb_table.specs.RightTable.{basis_monos, mono_entry}
use Rattle.alb_table.specs.Table.{Table, IsTable}
use Rattle.alb_table.proofs.Bases as monomials
use Rattle.alb_table.proofs.GeneratorLemmas.{above_one}
use Rattle.alb_table.proofs.Numbers.{evaluate-each, poly-reindex}
use Rattle.alb_table.proofs.Right.{right-table, of_type-degree}
use Rattle.alb_table.proofs.RightTables.{number-basis}
use Rattle.alb_table.proofs.Values.{each-scale, value-consequence}
use Rattle.alb_table.proofs.Within.{degree-positive}
use Rattle.alb_check.specs.SubTable.{sub_table, IsFirstType}
use Rattle.alb_check.specs.TableAlgebra.{element_product, generator_value, value, units, form_value, IsElement, IsTuple, IsZeroAtTuples}
use Rattle.alb_check.specs.Verdict.{IsModel, IsTableVerdict}
use Rattle.alb_check.specs.Verdict.TableVerdict.{Refuted}
use Rattle.alb_check.proofs.CheckLemmas.{each_from_places}
use Rattle.alb_check.proofs.Cut.{cut, cut_unit, cut_value, cut-satisfies, passes_type, types-cut}
use Rattle.alb_check.proofs.FirstPart.{sub-nonzero, sub-found}
use Rattle.alb_check.proofs.SubShape.{shape-from, sub-shaped, sub-raw}
use Rattle.alb_check.proofs.SubValue.{mono_with, basis_of, has-number, mono-passes, sub-respects, sub-generators, sub-zero}
use Rattle.alb_check.proofs.TableLemmas.{product_closed, generator_over}
use Rattle.alb_check.proofs.VectorLemmas.{vector_alike}

module _ (fs : List Form) (t : Table) (top : List ℕ) (tab : IsTable t) (right : IsRight t.p fs t.target t.degree (basis_monos t.parts) (mono_entry t.parts))
    (ty : IsTypeTo t.target t.degree top) (some : 0 < sum top) where
  closed : (i j : ℕ) → IsElement (sub_table t top) i → IsElement (sub_table t top) j → Each (λ s. IsElement (sub_table t top) s.1) (element_product (sub_table t top) i j)
  closed i j h k = product_closed t.p t.target (sub_table t top) (sub-raw t top tab ty.counts) (sub-shaped t top tab ty some) i j h k

  -- ---- the value of a polynomial

  pub sub-value : (g : Poly) → Each (λ s. AreBelow (length t.target) s.1) g →
      reindex (mono_with t top) (value (sub_table t top) g) ≡ cut_value (passes_type top) (mono_entry t.parts) g
  sub-value g a = poly-reindex (IsElement (sub_table t top)) (mono_with t top) (element_product (sub_table t top)) (cut (passes_type top) (mono_entry t.parts)) closed
      (sub-respects fs t top tab right ty) (generator_value (sub_table t top)) (cut_unit (passes_type top)) (length t.target)
      (λ k l. generator_over t.p t.target (sub_table t top) (sub-raw t top tab ty.counts) (sub-shaped t top tab ty some) k)
      (sub-generators fs t top tab right ty) g a

  -- ---- the values of forms at tuples

  module _ (f : Form) (multi : Each (λ s. IsMultilinear f.degree s.1) f.terms) (ks : List ℕ) (tuple : IsTuple (sub_table t top) f ks) where
    unit-at : (k : ℕ) → k < f.degree → units ks k ≡ unit (get_or ks k 0)
    unit-at k l = get_or-map unit ks k 0 [] (omega (arith, tuple.long))

    mono-at : (k : ℕ) → k < f.degree → get_or (map (mono_with t top) ks) k (leaf k) ≡ mono_with t top (get_or ks k 0)
    mono-at k l = get_or-map (mono_with t top) ks k 0 (leaf k) (omega (arith, tuple.long))

    pub element-at : (k : ℕ) → k < f.degree → IsElement (sub_table t top) (get_or ks k 0)
    element-at k l = each-at (IsElement (sub_table t top)) ks k 0 tuple.elements (omega (arith, tuple.long))

    unit-elements : (k : ℕ) → k < f.degree → Each (λ s. IsElement (sub_table t top) s.1) (units ks k)
    unit-elements k l = subst (Each (λ s. IsElement (sub_table t top) s.1)) (sym (unit-at k l)) (element-at k l, tt)

    unit-monos : (k : ℕ) → k < f.degree → reindex (mono_with t top) (units ks k) ≡ unit (get_or (map (mono_with t top) ks) k (leaf k))
    unit-monos k l = ap (reindex (mono_with t top)) (unit-at k l) ∙ ap unit (sym (mono-at k l))

    below : Each (λ s. AreBelow f.degree s.1) f.terms
    below = each-from _ _ f.terms (λ s m. multilinear-below f.degree s.1 m) multi

    pub tuple-value : reindex (mono_with t top) (form_value (sub_table t top) f ks)
        ≡ evaluate_poly (cut (passes_type top) (mono_entry t.parts)) (λ k. unit (get_or (map (mono_with t top) ks) k (leaf k))) f.terms
    tuple-value = poly-reindex (IsElement (sub_table t top)) (mono_with t top) (element_product (sub_table t top)) (cut (passes_type top) (mono_entry t.parts)) closed
        (sub-respects fs t top tab right ty) (units ks) (λ k. unit (get_or (map (mono_with t top) ks) k (leaf k))) f.degree unit-elements unit-monos f.terms below

    pub tuple-elements : Each (λ s. IsElement (sub_table t top) s.1) (form_value (sub_table t top) f ks)
    tuple-elements = each-flat (λ s. AreBelow f.degree s.1) (λ s. IsElement (sub_table t top) s.1) _ f.terms
        (λ s b. each-scale (IsElement (sub_table t top)) s.0 (evaluate (element_product (sub_table t top)) (units ks) s.1)
        (evaluate-each (IsElement (sub_table t top)) (mono_with t top) (element_product (sub_table t top)) (cut (passes_type top) (mono_entry t.parts)) closed
        (sub-respects fs t top tab right ty) (units ks) (λ k. unit (get_or (map (mono_with t top) ks) k (leaf k))) f.degree unit-elements unit-monos s.1 b)) below

    -- the monomials are basis monomials that pass
    pub mono-basis : (k : ℕ) → k < f.degree →
        IsBasisTo t.p fs t.target t.degree (get_or (map (mono_with t top) ks) k (leaf k)) × (passes_type top (get_or (map (mono_with t top) ks) k (leaf k)) ≡ true)
    mono-basis k l =
        let h = has-number t top tab (get_or ks k 0) (element-at k l) in
        subst (λ x. IsBasisTo t.p fs t.target t.degree x × (passes_type top x ≡ true)) (sym (mono-at k l))
        (number-basis fs t tab right (basis_of t top (get_or ks k 0)) h.kept.below, mono-passes fs t top tab right ty (basis_of t top (get_or ks k 0)) h.kept)

  module _ (multi : AreMultilinear fs) (high : AreHigh fs) where
    positive : 0 < t.p
    positive = omega (arith, above_one t tab)

    table : monomials.IsTable t.p fs (IsWithinDegree t.target t.degree) (IsBasisTo t.p fs t.target t.degree) (mono_entry t.parts)
    table = right-table t.p positive fs multi high t.target t.degree (basis_monos t.parts) (mono_entry t.parts) right

    -- every form is zero at all tuples
    zero-at : (i : ℕ) → i < length fs → IsZeroAtTuples t.p (sub_table t top) (form_at fs i)
    zero-at i h ks tuple =
        let m = multilinear_at fs i multi in
        sub-zero fs t top tab right ty (form_value (sub_table t top) (form_at fs i) ks) (tuple-elements (form_at fs i) m ks tuple)
        (subst (λ x. Alike t.p x []) (sym (tuple-value (form_at fs i) m ks tuple))
        (cut-satisfies t.p positive fs multi (IsWithinDegree t.target t.degree) (mono_entry t.parts) table (passes_type top) (types-cut t.target t.degree top ty) i
        (map (mono_with t top) ks) h (length-map ks (mono_with t top) ∙ tuple.long)
        (λ k l. mono-basis (form_at fs i) m ks tuple k (omega (arith, l, length-map ks (mono_with t top), tuple.long)))))

    pub sub-model : IsModel t.p t.target fs (sub_table t top)
    sub-model = record {
      shape = shape-from t.target t.p (sub_table t top) (sub-shaped t top tab ty some);
      zero = each_from_places (IsZeroAtTuples t.p (sub_table t top)) fs zero-at;
    }

-- the first type of a polynomial is not zero
first-some : (p : ℕ) (top : List ℕ) (f : Poly) → IsFirstType p top f → 0 < sum top
first-some p top f h = omega (arith, of_type-degree top h.monomial h.type, degree-positive h.monomial)

pub sub-refutes : (fs : List Form) (t : Table) (g : Poly) (top : List ℕ) → AreMultilinear fs → AreHigh fs → IsTable t →
    IsRight t.p fs t.target t.degree (basis_monos t.parts) (mono_entry t.parts) → Each (λ s. IsWithinDegree t.target t.degree s.1) g →
    IsTypeTo t.target t.degree top → IsFirstType t.p top (poly_value (mono_entry t.parts) g) →
    IsTableVerdict t.p t.target fs (sub_table t top) g Refuted
sub-refutes fs t g top multi high tab right inside ty first =
    let some : 0 < sum top = first-some t.p top (poly_value (mono_entry t.parts) g) first in
    let positive : 0 < t.p = omega (arith, above_one t tab) in (
      sub-model fs t top tab right ty some multi high,
      λ z. sub-nonzero t.p positive fs multi t.target t.degree (mono_entry t.parts)
          (right-table t.p positive fs multi high t.target t.degree (basis_monos t.parts) (mono_entry t.parts) right) top ty g inside first
          (subst (λ x. Alike t.p x [])
          (sub-value fs t top tab right ty some g (each-from _ _ g (λ s w. below_from_test (length t.target) s.1 w.below) inside))
          (reindex-alike (mono_with t top) (vector_alike {f = value (sub_table t top) g} {g = []} z))),
    )

-- a polynomial within the table is a consequence, or has such a type
pub each-decided : (fs : List Form) (t : Table) (g : Poly) → AreMultilinear fs → AreHigh fs → IsTable t →
    IsRight t.p fs t.target t.degree (basis_monos t.parts) (mono_entry t.parts) → Each (λ s. IsWithinDegree t.target t.degree s.1) g →
    IsConsequence t.p fs g ⊎ ((top : List ℕ) × IsTypeTo t.target t.degree top × IsTableVerdict t.p t.target fs (sub_table t top) g Refuted)
each-decided fs t g multi high tab right inside =
    let positive : 0 < t.p = omega (arith, above_one t tab) in
    let table = right-table t.p positive fs multi high t.target t.degree (basis_monos t.parts) (mono_entry t.parts) right in
    elim (sub-found t.p positive fs t.target t.degree (mono_entry t.parts) table g inside) [
      | inl z ↦ inl (value-consequence t.p positive fs multi (IsWithinDegree t.target t.degree) (mono_entry t.parts) table g inside z)
      | inr r ↦ inr (r.0, r.1, sub-refutes fs t g r.0 multi high tab right inside r.1 r.2)
    ]
