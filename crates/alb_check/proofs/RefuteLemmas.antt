-- A table in which every form is zero at all tuples of elements satisfies the identities that the forms stand for, and what
-- follows from the forms has the value zero.
use Rattle.std.proofs.Common.{◌≡◌, ℕ, zero, suc, ◌+◌, ◌*◌, ◌<◌, List, [], ◌∷◌, length, map, sum, sym, refl, ap, ◌∙◌, subst, arith, ◌⊎◌, inl, inr}
use Rattle.std.specs.List.{flat_map}
use Rattle.std.proofs.lemmas.List.{get_or-map, length-map}
use Rattle.gf_field.specs.Modular.{IsPrime}
use Rattle.gf_field.proofs.Mod.{same, ◌⊙◌, times}
use Rattle.gf_sums.specs.Sums.{Comb, scale, reindex, multiply}
use Rattle.gf_sums.proofs.Totals.{total-same, weigh-equal, weigh-scale, weigh-multiply}
use Rattle.gf_sums.proofs.Alike.{Alike, equal, itself, turned, joined, append-alike, scale-alike, multiply-alike, weigh-reindex}
use Rattle.alb_mono.specs.Listing.{Each}
use Rattle.alb_mono.specs.Tree.{Tree, leaf, node, AreBelow}
use Rattle.alb_poly.specs.Textbook.{evaluate, evaluate_poly, unit, free_product, IsTextConsequence}
use Rattle.alb_poly.specs.Poly.{Poly}
use Rattle.alb_mono.specs.declared.side.Side.{Side}
use Rattle.alb_mono.specs.declared.side.Side.TheVariants.{Left, Right}
use Rattle.alb_poly.specs.Consequence.{beside, within, Item, IsItem, AreItems, item_value, form_at, IsConsequence, AreMultilinear}
use Rattle.alb_poly.specs.Instance.{Form, fill, instance, linearization, IsMultilinearForm, IsMultilinear, Identity, IsHomogeneous, AreHomogeneous, AreSameForms, IsSameForm, linearizations, polynomials}
use Rattle.alb_poly.proofs.Consequence.{alike_poly, flat-append}
use Rattle.alb_poly.proofs.Multilinear.{each-from, multilinear-below}
use Rattle.alb_poly.proofs.Parts.{multilinear_at, weigh-zero}
use Rattle.alb_problem.proofs.FormValue.{weigh-evaluate_poly}
use Rattle.alb_problem.proofs.AllVectors.{IsOver, closed-zero, form-closed}
use Rattle.alb_problem.proofs.OneVariable.{vectors}
use Rattle.alb_problem.proofs.Satisfied as general
use Rattle.alb_problem.proofs.Satisfied.{Satisfies-linearization}
use Rattle.alb_problem.proofs.Substitution.{evaluate_poly-alike, evaluate_poly-product, over-evaluate, Satisfies-text}
use Rattle.alb_check.specs.Raw.{Raw, IsRaw}
use Rattle.alb_check.specs.TableAlgebra.{element_product, value, IsElement, IsZeroAtTuples, TableSatisfies, generator_value, AreZeroAtTuples}
use Rattle.alb_check.proofs.VectorLemmas.{vector_alike, alike_vector, alike-equal}
use Rattle.alb_check.proofs.TableLemmas.{IsShaped, product_closed, nilpotent_from, generator_over}

-- ---- values of instances

module _ {I : Type 0} (prod : I → I → Comb I) (v : ℕ → Comb I) (ms : List Tree) where
  filled : (m : Tree) → AreBelow (length ms) m → evaluate prod v (fill ms m) ≡ evaluate prod (vectors (map (evaluate prod v) ms)) m
  filled (leaf k) h = sym (get_or-map (evaluate prod v) ms k (leaf k) [] h)
  filled (node l r) h = rw (filled l h.0, filled r h.1)

  filled_terms : (f : Poly) → Each (λ t. AreBelow (length ms) t.1) f → evaluate_poly prod v (reindex (fill ms) f) ≡ evaluate_poly prod (vectors (map (evaluate prod v) ms)) f
  filled_terms [] h = refl
  filled_terms (t ∷ f) h = rw (filled t.1 h.0, filled_terms f h.1)

-- ---- contexts

module _ {I : Type 0} (prod : I → I → Comb I) (p : ℕ) (v : ℕ → Comb I) where
  -- a product with a factor of the value zero
  product_zero : (f g : Poly) → Alike p (evaluate_poly prod v f) [] ⊎ Alike p (evaluate_poly prod v g) [] → Alike p (evaluate_poly prod v (multiply free_product f g)) []
  product_zero f g (inl h) = joined (evaluate_poly-product prod p v f g) (multiply-alike prod h (itself (evaluate_poly prod v g)))
  product_zero f g (inr h) = joined (evaluate_poly-product prod p v f g) (joined (multiply-alike prod (itself (evaluate_poly prod v f)) h)
      (equal _ _ (λ w. weigh-multiply prod w (evaluate_poly prod v f) [] ∙ weigh-zero (evaluate_poly prod v f))))

  beside_zero : (s : Side × Tree) (f : Poly) → Alike p (evaluate_poly prod v f) [] → Alike p (evaluate_poly prod v (reindex (beside s) f)) []
  beside_zero (Left, m) f h = joined (evaluate_poly-alike prod p v _ (multiply free_product (unit m) f) (equal _ _ (λ w.
      weigh-reindex w (beside (Left, m)) f
      ∙ sym (weigh-multiply free_product w (unit m) f ∙ ap (λ n. 1 * n + 0) (weigh-equal _ (λ r. w (node m r)) f (λ r. omega arith)) ∙ omega arith))))
      (product_zero (unit m) f (inr h))
  beside_zero (Right, m) f h = joined (evaluate_poly-alike prod p v _ (multiply free_product f (unit m)) (equal _ _ (λ w.
      weigh-reindex w (beside (Right, m)) f ∙ sym (weigh-multiply free_product w f (unit m) ∙ weigh-equal _ (λ l. w (node l m)) f (λ l. omega arith)))))
      (product_zero f (unit m) (inl h))

  -- what has the value zero has it in every context
  within_zero : (c : List (Side × Tree)) (f : Poly) → Alike p (evaluate_poly prod v f) [] → Alike p (evaluate_poly prod v (reindex (within c) f)) []
  within_zero [] f h = joined (evaluate_poly-alike prod p v _ f (equal _ _ (λ w. weigh-reindex w (within []) f))) h
  within_zero (s ∷ c) f h = joined (evaluate_poly-alike prod p v _ (reindex (within c) (reindex (beside s) f)) (equal _ _ (λ w.
      weigh-reindex w (within (s ∷ c)) f ∙ sym (weigh-reindex w (within c) (reindex (beside s) f) ∙ weigh-reindex _ (beside s) f))))
      (within_zero c (reindex (beside s) f) (beside_zero s f h))

  -- and so has every multiple
  multiple_zero : (c : ℕ) (f : Poly) → Alike p (evaluate_poly prod v f) [] → Alike p (evaluate_poly prod v (scale c f)) []
  multiple_zero c f h = joined (equal _ (scale c (evaluate_poly prod v f)) (λ w.
      weigh-evaluate_poly prod v w (scale c f) ∙ weigh-scale _ c f
      ∙ sym (weigh-scale w c (evaluate_poly prod v f) ∙ ap (λ n. c * n) (weigh-evaluate_poly prod v w f))))
      (scale-alike c h)

-- ---- other products that are equal

module _ {I : Type 0} (p : ℕ) (prod prod' : I → I → Comb I) (h : (i j : I) → Alike p (prod i j) (prod' i j)) (v : ℕ → Comb I) where
  multiply-products : (f g : Comb I) → Alike p (multiply prod f g) (multiply prod' f g)
  multiply-products f g = record {
    at = λ w.
        same (weigh-multiply prod w f g)
        ⊙ total-same _ _ f (λ s. times (same {a = s.0} refl) (total-same _ _ g (λ t. times (same {a = t.0} refl) ((h s.1 t.1).at w))))
        ⊙ same (sym (weigh-multiply prod' w f g));
  }

  evaluate-products : (m : Tree) → Alike p (evaluate prod v m) (evaluate prod' v m)
  evaluate-products (leaf k) = itself (v k)
  evaluate-products (node l r) = joined (multiply-alike prod (evaluate-products l) (evaluate-products r)) (multiply-products (evaluate prod' v l) (evaluate prod' v r))

  pub evaluate_poly-products : (f : Poly) → Alike p (evaluate_poly prod v f) (evaluate_poly prod' v f)
  evaluate_poly-products [] = itself []
  evaluate_poly-products (t ∷ f) = append-alike (scale-alike t.0 (evaluate-products t.1)) (evaluate_poly-products f)

module _ (p : ℕ) (target : List ℕ) (t : Raw) (is : IsRaw p (length target) t) (right : IsShaped target p t) where
  -- ---- identities

  zero_at : (l : Form) (f : Identity) → IsZeroAtTuples p t l → IsSameForm p l (linearization f.degrees f.terms) →
      general.IsZeroAtElements (element_product t) (IsElement t) p (linearization f.degrees f.terms)
  zero_at l f z h b o n = joined (evaluate_poly-alike (element_product t) p (vectors (map unit b)) _ _ (turned (alike_poly h.terms)))
      (vector_alike (z b (record { long = n ∙ sym h.degree; elements = o })))

  satisfied : IsPrime p → sum t.top < p → (l : Form) (f : Identity) → IsZeroAtTuples p t l → IsHomogeneous f.degrees f.terms →
      IsSameForm p l (linearization f.degrees f.terms) → TableSatisfies p t f.terms
  satisfied prime above l f z hom h u o = alike_vector (Satisfies-linearization (element_product t) (IsElement t) p f.degrees f.terms prime
      (nilpotent_from p target t is right p above) hom (zero_at l f z h) u o)

  pub all_satisfied : IsPrime p → sum t.top < p → (ls : List Form) (fs : List Identity) → AreZeroAtTuples p t ls → AreHomogeneous fs →
      AreSameForms p ls (linearizations fs) → Each (λ f. TableSatisfies p t f.terms) fs
  all_satisfied prime above [] [] z hom h = tt
  all_satisfied prime above [] (f ∷ fs) z hom h = elim h [ ]
  all_satisfied prime above (l ∷ ls) [] z hom h = tt
  all_satisfied prime above (l ∷ ls) (f ∷ fs) z hom h = (satisfied prime above l f z.0 hom.0 h.0, all_satisfied prime above ls fs z.1 hom.1 h.1)

  -- ---- consequences

  module _ (ls : List Form) (multi : AreMultilinear ls) (z : AreZeroAtTuples p t ls) (v : ℕ → Comb ℕ) (over : (k : ℕ) → IsOver (IsElement t) (v k)) where
    zero_form : (k : ℕ) → k < length ls → IsZeroAtTuples p t (form_at ls k)
    zero_form k l = each_below ls k z l
      where
        each_below : (gs : List Form) (k : ℕ) → Each (IsZeroAtTuples p t) gs → k < length gs → IsZeroAtTuples p t (form_at gs k)
        each_below [] k z l = absurd (omega arith)
        each_below (g ∷ gs) zero z l = z.0
        each_below (g ∷ gs) (suc k) z l = each_below gs k z.1 (omega arith)

    overs : (ms : List Tree) → Each (IsOver (IsElement t)) (map (evaluate (element_product t) v) ms)
    overs [] = tt
    overs (m ∷ ms) = (over-evaluate (element_product t) (IsElement t) (product_closed p target t is right) v over m, overs ms)

    instance_zero : (it : Item) → IsItem ls it → Alike p (evaluate_poly (element_product t) v (instance (form_at ls it.form) it.args)) []
    instance_zero it h =
        let f = form_at ls it.form in
        let m : IsMultilinearForm f = multilinear_at ls it.form multi in
        joined (alike-equal _ _ (filled_terms (element_product t) v it.args f.terms
        (each-from (λ x. IsMultilinear f.degree x.1) (λ x. AreBelow (length it.args) x.1) f.terms
        (λ x k. subst (λ n. AreBelow n x.1) (sym h.full) (multilinear-below f.degree x.1 k)) m)))
        (form-closed (element_product t) (IsElement t) (λ g. Alike p g []) (closed-zero p) f m
        (λ b o n. vector_alike (zero_form it.form h.named b (record { long = n; elements = o })))
        (map (evaluate (element_product t) v) it.args) (overs it.args) (length-map it.args (evaluate (element_product t) v) ∙ h.full))

    item_zero : (it : Item) → IsItem ls it → Alike p (evaluate_poly (element_product t) v (item_value ls it)) []
    item_zero it h = multiple_zero (element_product t) p v it.coef (reindex (within it.context) (instance (form_at ls it.form) it.args))
        (within_zero (element_product t) p v it.context (instance (form_at ls it.form) it.args) (instance_zero it h))

    items_zero : (its : List Item) → AreItems ls its → Alike p (evaluate_poly (element_product t) v (flat_map (item_value ls) its)) []
    items_zero [] h = itself []
    items_zero (it ∷ its) h =
        rw (flat-append (λ x. scale x.0 (evaluate (element_product t) v x.1)) (item_value ls it) (flat_map (item_value ls) its))
        (append-alike (item_zero it h.0) (items_zero its h.1))

    consequence_zero : (g : Poly) → IsConsequence p ls g → Alike p (evaluate_poly (element_product t) v g) []
    consequence_zero g c = joined (evaluate_poly-alike (element_product t) p v g _ (alike_poly c.same)) (items_zero c.items c.are)

  pub value_zero : (ls : List Form) (g : Poly) → AreMultilinear ls → AreZeroAtTuples p t ls → IsConsequence p ls g → Alike p (value t g) []
  value_zero ls g multi z c = consequence_zero ls multi z (generator_value t) (generator_over p target t is right) g c

  -- ---- consequences in the textbook's sense

  everywhere : (fs : List Identity) → Each (λ f. TableSatisfies p t f.terms) fs → Each (general.Satisfies (element_product t) (IsElement t) p) (polynomials fs)
  everywhere [] h = tt
  everywhere (f ∷ fs) h = (λ u o. vector_alike (h.0 u o), everywhere fs h.1)

  pub text_zero : (fs : List Identity) (g : Poly) → Each (λ f. TableSatisfies p t f.terms) fs → IsTextConsequence p (polynomials fs) g → Alike p (value t g) []
  text_zero fs g h c = Satisfies-text (element_product t) (IsElement t) (product_closed p target t is right) p (polynomials fs) g (everywhere fs h) c
      (generator_value t) (generator_over p target t is right)
