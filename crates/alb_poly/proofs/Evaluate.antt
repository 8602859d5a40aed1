-- Values in an algebra with a basis, of polynomials and of what is put into polynomials; ideals of such algebras.
use Rattle.std.proofs.Common.{◌≡◌, ℕ, ◌+◌, ◌*◌, List, [], ◌∷◌, ◌++◌, get_or, sym, refl, ap, ◌∙◌, arith}
use Rattle.std.specs.List.{flat_map}
use Rattle.gf_field.proofs.Mod.{same, ◌⊙◌, times}
use Rattle.gf_sums.specs.Sums.{Comb, weigh, scale, reindex, multiply}
use Rattle.gf_sums.proofs.Totals.{total-equal, total-same, weigh-equal, weigh-scale, weigh-multiply, weigh-swap}
use Rattle.gf_sums.proofs.Alike.{Alike, equal, itself, turned, joined, multiply-alike, weigh-reindex, weigh-flat}
use Rattle.alb_mono.specs.Listing.{Each}
use Rattle.alb_mono.specs.Tree.{Tree, leaf, node}
use Rattle.alb_mono.specs.declared.side.Side.{Side}
use Rattle.alb_mono.specs.declared.side.Side.TheVariants.{Left, Right}
use Rattle.alb_poly.specs.Textbook.{evaluate, evaluate_poly, unit, free_product, value_at, instance_value, IsTextConsequence}
use Rattle.alb_poly.specs.Poly.{Poly}
use Rattle.alb_poly.specs.Consequence.{beside, within}
use Rattle.alb_poly.proofs.Consequence.{alike_poly, flat-append}
use Rattle.alb_poly.proofs.Parts.{each_at}

pub weigh-evaluate_poly : {I : Type 0} (prod : I → I → Comb I) (v : ℕ → Comb I) (w : I → ℕ) (f : Comb Tree) →
    weigh w (evaluate_poly prod v f) ≡ weigh (λ m. weigh w (evaluate prod v m)) f
weigh-evaluate_poly prod v w f = weigh-flat w _ f ∙ total-equal _ _ f (λ t. weigh-scale w t.0 (evaluate prod v t.1))

module _ {I : Type 0} (prod : I → I → Comb I) (p : ℕ) (v : ℕ → Comb I) where
  pub evaluate_poly-alike : (f g : Poly) → Alike p f g → Alike p (evaluate_poly prod v f) (evaluate_poly prod v g)
  evaluate_poly-alike f g h = record {
    at = λ w.
        same (weigh-evaluate_poly prod v w f) ⊙ h.at (λ m. weigh w (evaluate prod v m)) ⊙ same (sym (weigh-evaluate_poly prod v w g));
  }

  -- the value of a product is the product of the values
  pub evaluate_poly-product : (f g : Poly) → Alike p (evaluate_poly prod v (multiply free_product f g)) (multiply prod (evaluate_poly prod v f) (evaluate_poly prod v g))
  evaluate_poly-product f g = equal _ _ (λ w.
      let W : I → I → ℕ = λ i j. weigh w (prod i j) in
      let pair : Tree → Tree → ℕ = λ l r. weigh (λ i. weigh (W i) (evaluate prod v r)) (evaluate prod v l) in
      weigh-evaluate_poly prod v w (multiply free_product f g)
      ∙ weigh-multiply free_product (λ m. weigh w (evaluate prod v m)) f g
      ∙ weigh-equal _ (λ l. weigh (pair l) g) f (λ l. weigh-equal _ (pair l) g (λ r.
      let e = weigh-multiply prod w (evaluate prod v l) (evaluate prod v r) in omega (arith, e)))
      ∙ weigh-equal _ _ f (λ l. sym (weigh-swap (λ i r. weigh (W i) (evaluate prod v r)) (evaluate prod v l) g))
      ∙ weigh-equal _ _ f (λ l. weigh-equal _ _ (evaluate prod v l) (λ i. sym (weigh-evaluate_poly prod v (W i) g)))
      ∙ sym (weigh-multiply prod w (evaluate_poly prod v f) (evaluate_poly prod v g)
      ∙ weigh-evaluate_poly prod v (λ i. weigh (W i) (evaluate_poly prod v g)) f))

  -- the value of a substituted monomial is its value at the values of what was put in
  pub evaluate-substituted : (us : ℕ → Poly) (m : Tree) → Alike p (evaluate_poly prod v (evaluate free_product us m)) (evaluate prod (λ k. evaluate_poly prod v (us k)) m)
  evaluate-substituted us (leaf k) = itself _
  evaluate-substituted us (node l r) = joined
      (evaluate_poly-product (evaluate free_product us l) (evaluate free_product us r))
      (multiply-alike prod (evaluate-substituted us l) (evaluate-substituted us r))

  -- and that of a polynomial
  pub value-substituted : (us : ℕ → Poly) (f : Poly) → Alike p (evaluate_poly prod v (value_at f us)) (evaluate_poly prod (λ k. evaluate_poly prod v (us k)) f)
  value-substituted us f = record {
    at = λ w.
        same (weigh-evaluate_poly prod v w (value_at f us)
        ∙ weigh-evaluate_poly free_product us (λ x. weigh w (evaluate prod v x)) f
        ∙ weigh-equal _ _ f (λ m. sym (weigh-evaluate_poly prod v w (evaluate free_product us m))))
        ⊙ total-same _ _ f (λ t. times (same {a = t.0} refl) ((evaluate-substituted us t.1).at w))
        ⊙ same (sym (weigh-evaluate_poly prod (λ k. evaluate_poly prod v (us k)) w f));
  }

-- ---- products with a monomial

pub beside-left : {p : ℕ} (m : Tree) (f : Poly) → Alike p (reindex (beside (Left, m)) f) (multiply free_product (unit m) f)
beside-left m f = equal _ _ (λ w.
    weigh-reindex w (beside (Left, m)) f
    ∙ sym (weigh-multiply free_product w (unit m) f
    ∙ ap (λ n. 1 * n + 0) (weigh-equal _ (λ r. w (node m r)) f (λ r. omega arith)) ∙ omega arith))

pub beside-right : {p : ℕ} (m : Tree) (f : Poly) → Alike p (reindex (beside (Right, m)) f) (multiply free_product f (unit m))
beside-right m f = equal _ _ (λ w.
    weigh-reindex w (beside (Right, m)) f
    ∙ sym (weigh-multiply free_product w f (unit m) ∙ weigh-equal _ (λ l. w (node l m)) f (λ l. omega arith)))

-- ---- ideals of an algebra

pub record IsIdealIn {I : Type 0} (prod : I → I → Comb I) (p : ℕ) (P : Comb I → Type 0) : Type 0 where
  pub zero : P []
  pub same : (f g : Comb I) → Alike p f g → P f → P g
  pub sums : (f g : Comb I) → P f → P g → P (f ++ g)
  pub multiples : (c : ℕ) (f : Comb I) → P f → P (scale c f)
  pub left : (f g : Comb I) → P f → P (multiply prod f g)
  pub right : (f g : Comb I) → P g → P (multiply prod f g)

module _ {I : Type 0} (prod : I → I → Comb I) (p : ℕ) (P : Comb I → Type 0) (ideal : IsIdealIn prod p P) (v : ℕ → Comb I) where
  in-beside : (s : Side × Tree) (f : Poly) → P (evaluate_poly prod v f) → P (evaluate_poly prod v (reindex (beside s) f))
  in-beside (Left, m) f h = ideal.same _ _
      (turned (joined (evaluate_poly-alike prod p v _ _ (beside-left m f)) (evaluate_poly-product prod p v (unit m) f)))
      (ideal.right (evaluate_poly prod v (unit m)) (evaluate_poly prod v f) h)
  in-beside (Right, m) f h = ideal.same _ _
      (turned (joined (evaluate_poly-alike prod p v _ _ (beside-right m f)) (evaluate_poly-product prod p v f (unit m))))
      (ideal.left (evaluate_poly prod v f) (evaluate_poly prod v (unit m)) h)

  in-within : (c : List (Side × Tree)) (f : Poly) → P (evaluate_poly prod v f) → P (evaluate_poly prod v (reindex (within c) f))
  in-within [] f h = ideal.same _ _ (evaluate_poly-alike prod p v _ _ (equal _ _ (λ w. sym (weigh-reindex w (within []) f)))) h
  in-within (s ∷ c) f h = ideal.same _ _
      (evaluate_poly-alike prod p v _ _ (equal _ _ (λ w.
      weigh-reindex w (within c) (reindex (beside s) f) ∙ weigh-reindex _ (beside s) f ∙ sym (weigh-reindex w (within (s ∷ c)) f))))
      (in-within c (reindex (beside s) f) (in-beside s f h))

  in-scale : (c : ℕ) (f : Poly) → P (evaluate_poly prod v f) → P (evaluate_poly prod v (scale c f))
  in-scale c f h = ideal.same _ _
      (equal (scale c (evaluate_poly prod v f)) _ (λ w.
      weigh-scale w c (evaluate_poly prod v f) ∙ ap (λ n. c * n) (weigh-evaluate_poly prod v w f)
      ∙ sym (weigh-evaluate_poly prod v w (scale c f) ∙ weigh-scale _ c f)))
      (ideal.multiples c _ h)

  in-sum : {X : Type 0} (g : X → Poly) (xs : List X) → ((x : X) → P (evaluate_poly prod v (g x))) → P (evaluate_poly prod v (flat_map g xs))
  in-sum g [] h = ideal.zero
  in-sum g (x ∷ xs) h = rw (flat-append (λ t. scale t.0 (evaluate prod v t.1)) (g x) (flat_map g xs)) (ideal.sums _ _ (h x) (in-sum g xs h))

  -- An ideal that holds the values of some polynomials holds those of their consequences in the textbook's sense.
  pub text-in : (fs : List Poly) (g : Poly) → ((us : ℕ → Poly) → Each (λ f. P (evaluate_poly prod (λ k. evaluate_poly prod v (us k)) f)) fs) →
      IsTextConsequence p fs g → P (evaluate_poly prod v g)
  text-in fs g h c = ideal.same _ _ (turned (evaluate_poly-alike prod p v g _ (alike_poly c.same)))
      (in-sum (instance_value fs) c.items (λ it.
      let f : Poly = get_or fs it.identity [] in
      in-scale it.coef (reindex (within it.context) (value_at f it.args)) (in-within it.context (value_at f it.args)
      (ideal.same _ _ (turned (value-substituted prod p v it.args f))
      (each_at (λ f. P (evaluate_poly prod (λ k. evaluate_poly prod v (it.args k)) f)) fs it.identity [] ideal.zero (h it.args))))))
