-- What a product less its value, an entry, and a polynomial less its value are made of.
use Rattle.std.proofs.Common.{◌≡◌, ℕ, ◌+◌, ◌-◌, ◌*◌, ◌<◌, [], ◌∷◌, ◌++◌, sym, refl, ap, ◌∙◌, arith}
use Rattle.std.proofs.Math.Nat.{mul-add, mul_left_comm}
use Rattle.gf_field.proofs.Mod.{same, back, ◌⊙◌, plus, times, multiple}
use Rattle.gf_sums.specs.Sums.{Comb, weigh, scale, reindex, multiply}
use Rattle.gf_sums.proofs.Totals.{weigh-append, weigh-scale, weigh-multiply, weigh-equal}
use Rattle.gf_sums.proofs.Alike.{Alike, equal, weigh-reindex}
use Rattle.alb_mono.specs.Tree.{Tree, node}
use Rattle.alb_mono.specs.declared.side.Side.TheVariants.{Left, Right}
use Rattle.alb_poly.specs.Textbook.{unit}
use Rattle.alb_poly.specs.Consequence.{beside}
use Rattle.alb_poly.specs.Poly.{Poly}
use Rattle.alb_table.specs.Right.{difference, outer}
use Rattle.alb_table.specs.Block.{spread}
use Rattle.alb_table.proofs.Congruent.{minus_one, weigh-outer}
use Rattle.alb_table.proofs.Spans.{weigh-spread}

weigh-difference : {I : Type 0} (w : I → ℕ) (p : ℕ) (f g : Comb I) → weigh w (difference p f g) ≡ weigh w f + (p - 1) * weigh w g
weigh-difference w p f g = weigh-append w f (scale (p - 1) g) ∙ ap (λ n. weigh w f + n) (weigh-scale w (p - 1) g)

weigh-linear : {I : Type 0} (c : ℕ) (u v : I → ℕ) (f : Comb I) → weigh (λ i. u i + c * v i) f ≡ weigh u f + c * weigh v f
weigh-linear c u v [] = omega arith
weigh-linear c u v (t ∷ f) = omega (arith, weigh-linear c u v f, mul-add t.0 (u t.1) (c * v t.1), mul-add c (t.0 * v t.1) (weigh v f), mul_left_comm t.0 c (v t.1))

weigh-less : {I : Type 0} (w : I → ℕ) (p : ℕ) (m : I) (f : Comb I) → weigh w (difference p (unit m) f) ≡ w m + (p - 1) * weigh w f
weigh-less w p m f = omega (arith, weigh-difference w p (unit m) f)

-- each index less its combination, summed
weigh-all_less : {I J : Type 0} (p : ℕ) (w : J → ℕ) (h : I → J) (e : I → Comb J) (f : Comb I) →
    weigh (λ i. weigh w (difference p (unit (h i)) (e i))) f ≡ weigh (λ i. w (h i)) f + (p - 1) * weigh (λ i. weigh w (e i)) f
weigh-all_less p w h e f = weigh-equal _ _ f (λ i. weigh-less w p (h i) (e i)) ∙ weigh-linear (p - 1) (λ i. w (h i)) (λ i. weigh w (e i)) f

module _ (p : ℕ) (pos : 0 < p) where
  -- a difference in two steps
  pub difference-joined : {I : Type 0} (f g h : Comb I) → Alike p (difference p f h) (difference p f g ++ difference p g h)
  difference-joined f g h = record {
    at = λ w.
        back (multiple (weigh w g) (weigh w (difference p f h)))
        ⊙ same (omega (arith, weigh-difference w p f h, weigh-difference w p f g, weigh-difference w p g h, minus_one p (weigh w g) pos))
        ⊙ same (sym (weigh-append w (difference p f g) (difference p g h)));
  }

  -- less zero
  pub less-zero : {I : Type 0} (f g : Comb I) → Alike p g [] → Alike p (difference p f g) f
  less-zero f g z = record {
    at = λ w. same (weigh-difference w p f g) ⊙ plus (same {a = weigh w f} refl) (times (same {a = p - 1} refl) (z.at w)) ⊙ same (omega arith);
  }

  -- A polynomial less its value is the sum of its monomials less theirs.
  pub polynomial-split : {I : Type 0} (h : I → Comb I) (f : Comb I) → Alike p (difference p f (spread h f)) (spread (λ m. difference p (unit m) (h m)) f)
  polynomial-split h f = equal _ _ (λ w.
      weigh-difference w p f (spread h f) ∙ ap (λ n. weigh w f + (p - 1) * n) (weigh-spread w h f)
      ∙ sym (weigh-spread w (λ m. difference p (unit m) (h m)) f ∙ weigh-all_less p w (λ m. m) h f))

  -- A product less the products of the parts of its factors: each factor less its parts, beside the other factor and
  -- beside the parts of the left one.
  pub image-split : (l r : Tree) (f g : Poly) → Alike p (difference p (unit (node l r)) (outer node f g))
      (reindex (beside (Right, r)) (difference p (unit l) f) ++ spread (λ b. reindex (beside (Left, b)) (difference p (unit r) g)) f)
  image-split l r f g = record {
    at = λ w.
        let A : ℕ = weigh (λ b. w (node b r)) f in
        let B : ℕ = weigh (λ b. weigh (λ c. w (node b c)) g) f in
        let X : ℕ = w (node l r) in
        let z : A * p + (X + (p - 1) * B) ≡ (X + (p - 1) * A) + (A + (p - 1) * B) = omega (arith, minus_one p A pos) in
        let first : weigh w (reindex (beside (Right, r)) (difference p (unit l) f)) ≡ w (node l r) + (p - 1) * A =
        weigh-reindex w (beside (Right, r)) (difference p (unit l) f) ∙ weigh-less (λ m. w (node m r)) p l f in
        let second : weigh w (spread (λ b. reindex (beside (Left, b)) (difference p (unit r) g)) f) ≡ A + (p - 1) * B =
        weigh-spread w (λ b. reindex (beside (Left, b)) (difference p (unit r) g)) f
        ∙ weigh-equal _ _ f (λ b. weigh-reindex w (beside (Left, b)) (difference p (unit r) g) ∙ weigh-less (λ m. w (node b m)) p r g)
        ∙ weigh-linear (p - 1) (λ b. w (node b r)) (λ b. weigh (λ c. w (node b c)) g) f in
        same (weigh-less w p (node l r) (outer node f g) ∙ ap (λ n. w (node l r) + (p - 1) * n) (weigh-outer node w f g))
        ⊙ back (multiple A (X + (p - 1) * B))
        ⊙ same z
        ⊙ same (sym (weigh-append w (reindex (beside (Right, r)) (difference p (unit l) f)) (spread (λ b. reindex (beside (Left, b)) (difference p (unit r) g)) f) ∙ rw (first, second)));
  }

  -- The products of parts less their entries.
  pub entries-split : (entry : Tree → Tree → Poly) (f g : Poly) → Alike p (difference p (outer node f g) (multiply entry f g))
      (multiply (λ b c. difference p (unit (node b c)) (entry b c)) f g)
  entries-split entry f g = equal _ _ (λ w.
      weigh-difference w p (outer node f g) (multiply entry f g)
      ∙ rw (weigh-outer node w f g, weigh-multiply entry w f g) (sym (
      weigh-multiply (λ b c. difference p (unit (node b c)) (entry b c)) w f g
      ∙ weigh-equal _ _ f (λ b. weigh-all_less p w (λ c. node b c) (λ c. entry b c) g)
      ∙ weigh-linear (p - 1) (λ b. weigh (λ c. w (node b c)) g) (λ b. weigh (λ c. weigh w (entry b c)) g) f)))
