-- Congruence modulo consequences.
use Rattle.std.proofs.Common.{◌≡◌, ℕ, ◌+◌, ◌-◌, ◌*◌, ◌<◌, List, [], ◌∷◌, ◌++◌, sym, refl, ap, ◌∙◌, arith}
use Rattle.std.specs.List.{flat_map}
use Rattle.std.proofs.Math.Nat.{mul-add, mul_left_comm}
use Rattle.gf_field.specs.Modular.{IsSameMod}
use Rattle.gf_field.proofs.Mod.{same, back, ◌⊙◌, plus, multiple, cancel_plus}
use Rattle.alb_mono.specs.Tree.{node}
use Rattle.gf_sums.specs.Sums.{Comb, weigh, scale, reindex}
use Rattle.gf_sums.proofs.Totals.{weigh-append, weigh-scale, weigh-multiply, weigh-equal, total-equal}
use Rattle.alb_problem.proofs.Evaluate.{weigh-swap}
use Rattle.gf_sums.proofs.Alike.{Alike, equal, itself, turned, joined, append-alike, multiply-append-left, multiply-append-right, multiply-scale-left, multiply-scale-right, weigh-flat, weigh-reindex}
use Rattle.alb_poly.specs.Poly.{Poly, product}
use Rattle.alb_mono.specs.declared.side.Side.TheVariants.{Left, Right}
use Rattle.alb_poly.specs.Consequence.{beside, IsConsequence}
use Rattle.alb_poly.specs.Instance.{Form}
use Rattle.alb_table.specs.Right.{difference, IsCongruent, outer}
use Rattle.alb_mono.specs.Listing.{Each}
use Rattle.alb_poly.specs.Textbook.{free_product}
use Rattle.alb_poly.proofs.Consequence.{poly_alike, consequence-same, consequence-zero, consequence-append, consequence-scale, consequence-beside}

pub minus_one : (p x : ℕ) → 0 < p → (p - 1) * x + x ≡ x * p
minus_one p x pos = let q : (p - 1) + 1 ≡ p = omega arith in omega (arith, ap (λ z. x * z) q)

pub minus_twice : (p x : ℕ) → 0 < p → IsSameMod p ((p - 1) * ((p - 1) * x)) x
minus_twice p x pos = cancel_plus ((p - 1) * x) pos
    (same (minus_one p ((p - 1) * x) pos) ⊙ same (omega arith) ⊙ multiple ((p - 1) * x) 0 ⊙ back (multiple x 0) ⊙ same (omega (arith, minus_one p x pos)))

pub weigh-outer : {I J K : Type 0} (pair : I → J → K) (w : K → ℕ) (f : Comb I) (g : Comb J) → weigh w (outer pair f g) ≡ weigh (λ i. weigh (λ j. w (pair i j)) g) f
weigh-outer {I} {J} pair w f g =
    let one : (i : I) (j : J) → weigh w ((1, pair i j) ∷ []) ≡ w (pair i j) = λ i j. omega arith in
    weigh-multiply (λ i j. (1, pair i j) ∷ []) w f g ∙ weigh-equal _ _ f (λ i. weigh-equal _ _ g (one i))

weigh-difference : {I : Type 0} (w : I → ℕ) (p : ℕ) (f g : Comb I) → weigh w (difference p f g) ≡ weigh w f + (p - 1) * weigh w g
weigh-difference w p f g = weigh-append w f (scale (p - 1) g) ∙ ap (λ n. weigh w f + n) (weigh-scale w (p - 1) g)

module _ {I : Type 0} (p : ℕ) (pos : 0 < p) where
  -- equal combinations have the difference zero, and the converse
  pub difference-zero : {f g : Comb I} → Alike p f g → Alike p (difference p f g) []
  difference-zero {f} {g} h = record {
    at = λ w.
        same (weigh-difference w p f g) ⊙ plus (h.at w) (same refl)
        ⊙ same (omega (arith, minus_one p (weigh w g) pos)) ⊙ multiple (weigh w g) 0;
  }

  pub zero-difference : {f g : Comb I} → Alike p (difference p f g) [] → Alike p f g
  zero-difference {f} {g} h = record {
    at = λ w.
        back (multiple (weigh w g) (weigh w f))
        ⊙ same (omega (arith, minus_one p (weigh w g) pos, weigh-difference w p f g))
        ⊙ plus {b = 0} (h.at w) (same {a = weigh w g} refl) ⊙ same (omega arith);
  }

module _ (p : ℕ) (fs : List Form) where
  pub consequence-alike : {f g : Poly} → Alike p f g → IsConsequence p fs f → IsConsequence p fs g
  consequence-alike h c = consequence-same p fs (poly_alike h) c

  pub consequence-flat : {X : Type 0} (g : X → Poly) (xs : List X) → ((x : X) → IsConsequence p fs (g x)) → IsConsequence p fs (flat_map g xs)
  consequence-flat g [] h = consequence-zero p fs
  consequence-flat g (x ∷ xs) h = consequence-append p fs (h x) (consequence-flat g xs h)

  pub consequence-times-right : (f h : Poly) → IsConsequence p fs f → IsConsequence p fs (product f h)
  consequence-times-right f h c = consequence-alike {f = flat_map (λ t. scale t.0 (reindex (beside (Right, t.1)) f)) h} (equal _ _ (λ w.
      weigh-flat w _ h ∙ total-equal _ _ h (λ t. weigh-scale w t.0 (reindex (beside (Right, t.1)) f) ∙ ap (λ n. t.0 * n) (weigh-reindex w (beside (Right, t.1)) f))
      ∙ sym (weigh-swap (λ i j. w (node i j)) f h)
      ∙ sym (weigh-outer node w f h)))
      (consequence-flat _ h (λ t. consequence-scale p fs t.0 (consequence-beside p fs (Right, t.1) c)))

  pub consequence-times-left : (f h : Poly) → IsConsequence p fs h → IsConsequence p fs (product f h)
  consequence-times-left f h c = consequence-alike {f = flat_map (λ t. scale t.0 (reindex (beside (Left, t.1)) h)) f} (equal _ _ (λ w.
      weigh-flat w _ f ∙ total-equal _ _ f (λ t. weigh-scale w t.0 (reindex (beside (Left, t.1)) h) ∙ ap (λ n. t.0 * n) (weigh-reindex w (beside (Left, t.1)) h))
      ∙ sym (weigh-outer node w f h)))
      (consequence-flat _ f (λ t. consequence-scale p fs t.0 (consequence-beside p fs (Left, t.1) c)))

  module _ (pos : 0 < p) where
    pub congruent-alike : {f g : Poly} → Alike p f g → IsCongruent p fs f g
    congruent-alike h = record { differ = consequence-alike (turned (difference-zero p pos h)) (consequence-zero p fs) }

    pub congruent-joined : {f g h : Poly} → IsCongruent p fs f g → IsCongruent p fs g h → IsCongruent p fs f h
    congruent-joined {f} {g} {h} a b = record {
      differ = consequence-alike (record {
        at = λ w.
            same (weigh-append w (difference p f g) (difference p g h))
            ⊙ same (omega (arith, weigh-difference w p f g, weigh-difference w p g h, weigh-difference w p f h, minus_one p (weigh w g) pos))
            ⊙ multiple (weigh w g) (weigh w (difference p f h));
      }) (consequence-append p fs a.differ b.differ);
    }

    pub congruent-turned : {f g : Poly} → IsCongruent p fs f g → IsCongruent p fs g f
    congruent-turned {f} {g} a = record {
      differ = consequence-alike (record {
        at = λ w.
            same (weigh-scale w (p - 1) (difference p f g) ∙ ap (λ n. (p - 1) * n) (weigh-difference w p f g) ∙ mul-add (p - 1) (weigh w f) _)
            ⊙ plus (same {a = (p - 1) * weigh w f} refl) (minus_twice p (weigh w g) pos)
            ⊙ same (omega (arith, weigh-difference w p g f));
      }) (consequence-scale p fs (p - 1) a.differ);
    }

    pub congruent-append : {f g f' g' : Poly} → IsCongruent p fs f g → IsCongruent p fs f' g' → IsCongruent p fs (f ++ f') (g ++ g')
    congruent-append {f} {g} {f'} {g'} a b = record {
      differ = consequence-alike (equal _ _ (λ w.
          weigh-append w (difference p f g) (difference p f' g')
          ∙ omega (
            arith,
            weigh-difference w p f g,
            weigh-difference w p f' g',
            weigh-difference w p (f ++ f') (g ++ g'),
            weigh-append w f f',
            ap (λ n. (p - 1) * n) (weigh-append w g g'),
            mul-add (p - 1) (weigh w g) (weigh w g'),
          ))) (consequence-append p fs a.differ b.differ);
    }

    pub congruent-scale : (c : ℕ) {f g : Poly} → IsCongruent p fs f g → IsCongruent p fs (scale c f) (scale c g)
    congruent-scale c {f} {g} a = record {
      differ = consequence-alike (equal _ _ (λ w.
          weigh-scale w c (difference p f g) ∙ ap (λ n. c * n) (weigh-difference w p f g) ∙ mul-add c (weigh w f) _
          ∙ sym (weigh-difference w p (scale c f) (scale c g) ∙ rw (weigh-scale w c f, weigh-scale w c g) (ap (λ n. c * weigh w f + n) (mul_left_comm (p - 1) c (weigh w g))))))
          (consequence-scale p fs c a.differ);
    }

    pub congruent-flat : {X : Type 0} (P : X → Type 0) (g h : X → Poly) (xs : List X) → ((x : X) → P x → IsCongruent p fs (g x) (h x)) → Each P xs →
        IsCongruent p fs (flat_map g xs) (flat_map h xs)
    congruent-flat P g h [] k a = congruent-alike (itself [])
    congruent-flat P g h (x ∷ xs) k a = congruent-append (k x a.0) (congruent-flat P g h xs k a.1)

    -- a factor replaced by a congruent one
    pub congruent-left : {f g : Poly} (h : Poly) → IsCongruent p fs f g → IsCongruent p fs (product f h) (product g h)
    congruent-left {f} {g} h a = record {
      differ = consequence-alike
          (joined (multiply-append-left free_product f (scale (p - 1) g) h) (append-alike (itself _) (multiply-scale-left free_product (p - 1) g h)))
          (consequence-times-right (difference p f g) h a.differ);
    }

    pub congruent-right : (h : Poly) {f g : Poly} → IsCongruent p fs f g → IsCongruent p fs (product h f) (product h g)
    congruent-right h {f} {g} a = record {
      differ = consequence-alike
          (joined (multiply-append-right free_product h f (scale (p - 1) g)) (append-alike (itself _) (multiply-scale-right free_product (p - 1) h g)))
          (consequence-times-left h (difference p f g) a.differ);
    }

    pub congruent-product : {f g f' g' : Poly} → IsCongruent p fs f g → IsCongruent p fs f' g' → IsCongruent p fs (product f f') (product g g')
    congruent-product {f} {g} {f'} {g'} a b = congruent-joined (congruent-left f' a) (congruent-right g b)

    -- what is congruent to a consequence is one
    pub congruent-consequence : {f g : Poly} → IsCongruent p fs f g → IsConsequence p fs g → IsConsequence p fs f
    congruent-consequence {f} {g} a c = consequence-alike (record {
      at = λ w.
          same (weigh-append w (difference p f g) g)
          ⊙ same (omega (arith, weigh-difference w p f g, minus_one p (weigh w g) pos))
          ⊙ multiple (weigh w g) (weigh w f);
    }) (consequence-append p fs a.differ c)
