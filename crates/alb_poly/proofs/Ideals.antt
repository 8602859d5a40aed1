-- The textbook's consequences of some polynomials are the least ideal that holds all their values, and a T-ideal.
use Rattle.std.proofs.Common.{◌≡◌, ℕ, suc, ◌+◌, ◌*◌, List, [], ◌∷◌, ◌++◌, map, get_or, sym, refl, ap, ◌∙◌, arith}
use Rattle.std.specs.List.{flat_map}
use Rattle.std.proofs.lemmas.List.{map-append}
use Rattle.std.proofs.Math.Nat.{mul_assoc}
use Rattle.gf_field.specs.Modular.{IsSameMod}
use Rattle.gf_field.proofs.Mod.{same, ◌⊙◌, plus, times}
use Rattle.gf_sums.specs.Sums.{weigh, scale, reindex}
use Rattle.gf_sums.proofs.Totals.{weigh-equal, weigh-append, weigh-scale, weigh-multiply, weigh-swap}
use Rattle.gf_sums.proofs.Alike.{Alike, equal, itself, turned, joined, append-alike, scale-alike, reindex-alike, multiply-alike, weigh-reindex}
use Rattle.alb_mono.specs.Listing.{Each}
use Rattle.alb_mono.proofs.ListingLemmas.{each-weaker}
use Rattle.alb_mono.specs.Tree.{Tree, leaf, node}
use Rattle.alb_mono.specs.declared.side.Side.{Side}
use Rattle.alb_mono.specs.declared.side.Side.TheVariants.{Left, Right}
use Rattle.alb_poly.specs.Textbook.{evaluate, unit, free_product, value_at, Instance, instance_value, IsTextConsequence}
use Rattle.alb_poly.specs.Poly.{Poly, generator, product}
use Rattle.alb_poly.specs.Consequence.{beside, within}
use Rattle.alb_poly.specs.Ideal.{IsIdeal, HoldsValues}
use Rattle.alb_poly.specs.Laws.{ConsequencesAreTIdeal, ConsequencesAreLeast}
use Rattle.alb_poly.proofs.Consequence.{alike_poly, poly_alike, itself', flat-append, within-append}
use Rattle.alb_poly.proofs.Parts.{weigh-zero}
use Rattle.alb_poly.proofs.Evaluate.{IsIdealIn, text-in}

pub weigh-instance : (fs : List Poly) (w : Tree → ℕ) (it : Instance) →
    weigh w (instance_value fs it) ≡ it.coef * weigh (λ m. w (within it.context m)) (value_at (get_or fs it.identity []) it.args)
weigh-instance fs w it =
    weigh-scale w it.coef (reindex (within it.context) (value_at (get_or fs it.identity []) it.args))
    ∙ ap (λ n. it.coef * n) (weigh-reindex w (within it.context) (value_at (get_or fs it.identity []) it.args))

-- an ideal of the free algebra, by weights
ideal-in : (p : ℕ) (P : Poly → Type 0) → IsIdeal p P → IsIdealIn free_product p P
ideal-in p P i = record {
  zero = i.zero;
  same = λ f g h. i.same f g (poly_alike h);
  sums = i.sums;
  multiples = i.multiples;
  left = i.left;
  right = i.right;
}

-- ---- each generator put for itself

evaluate-itself : {p : ℕ} (m : Tree) → Alike p (evaluate free_product generator m) (unit m)
evaluate-itself (leaf k) = itself _
evaluate-itself (node l r) = joined (multiply-alike free_product (evaluate-itself l) (evaluate-itself r)) (equal _ _ (λ w. omega arith))

value-itself : {p : ℕ} (f : Poly) → Alike p (value_at f generator) f
value-itself f = record { at = λ w. alike-terms w f }
  where
    alike-terms : {p : ℕ} (w : Tree → ℕ) (f : Poly) → IsSameMod p (weigh w (value_at f generator)) (weigh w f)
    alike-terms w [] = same refl
    alike-terms w (t ∷ f) =
        same (weigh-append w (scale t.0 (evaluate free_product generator t.1)) (value_at f generator))
        ⊙ plus (same (weigh-scale w t.0 (evaluate free_product generator t.1)) ⊙ times (same {a = t.0} refl) ((evaluate-itself t.1).at w ⊙ same (omega arith))) (alike-terms w f)

-- ---- the least ideal

pub least : (p : ℕ) (fs : List Poly) (P : Poly → Type 0) → IsIdeal p P → HoldsValues fs P → (g : Poly) → IsTextConsequence p fs g → P g
least p fs P i h g c = i.same _ g (poly_alike (value-itself g))
    (text-in free_product p P (ideal-in p P i) generator fs g (λ us. each-weaker _ _ fs (λ f k. k (λ j. value_at (us j) generator)) h) c)

-- ---- the consequences are an ideal

module _ (p : ℕ) (fs : List Poly) where
  text-same : (f g : Poly) → Alike p f g → IsTextConsequence p fs f → IsTextConsequence p fs g
  text-same f g h c = record { items = c.items; same = poly_alike (joined (turned h) (alike_poly c.same)) }

  text-zero : IsTextConsequence p fs []
  text-zero = record { items = []; same = λ m. same refl }

  text-append : (f g : Poly) → IsTextConsequence p fs f → IsTextConsequence p fs g → IsTextConsequence p fs (f ++ g)
  text-append f g a b = record {
    items = a.items ++ b.items;
    same = poly_alike (joined (append-alike (alike_poly a.same) (alike_poly b.same)) (itself' _ _ (sym (flat-append (instance_value fs) a.items b.items))));
  }

  -- a change of each item that changes its value by a map of polynomials which respects sums
  text-map : (h : Instance → Instance) (m : Poly → Poly) → m [] ≡ [] → ((f g : Poly) → m (f ++ g) ≡ m f ++ m g) →
      ((it : Instance) → Alike p (m (instance_value fs it)) (instance_value fs (h it))) → (its : List Instance) →
      Alike p (m (flat_map (instance_value fs) its)) (flat_map (instance_value fs) (map h its))
  text-map h m z a k [] = rw z (itself [])
  text-map h m z a k (it ∷ its) = rw (a (instance_value fs it) (flat_map (instance_value fs) its)) (append-alike (k it) (text-map h m z a k its))

  times_item : ℕ → Instance → Instance
  times_item c it = record { coef = c * it.coef; identity = it.identity; args = it.args; context = it.context }

  beside_item : Side × Tree → Instance → Instance
  beside_item s it = record { coef = it.coef; identity = it.identity; args = it.args; context = it.context ++ s ∷ [] }

  text-scale : (c : ℕ) (f : Poly) → IsTextConsequence p fs f → IsTextConsequence p fs (scale c f)
  unfolding times_item
  text-scale c f a = record {
    items = map (times_item c) a.items;
    same = poly_alike (joined (scale-alike c (alike_poly a.same))
        (text-map (times_item c) (scale c) refl (λ f g. map-append _ f g)
        (λ it. equal _ _ (λ w.
        weigh-scale w c (instance_value fs it) ∙ ap (λ n. c * n) (weigh-instance fs w it)
        ∙ sym (weigh-instance fs w (times_item c it) ∙ mul_assoc c it.coef _))) a.items));
  }

  text-beside : (s : Side × Tree) (f : Poly) → IsTextConsequence p fs f → IsTextConsequence p fs (reindex (beside s) f)
  unfolding beside_item
  text-beside s f a = record {
    items = map (beside_item s) a.items;
    same = poly_alike (joined (reindex-alike (beside s) (alike_poly a.same))
        (text-map (beside_item s) (reindex (beside s)) refl (λ f g. map-append _ f g) (λ it. equal _ _ (λ w.
        weigh-reindex w (beside s) (instance_value fs it) ∙ weigh-instance fs (λ m. w (beside s m)) it
        ∙ ap (λ n. it.coef * n) (weigh-equal _ _ (value_at (get_or fs it.identity []) it.args) (λ m. ap w (sym (within-append it.context s m))))
        ∙ sym (weigh-instance fs w (beside_item s it)))) a.items));
  }

  -- products, term by term of the other factor
  first-left : (t : ℕ × Tree) (f g : Poly) → Alike p (scale t.0 (reindex (beside (Left, t.1)) g) ++ product f g) (product (t ∷ f) g)
  first-left t f g = equal _ _ (λ w.
      let pair : Tree → Tree → ℕ = λ l r. weigh w (free_product l r) in
      weigh-append w (scale t.0 (reindex (beside (Left, t.1)) g)) (product f g)
      ∙ ap (λ n. n + weigh w (product f g)) (weigh-scale w t.0 (reindex (beside (Left, t.1)) g)
      ∙ ap (λ n. t.0 * n) (weigh-reindex w (beside (Left, t.1)) g ∙ weigh-equal _ (pair t.1) g (λ r. omega arith)))
      ∙ ap (λ n. t.0 * weigh (pair t.1) g + n) (weigh-multiply free_product w f g)
      ∙ sym (weigh-multiply free_product w (t ∷ f) g))

  first-right : (t : ℕ × Tree) (f g : Poly) → Alike p (scale t.0 (reindex (beside (Right, t.1)) f) ++ product f g) (product f (t ∷ g))
  first-right t f g = equal _ _ (λ w.
      let pair : Tree → Tree → ℕ = λ l r. weigh w (free_product l r) in
      weigh-append w (scale t.0 (reindex (beside (Right, t.1)) f)) (product f g)
      ∙ ap (λ n. n + weigh w (product f g)) (weigh-scale w t.0 (reindex (beside (Right, t.1)) f)
      ∙ ap (λ n. t.0 * n) (weigh-reindex w (beside (Right, t.1)) f ∙ weigh-equal _ (λ l. pair l t.1) f (λ l. omega arith)))
      ∙ ap (λ n. t.0 * weigh (λ l. pair l t.1) f + n) (weigh-multiply free_product w f g ∙ weigh-swap pair f g)
      ∙ sym (weigh-multiply free_product w f (t ∷ g) ∙ weigh-swap pair f (t ∷ g)))

  text-right : (f g : Poly) → IsTextConsequence p fs g → IsTextConsequence p fs (product f g)
  text-right [] g c = text-zero
  text-right (t ∷ f) g c = text-same _ _ (first-left t f g)
      (text-append _ _ (text-scale t.0 _ (text-beside (Left, t.1) g c)) (text-right f g c))

  text-left : (f g : Poly) → IsTextConsequence p fs f → IsTextConsequence p fs (product f g)
  text-left f [] c = text-same [] _ (equal _ _ (λ w. sym (weigh-multiply free_product w f [] ∙ weigh-zero f))) text-zero
  text-left f (t ∷ g) c = text-same _ _ (first-right t f g)
      (text-append _ _ (text-scale t.0 _ (text-beside (Right, t.1) f c)) (text-left f g c))

  pub text-ideal : IsIdeal p (IsTextConsequence p fs)
  text-ideal = record {
    zero = text-zero;
    same = λ f g h. text-same f g (alike_poly h);
    sums = text-append;
    multiples = text-scale;
    left = text-left;
    right = text-right;
  }

  -- a value by itself
  text-value : (k : ℕ) (us : ℕ → Poly) → IsTextConsequence p fs (value_at (get_or fs k []) us)
  text-value k us = record {
    items = record { coef = 1; identity = k; args = us; context = [] } ∷ [];
    same = poly_alike (equal _ _ (λ w. once w k us));
  }
    where
      once : (w : Tree → ℕ) (k : ℕ) (us : ℕ → Poly) →
          weigh w (value_at (get_or fs k []) us) ≡ weigh w (instance_value fs (record { coef = 1; identity = k; args = us; context = [] }) ++ [])
      once w k us = omega (
        arith,
        weigh-append w (instance_value fs (record { coef = 1; identity = k; args = us; context = [] })) [],
        weigh-instance fs w (record { coef = 1; identity = k; args = us; context = [] }),
      )

  pub text-values : HoldsValues fs (IsTextConsequence p fs)
  text-values = each_index (λ f. (us : ℕ → Poly) → IsTextConsequence p fs (value_at f us)) fs text-value
    where
      each_index : (P : Poly → Type 0) (gs : List Poly) → ((k : ℕ) → P (get_or gs k [])) → Each P gs
      each_index P [] h = tt
      each_index P (g ∷ gs) h = (h 0, each_index P gs (λ k. h (suc k)))

  -- polynomials put for generators
  pub text-substituted : (us : ℕ → Poly) (g : Poly) → IsTextConsequence p fs g → IsTextConsequence p fs (value_at g us)
  text-substituted us g c = text-in free_product p (IsTextConsequence p fs) (ideal-in p (IsTextConsequence p fs) text-ideal) us fs g
      (λ vs. each-weaker _ _ fs (λ f k. k (λ j. value_at (vs j) us)) text-values) c

pub consequences-are-t-ideal : ConsequencesAreTIdeal
consequences-are-t-ideal p fs = record {
  t_ideal = record { ideal = text-ideal p fs; substituted = text-substituted p fs };
  values = text-values p fs;
}

pub consequences-are-least : ConsequencesAreLeast
consequences-are-least p fs test i h g c = least p fs _ i h g c
