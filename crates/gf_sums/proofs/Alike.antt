-- Combinations with equal values at every weight. This is how the laws are proved; `weigh-same` and `same-weigh` lead
-- from equal coefficients and back.
use Rattle.std.proofs.Common.{◌≡◌, ℕ, ◌*◌, Bool, List, ◌++◌, sym, refl, ap, ◌∙◌, arith}
use Rattle.std.specs.List.{flat_map}
use Rattle.std.proofs.Math.Nat.{mul-add}
use Rattle.gf_field.specs.Modular.{IsSameMod}
use Rattle.gf_field.proofs.Mod.{same, back, ◌⊙◌, plus, times}
use Rattle.gf_sums.specs.Sums.{total, Comb, weigh, AreSame, scale, reindex, multiply, TellsApart}
use Rattle.gf_sums.proofs.Totals.{total-equal, total-same, total-map, total-flat, total-times, total-plus, weigh-append, weigh-scale, weigh-multiply, weigh-same, same-weigh}

pub record Alike {I : Type 0} (p : ℕ) (f g : Comb I) : Type 0 where
  pub at : (w : I → ℕ) → IsSameMod p (weigh w f) (weigh w g)

pub alike-same : {I : Type 0} {p : ℕ} {f g : Comb I} (test : I → I → Bool) → TellsApart test → AreSame test p f g → Alike p f g
alike-same {f = f} {g = g} test tells h = record { at = weigh-same test tells f g h }

pub same-alike : {I : Type 0} {p : ℕ} {f g : Comb I} (test : I → I → Bool) → TellsApart test → Alike p f g → AreSame test p f g
same-alike {f = f} {g = g} test tells h = same-weigh test tells f g h.at

pub weigh-reindex : {I J : Type 0} (w : J → ℕ) (h : I → J) (f : Comb I) → weigh w (reindex h f) ≡ weigh (λ i. w (h i)) f
weigh-reindex w h f = total-map (λ t. t.0 * w t.1) (λ t. (t.0, h t.1)) f

pub weigh-flat : {X I : Type 0} (w : I → ℕ) (g : X → Comb I) (xs : List X) → weigh w (flat_map g xs) ≡ total (λ x. weigh w (g x)) xs
weigh-flat w g xs = total-flat (λ t. t.0 * w t.1) g xs

module _ {I : Type 0} {p : ℕ} where
  -- where the values are equal numbers
  pub equal : (f g : Comb I) → ((w : I → ℕ) → weigh w f ≡ weigh w g) → Alike p f g
  equal f g h = record { at = λ w. same (h w) }

  pub itself : (f : Comb I) → Alike p f f
  itself f = equal f f (λ w. refl)

  pub turned : {f g : Comb I} → Alike p f g → Alike p g f
  turned h = record { at = λ w. back (h.at w) }

  pub joined : {f g h : Comb I} → Alike p f g → Alike p g h → Alike p f h
  joined a b = record { at = λ w. a.at w ⊙ b.at w }

  pub append-alike : {f g f' g' : Comb I} → Alike p f g → Alike p f' g' → Alike p (f ++ f') (g ++ g')
  append-alike {f} {g} {f'} {g'} a b = record {
    at = λ w.
        same (weigh-append w f f') ⊙ plus (a.at w) (b.at w) ⊙ same (sym (weigh-append w g g'));
  }

  pub scale-alike : (c : ℕ) {f g : Comb I} → Alike p f g → Alike p (scale c f) (scale c g)
  scale-alike c {f} {g} a = record {
    at = λ w.
        same (weigh-scale w c f) ⊙ times (same {a = c} refl) (a.at w) ⊙ same (sym (weigh-scale w c g));
  }

  pub scales-alike : {b c : ℕ} (f : Comb I) → IsSameMod p b c → Alike p (scale b f) (scale c f)
  scales-alike {b} {c} f h = record {
    at = λ w.
        same (weigh-scale w b f) ⊙ times h (same refl) ⊙ same (sym (weigh-scale w c f));
  }

pub reindex-alike : {I J : Type 0} {p : ℕ} (h : I → J) {f g : Comb I} → Alike p f g → Alike p (reindex h f) (reindex h g)
reindex-alike h {f} {g} a = record {
  at = λ w.
      same (weigh-reindex w h f) ⊙ a.at (λ i. w (h i)) ⊙ same (sym (weigh-reindex w h g));
}

-- each piece replaced by an equal one
pub flat-alike : {X I : Type 0} {p : ℕ} (g h : X → Comb I) (xs : List X) → ((x : X) → Alike p (g x) (h x)) → Alike p (flat_map g xs) (flat_map h xs)
flat-alike g h xs a = record {
  at = λ w.
      same (weigh-flat w g xs) ⊙ total-same _ _ xs (λ x. (a x).at w) ⊙ same (sym (weigh-flat w h xs));
}

module _ {I J K : Type 0} {p : ℕ} (prod : I → J → Comb K) where
  pub multiply-alike : {f g : Comb I} {f' g' : Comb J} → Alike p f g → Alike p f' g' → Alike p (multiply prod f f') (multiply prod g g')
  multiply-alike {f} {g} {f'} {g'} a b = record {
    at = λ w.
        same (weigh-multiply prod w f f')
        ⊙ total-same _ _ f (λ s. times (same {a = s.0} refl) (b.at (λ j. weigh w (prod s.1 j))))
        ⊙ a.at (λ i. weigh (λ j. weigh w (prod i j)) g')
        ⊙ same (sym (weigh-multiply prod w g g'));
  }

  pub multiply-append-left : (f g : Comb I) (h : Comb J) → Alike p (multiply prod (f ++ g) h) (multiply prod f h ++ multiply prod g h)
  multiply-append-left f g h = equal _ _ (λ w.
      weigh-multiply prod w (f ++ g) h ∙ weigh-append _ f g
      ∙ sym (rw (weigh-append w (multiply prod f h) (multiply prod g h), weigh-multiply prod w f h, weigh-multiply prod w g h)))

  pub multiply-append-right : (f : Comb I) (g h : Comb J) → Alike p (multiply prod f (g ++ h)) (multiply prod f g ++ multiply prod f h)
  multiply-append-right f g h = equal _ _ (λ w.
      weigh-multiply prod w f (g ++ h)
      ∙ total-equal _ _ f (λ s. ap (λ n. s.0 * n) (weigh-append _ g h) ∙ mul-add s.0 _ _)
      ∙ total-plus _ _ f
      ∙ sym (rw (weigh-append w (multiply prod f g) (multiply prod f h), weigh-multiply prod w f g, weigh-multiply prod w f h)))

  pub multiply-scale-left : (c : ℕ) (f : Comb I) (g : Comb J) → Alike p (multiply prod (scale c f) g) (scale c (multiply prod f g))
  multiply-scale-left c f g = equal _ _ (λ w.
      weigh-multiply prod w (scale c f) g ∙ weigh-scale _ c f
      ∙ sym (weigh-scale w c (multiply prod f g) ∙ ap (λ n. c * n) (weigh-multiply prod w f g)))

  pub multiply-scale-right : (c : ℕ) (f : Comb I) (g : Comb J) → Alike p (multiply prod f (scale c g)) (scale c (multiply prod f g))
  multiply-scale-right c f g = equal _ _ (λ w.
      weigh-multiply prod w f (scale c g)
      ∙ total-equal _ _ f (λ s. ap (λ n. s.0 * n) (weigh-scale _ c g) ∙ grind arith)
      ∙ total-times c _ f
      ∙ sym (weigh-scale w c (multiply prod f g) ∙ ap (λ n. c * n) (weigh-multiply prod w f g)))
