-- The sorted list without zeros: it is determined by the coefficients.
use Rattle.std.proofs.Common.{◌≡◌, ℕ, ◌<◌, Bool, false, [], ◌∷◌, sym, refl, ap, subst, ◌∙◌, arith, inl, inr}
use Rattle.std.specs.Bool.{if◌then◌else◌}
use Rattle.std.specs.Cmp.{IsTotalOrder}
use Rattle.std.specs.Ordering.{ordering_reverse}
use Rattle.std.specs.declared.cmp.Ordering.{Ordering}
use Rattle.std.specs.declared.cmp.Ordering.TheVariants.{Less, Equal, Greater}
use Rattle.std.proofs.lemmas.Cmp.{tied_itself}
use Rattle.std.proofs.lemmas.Bool.{cases_Bool}
use Rattle.gf_field.specs.Modular.{IsSameMod}
use Rattle.gf_field.proofs.Mod.{same as alike, back, ◌⊙◌, residues, cancel_plus}
use Rattle.gf_sums.specs.Sums.{Comb, coefficient, AreSame, TellsApart, AllBefore, IsCanonical}

pair_same : {I : Type 0} (s t : ℕ × I) → s.0 ≡ t.0 → s.1 ≡ t.1 → s ≡ t
pair_same (a, i) (b, j) h k = cc

module _ {I : Type 0} (order : I → I → Ordering) (laws : IsTotalOrder order) (same : I → I → Bool) (tells : TellsApart same)
    (told : (i j : I) → order i j ≡ Equal → i ≡ j) where
  apart : (i j : I) → order i j ≡ Less → same i j ≡ false
  apart i j h = elim (cases_Bool (same i j)) [
    | inl e ↦ (let q : order i j ≡ Equal = ap (λ k. order k j) (tells.sound i j e) ∙ tied_itself laws j in absurd (cc))
    | inr e ↦ e
  ]

  -- an index that all others come before has no coefficient
  absent : (i : I) (f : Comb I) → AllBefore order i f → coefficient same f i ≡ 0
  absent i [] h = refl
  absent i (t ∷ f) h = rw (apart t.1 i h.0) (omega (arith, absent i f h.1))

  below : (i j : I) (f : Comb I) → order i j ≡ Less → AllBefore order i f → AllBefore order j f
  below i j [] h k = tt
  below i j (t ∷ f) h k = (laws.trans t.1 i j k.0 h, below i j f h k.1)

  lead : (t : ℕ × I) (f : Comb I) → AllBefore order t.1 f → coefficient same (t ∷ f) t.1 ≡ t.0
  lead t f h = rw (tells.whole t.1) (omega (arith, absent t.1 f h))

  nonzero : {p : ℕ} (c : ℕ) → 0 < c → c < p → IsSameMod p c 0 → ⊥
  nonzero c pos small h = let e : c ≡ 0 = residues small (omega arith) h in absurd (omega arith)

  -- where the first indices differ, the greater one has a coefficient on one side alone
  greater_first : {p : ℕ} (s : ℕ × I) (f : Comb I) (t : ℕ × I) (g : Comb I) → IsCanonical order p (s ∷ f) → IsCanonical order p (t ∷ g) →
      AreSame same p (s ∷ f) (t ∷ g) → order t.1 s.1 ≡ Less → ⊥
  greater_first s f t g a b h e =
      nonzero s.0 a.0 a.1 (alike (sym (lead s f a.2)) ⊙ h s.1 ⊙ alike (absent s.1 (t ∷ g) (e, below t.1 s.1 g e b.2)))

  turn : (i j : I) → order i j ≡ Greater → order j i ≡ Less
  turn i j h = laws.antisymm j i ∙ ap ordering_reverse h

  equal_first : (i j : I) → (order i j ≡ Less → ⊥) → (order i j ≡ Greater → ⊥) → order i j ≡ Equal
  equal_first i j l g = elim (order i j) as (λ o. (o ≡ Less → ⊥) → (o ≡ Greater → ⊥) → o ≡ Equal) [
    | Less ↦ λ l g. absurd (l refl)
    | Equal ↦ λ l g. refl
    | Greater ↦ λ l g. absurd (g refl)
  ] l g

  -- taking equal first terms away
  tails : {p : ℕ} (s : ℕ × I) (f g : Comb I) → 0 < p → AreSame same p (s ∷ f) (s ∷ g) → AreSame same p f g
  tails s f g pos h i =
      let c : ℕ = if same s.1 i then s.0 else 0 in
      cancel_plus c pos (alike (omega arith) ⊙ h i ⊙ alike (omega arith))

  pub canonical-unique : {p : ℕ} (f g : Comb I) → IsCanonical order p f → IsCanonical order p g → AreSame same p f g → f ≡ g
  canonical-unique [] [] a b h = refl
  canonical-unique [] (t ∷ g) a b h = absurd (nonzero t.0 b.0 b.1 (alike (sym (lead t g b.2)) ⊙ back (h t.1)))
  canonical-unique (s ∷ f) [] a b h = absurd (nonzero s.0 a.0 a.1 (alike (sym (lead s f a.2)) ⊙ h s.1))
  canonical-unique {p} (s ∷ f) (t ∷ g) a b h =
      let e : order s.1 t.1 ≡ Equal = equal_first s.1 t.1 (λ l. greater_first t g s f b a (λ i. back (h i)) l)
      (λ l. greater_first s f t g a b h (turn s.1 t.1 l)) in
      let q : s.1 ≡ t.1 = told s.1 t.1 e in
      let c : s.0 ≡ t.0 = residues a.1 b.1 (alike (sym (lead s f a.2)) ⊙ h s.1 ⊙ alike (ap (coefficient same (t ∷ g)) q ∙ lead t g b.2)) in
      let r : s ≡ t = pair_same s t c q in
      let k : AreSame same p (s ∷ f) (s ∷ g) = subst (λ x. AreSame same p (s ∷ f) (x ∷ g)) (sym r) h in
      let m : f ≡ g = canonical-unique f g a.3 b.3 (tails s f g (omega arith) k) in
      cc
