-- Faults and their absence.
use Rattle.std.proofs.Common.{◌≡◌, ◌<◌, ℕ, ◌+◌, ◌-◌, Bool, true, false, List, [], ◌∷◌, ◌++◌, length, refl, sym, subst, Option, Some, None}
use Rattle.std.proofs.lemmas.Bool.{false≢true, eqb-true, eq-eqb}
use Rattle.gf_sums.proofs.Alike.{Alike, joined, turned}
use Rattle.alb_mono.proofs.Both.{both_tests}
use Rattle.alb_poly.specs.Poly.{Poly, IsSamePoly, normal}
use Rattle.alb_poly.proofs.NormalLemmas.{normal-alike, same-normal}
use Rattle.alb_poly.specs.Instance.{Form}
use Rattle.alb_poly.specs.Consequence.{IsConsequence}
use Rattle.alb_poly.proofs.Consequence.{poly_alike, tree_tells, consequence-same, consequence-zero}
use Rattle.alb_poly.proofs.Parts.{each_at}
use Rattle.alb_deriv.specs.Derivation.{Line, DerivationFault, line_value, line_values, fault, or_later, or_claim, claim_fault, first_fault, AreSound, IsDerivation, same_terms, last_value}
use Rattle.alb_deriv.proofs.Derived.{lines-consequences}

none_later : (k : ℕ) (o : Option DerivationFault) (later : Option (DerivationFault × ℕ)) → or_later k o later ≡ None → (o ≡ None) × (later ≡ None)
none_later k None later h = (refl, h)
none_later k (Some x) later h = absurd (cc)

-- equal normal forms are those of equal polynomials
normal-equal : (p : ℕ) (f g : Poly) → normal p f ≡ normal p g → IsSamePoly p f g
normal-equal p f g e = poly_alike (joined (turned (normal-alike p f)) (subst (λ h. Alike p h g) (sym e) (normal-alike p g)))

module _ (p : ℕ) (target : List ℕ) (fs : List Form) where
  pub sound-no_fault : (gs : List Poly) (ls : List Line) → first_fault p target fs gs ls ≡ None → AreSound p target fs gs ls
  sound-no_fault gs [] h = tt
  sound-no_fault gs (l ∷ ls) h =
      let a = none_later (length gs + 1) (fault p target fs gs l) _ h in
      (a.0, sound-no_fault (gs ++ line_value fs gs l ∷ []) ls a.1)

  pub no_fault-sound : (gs : List Poly) (ls : List Line) → AreSound p target fs gs ls → first_fault p target fs gs ls ≡ None
  no_fault-sound gs [] h = refl
  no_fault-sound gs (l ∷ ls) h = rw (h.0) (no_fault-sound (gs ++ line_value fs gs l ∷ []) ls h.1)

  pub derived-consequence : (g : Poly) (ls : List Line) → IsDerivation p target fs g ls → IsConsequence p fs g
  derived-consequence g ls d =
      consequence-same p fs d.last
      (each_at (IsConsequence p fs) (line_values fs [] ls) (length ls - 1) [] (consequence-zero p fs) (lines-consequences p target fs [] ls tt d.sound))

pub same_terms-sound : (f g : Poly) → same_terms f g ≡ true → f ≡ g
same_terms-sound [] [] h = refl
same_terms-sound [] (t ∷ g) h = absurd (false≢true h)
same_terms-sound (s ∷ f) [] h = absurd (false≢true h)
same_terms-sound (s ∷ f) (t ∷ g) h =
    let a = both_tests _ _ h in
    let b = both_tests _ _ a.0 in
    let x = eqb-true s.0 t.0 b.0 in
    let y = tree_tells.sound s.1 t.1 b.1 in
    let z = same_terms-sound f g a.1 in λ i. (x i, y i) ∷ z i

pub same_terms-whole : (f : Poly) → same_terms f f ≡ true
same_terms-whole [] = refl
same_terms-whole (s ∷ f) = rw (eq-eqb s.0 s.0 refl, tree_tells.whole s.1, same_terms-whole f) refl

none_claim : (o : Option (DerivationFault × ℕ)) (b : Bool) → or_claim o b ≡ None → (o ≡ None) × (b ≡ true)
none_claim (Some x) b h = absurd (cc)
none_claim None true h = (refl, refl)
none_claim None false h = absurd (cc)

module _ (p : ℕ) (target : List ℕ) (fs : List Form) where
  pub no_fault-derivation : (g : Poly) (ls : List Line) → 0 < p → claim_fault p target fs g ls ≡ None → IsDerivation p target fs g ls
  no_fault-derivation g ls pos h =
      let a = none_claim (first_fault p target fs [] ls) (same_terms (normal p (last_value fs ls)) (normal p g)) h in
      record {
        sound = sound-no_fault p target fs [] ls a.0;
        last = normal-equal p (last_value fs ls) g (same_terms-sound (normal p (last_value fs ls)) (normal p g) a.1);
      }

  pub derivation-no_fault : (g : Poly) (ls : List Line) → 0 < p → IsDerivation p target fs g ls → claim_fault p target fs g ls ≡ None
  derivation-no_fault g ls pos d =
      rw (no_fault-sound p target fs [] ls d.sound, same-normal p (last_value fs ls) g pos d.last, same_terms-whole (normal p g)) refl
