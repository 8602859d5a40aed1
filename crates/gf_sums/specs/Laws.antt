-- Laws that functions of `laws` state.
use Rattle.std.specs.Prelude.{◌≡◌, ℕ, nat_eq}
use Rattle.std.specs.Ordering.{nat_cmp}
use Rattle.gf_field.specs.Modular.{IsSameMod}
use Rattle.gf_sums.specs.Sums.{Comb, weigh, AreSame, IsCanonical}

-- equal combinations have equal values at every weight
abbrev pub WeighsAlike : Type 0
WeighsAlike = (p : ℕ) (f g : Comb ℕ) (w : ℕ → ℕ) → AreSame (λ i j. nat_eq i j) p f g → IsSameMod p (weigh w f) (weigh w g)

-- combinations with equal values at every weight are equal
abbrev pub CoefficientsFromWeights : Type 0
CoefficientsFromWeights =
    (p : ℕ) (f g : Comb ℕ) → ((w : ℕ → ℕ) → IsSameMod p (weigh w f) (weigh w g)) → AreSame (λ i j. nat_eq i j) p f g

-- among equal combinations at most one is canonical
abbrev pub CanonicalIsUnique : Type 0
CanonicalIsUnique =
    (p : ℕ) (f g : Comb ℕ) → IsCanonical nat_cmp p f → IsCanonical nat_cmp p g → AreSame (λ i j. nat_eq i j) p f g → f ≡ g
