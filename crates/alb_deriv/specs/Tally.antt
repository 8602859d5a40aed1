-- Sums that are collected by the numbers of monomials.
use Rattle.std.specs.Prelude.{◌≡◌, ℕ, ◌<◌, ◌==◌, not, List, [], ◌∷◌, length}
use Rattle.std.specs.List.{filter}
use Rattle.alb_mono.specs.Listing.{Each}
use Rattle.alb_deriv.specs.declared.tally.Tally.{Tally}

-- coefficients beside their numbers
abbrev pub paired : List ℕ → List ℕ → List (ℕ × ℕ)
paired [] ks = []
paired (c ∷ cs) [] = []
paired (c ∷ cs) (k ∷ ks) = (c, k) ∷ paired cs ks

-- the terms of a tally
abbrev pub tallied : Tally → List (ℕ × ℕ)
tallied t = paired t.coefs.items t.numbers.keys

-- a residue for each number
pub record IsTally (p : ℕ) (t : Tally) : Type 0 where
  pub long : length t.coefs.items ≡ length t.numbers.keys
  pub residues : Each (λ c. c < p) t.coefs.items

-- the terms with a coefficient that is not 0
abbrev pub nonzero : List (ℕ × ℕ) → List (ℕ × ℕ)
nonzero f = filter (λ t. not (t.0 == 0)) f
