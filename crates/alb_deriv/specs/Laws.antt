-- The laws of derivations.
use Rattle.std.specs.Prelude.{◌≡◌, ◌<◌, ◌≤◌, ◌^◌, ◌↔◌, ℕ, List, [], None, length, sum}
use Rattle.gf_field.specs.Modular.{IsPrime}
use Rattle.alb_mono.specs.Listing.{Each}
use Rattle.alb_poly.specs.Poly.{Poly}
use Rattle.alb_poly.specs.Instance.{Form, IsWithin}
use Rattle.alb_poly.specs.Consequence.{IsConsequence, AreMultilinear}
use Rattle.alb_deriv.specs.Derivation.{Line, line_values, AreSound, IsDerivation, claim_fault, HasLimitedDerivation}
use Rattle.alb_deriv.specs.Short.{HasShortDerivation}

-- the polynomial of each line is a consequence, where no line has a fault
abbrev pub LinesAreConsequences : Type 0
LinesAreConsequences = (p : ℕ) (target : List ℕ) (fs : List Form) (ls : List Line) → AreSound p target fs [] ls → Each (IsConsequence p fs) (line_values fs [] ls)

-- what has a derivation is a consequence
abbrev pub DerivedIsConsequence : Type 0
DerivedIsConsequence = (p : ℕ) (target : List ℕ) (fs : List Form) (g : Poly) (ls : List Line) → IsDerivation p target fs g ls → IsConsequence p fs g

-- the lines are a derivation exactly where they have no fault and end with the claim
abbrev pub NoFaultIsDerivation : Type 0
NoFaultIsDerivation = (p : ℕ) (target : List ℕ) (fs : List Form) (g : Poly) (ls : List Line) → 0 < p → (claim_fault p target fs g ls ≡ None) ↔ IsDerivation p target fs g ls

-- each consequence within the target has a derivation, and even one in which no sum has more than `most` items
abbrev pub ConsequencesHaveDerivations : Type 0
ConsequencesHaveDerivations =
    (p most : ℕ) (target : List ℕ) (fs : List Form) (g : Poly) → 0 < p → 2 ≤ most → AreMultilinear fs → IsWithin p target g → IsConsequence p fs g →
    HasShortDerivation p most target fs g

-- Over a prime field, each consequence within a target of degree at most 12 has a derivation that keeps the limits of its text.
abbrev pub ConsequencesHaveLimitedDerivations : Type 0
ConsequencesHaveLimitedDerivations =
    (p : ℕ) (target : List ℕ) (fs : List Form) (g : Poly) → IsPrime p → sum target ≤ 12 → length fs < 10 ^ 18 → AreMultilinear fs → IsWithin p target g → IsConsequence p fs g →
    HasLimitedDerivation p target fs g
