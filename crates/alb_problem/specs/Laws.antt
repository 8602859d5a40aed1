-- The laws that tie consequences to the textbook's definitions.
use Rattle.std.specs.Prelude.{ℕ, ◌<◌, sum, List}
use Rattle.gf_field.specs.Modular.{IsPrime}
use Rattle.gf_sums.specs.Sums.{Comb}
use Rattle.alb_mono.specs.Listing.{Each}
use Rattle.alb_poly.specs.Poly.{Poly}
use Rattle.alb_poly.specs.Instance.{Form, Identity, AreHomogeneous, linearizations, polynomials, AreSameForms}
use Rattle.alb_poly.specs.Consequence.{IsConsequence}
use Rattle.alb_poly.specs.Textbook.{IsTextConsequence}
use Rattle.alb_problem.specs.Matches.{MatchesTextbook}
use Rattle.alb_problem.specs.Satisfied.{Satisfies}

-- Where the prime is above the target's degree, forms that are the linearizations of homogeneous identities have, within
-- the target, the textbook's consequences and no others.
abbrev pub LinearizationsMatchTextbook : Type 0
LinearizationsMatchTextbook = (p : ℕ) (target : List ℕ) (ls : List Form) (fs : List Identity) → IsPrime p → sum target < p
    → AreHomogeneous fs → AreSameForms p ls (linearizations fs) → MatchesTextbook p target ls fs

-- Within no target and at any modulus, what follows from the linearizations follows in the textbook's sense.
abbrev pub ConsequencesAreTextbookConsequences : Type 0
ConsequencesAreTextbookConsequences = (p : ℕ) (ls : List Form) (fs : List Identity) (g : Poly) → 0 < p
    → AreHomogeneous fs → AreSameForms p ls (linearizations fs) → IsConsequence p ls g → IsTextConsequence p (polynomials fs) g

-- An algebra that satisfies some polynomials satisfies their consequences in the textbook's sense.
abbrev pub ConsequencesHold : Type 0
ConsequencesHold = (prod : ℕ → ℕ → Comb ℕ) (p : ℕ) (fs : List Poly) (g : Poly)
    → Each (Satisfies prod p) fs → IsTextConsequence p fs g → Satisfies prod p g
