-- For polynomials within the target the consequences of the linearizations are exactly the textbook's.
use Rattle.std.proofs.Common.{ℕ, ◌%◌, ◌<◌, List, sum, sym, ◌∙◌, arith, inl, inr}
use Rattle.std.proofs.lemmas.Bool.{cases_eq}
use Rattle.std.proofs.Math.Nat.{mod-eq_of_lt}
use Rattle.gf_field.specs.Modular.{IsPrime}
use Rattle.gf_sums.specs.Sums.{coefficient}
use Rattle.alb_mono.specs.Tree.{same_tree}
use Rattle.alb_poly.specs.Poly.{Poly}
use Rattle.alb_poly.specs.Instance.{Form, Identity, AreHomogeneous, linearizations, IsWithin, AreSameForms}
use Rattle.alb_poly.proofs.AtMost.{degree-at_most}
pub use Rattle.alb_poly.proofs.AtMost.{IsWithin-terms}
use Rattle.alb_problem.specs.Matches.{MatchesTextbook}
use Rattle.alb_problem.proofs.Low.{IsLow}
use Rattle.alb_problem.proofs.Forms.{forms-turned, consequence-forms}
use Rattle.alb_problem.proofs.FromText.{consequence-from_text}
use Rattle.alb_problem.proofs.ToText.{text-from_consequence}

pub low-within : (p : ℕ) (target : List ℕ) (g : Poly) → sum target < p → IsWithin p target g → IsLow p g
low-within p target g above h m large = elim (cases_eq (coefficient same_tree g m % p) 0) [
  | inl e ↦ record { same = e ∙ sym (mod-eq_of_lt (omega arith)) }
  | inr ne ↦ absurd (omega (arith, degree-at_most target m (h m ne)))
]

-- ---- the equivalence

-- Where the prime is above the target's degree, forms that are the linearizations of homogeneous identities have the
-- textbook's consequences.
pub MatchesTextbook-linearizations : (p : ℕ) (target : List ℕ) (ls : List Form) (fs : List Identity) → IsPrime p → sum target < p →
    AreHomogeneous fs → AreSameForms p ls (linearizations fs) → MatchesTextbook p target ls fs
MatchesTextbook-linearizations p target ls fs prime above hom same g within = (
  (λ c. text-from_consequence p (omega (arith, prime.above_one)) fs hom g (consequence-forms p ls (linearizations fs) same g c)),
  (λ c. consequence-forms p (linearizations fs) ls (forms-turned p ls (linearizations fs) same) g
      (consequence-from_text p fs prime hom g (low-within p target g above within) c)),
)
