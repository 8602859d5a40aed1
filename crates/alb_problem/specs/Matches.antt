-- When the consequences of forms are the textbook's.
use Rattle.std.specs.Prelude.{◌↔◌, ℕ, List}
use Rattle.alb_poly.specs.Poly.{Poly}
use Rattle.alb_poly.specs.Instance.{Form, Identity, IsWithin, polynomials}
use Rattle.alb_poly.specs.Consequence.{IsConsequence}
use Rattle.alb_poly.specs.Textbook.{IsTextConsequence}

-- For every polynomial within the target, the consequences of the forms are exactly the textbook's consequences of the
-- identities.
abbrev pub MatchesTextbook : ℕ → List ℕ → List Form → List Identity → Type 0
MatchesTextbook p target ls fs =
    (g : Poly) → IsWithin p target g → IsConsequence p ls g ↔ IsTextConsequence p (polynomials fs) g
