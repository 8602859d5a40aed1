use Rattle.alb_poly.proofs.Ideals.{consequences-are-least}
use Rattle.alb_poly.proofs.laws.consequences_are_least.Goals as goal

pub returns : goal.returns
returns c = consequences-are-least
