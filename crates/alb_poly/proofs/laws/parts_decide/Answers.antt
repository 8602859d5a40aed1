use Rattle.alb_poly.proofs.Whole.{parts-decide}
use Rattle.alb_poly.proofs.laws.parts_decide.Goals as goal

pub returns : goal.returns
returns c = parts-decide
