use Rattle.alb_poly.proofs.Whole.{types-are-tested}
use Rattle.alb_poly.proofs.laws.types_are_tested.Goals as goal

pub returns : goal.returns
returns c = types-are-tested
