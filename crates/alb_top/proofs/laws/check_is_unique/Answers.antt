use Rattle.alb_top.proofs.UniqueCheck.{check-unique}
use Rattle.alb_top.proofs.laws.check_is_unique.Goals as goal

pub returns : goal.returns
returns c = check-unique
