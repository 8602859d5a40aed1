use Rattle.alb_check.proofs.SubRefutes.{each-decided}
use Rattle.alb_check.proofs.laws.each_is_decided.Goals as goal

pub returns : goal.returns
returns c fs t g multi high tab right within = each-decided fs t g multi high tab right within
