use Rattle.alb_deriv.proofs.Judged.{derived-consequence}
use Rattle.alb_deriv.proofs.laws.derived.Goals as goal

pub returns : goal.returns
returns c p target fs g ls d = derived-consequence p target fs g ls d
