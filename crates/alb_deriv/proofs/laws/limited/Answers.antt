use Rattle.alb_deriv.proofs.Bounded.{limited-derivation}
use Rattle.alb_deriv.proofs.laws.limited.Goals as goal

pub returns : goal.returns
returns c p target fs g prime small few multi within h = limited-derivation p prime target fs multi small few g within h
