use Rattle.alb_deriv.proofs.Judged.{no_fault-derivation, derivation-no_fault}
use Rattle.alb_deriv.proofs.laws.no_fault.Goals as goal

pub returns : goal.returns
returns c p target fs g ls pos = (no_fault-derivation p target fs g ls pos, derivation-no_fault p target fs g ls pos)
