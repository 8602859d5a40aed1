use Rattle.std.proofs.Common.{[]}
use Rattle.alb_deriv.proofs.Derived.{lines-consequences}
use Rattle.alb_deriv.proofs.laws.lines.Goals as goal

pub returns : goal.returns
returns c p target fs ls s = lines-consequences p target fs [] ls tt s
