use Rattle.alb_linear.proofs.RunLemmas.{not-long}
use Rattle.alb_linear.proofs.runs.are_same.Goals as goal

pub returns-then-f-g : goal.returns-then-f-g
returns-then-f-g c = not-long c.args.f.now c.args.g.now c.if-f-g.true
