use Rattle.std.proofs.Common.{◌≡◌, drop}
use Rattle.alb_linear.specs.Runs.{goes_on}
use Rattle.alb_subst.proofs.instances.goes_on.Given as goal

abbrev pub invariant-loop-n : goal.invariant-loop-n
invariant-loop-n l = goes_on (drop l.n-index l.runs) l.place ≡ goes_on l.runs l.k
