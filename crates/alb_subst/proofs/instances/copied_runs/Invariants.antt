use Rattle.std.proofs.Common.{◌≡◌, take}
use Rattle.alb_subst.proofs.instances.copied_runs.Given as goal

abbrev pub invariant-loop-n : goal.invariant-loop-n
invariant-loop-n l = l.out.items ≡ take l.n-index l.runs
