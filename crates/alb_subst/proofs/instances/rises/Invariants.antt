use Rattle.std.proofs.Common.{◌≡◌, drop}
use Rattle.alb_subst.specs.Tuples.{rises_within}
use Rattle.alb_subst.proofs.instances.rises.Given as goal

abbrev pub invariant-loop-k : goal.invariant-loop-k
invariant-loop-k l = rises_within l.runs l.k (drop l.k l.tuple) ≡ rises_within l.runs 0 l.tuple
