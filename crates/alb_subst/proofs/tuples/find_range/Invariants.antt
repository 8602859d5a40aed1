use Rattle.std.proofs.Common.{◌≡◌, ◌+◌, drop}
use Rattle.alb_subst.specs.Ranges.{range_at}
use Rattle.alb_subst.proofs.tuples.find_range.Given as goal

abbrev pub invariant-loop-k : goal.invariant-loop-k
invariant-loop-k l = l.k + range_at (drop l.k l.ranges) l.b ≡ range_at l.ranges l.b
