use Rattle.std.proofs.Common.{◌≡◌, length}
use Rattle.alb_subst.specs.Ranges.{IsGoing, to_come, least_to_come}
use Rattle.alb_subst.proofs.instances.skipped.Given as goal

abbrev pub invariant-loop-more : goal.invariant-loop-more
invariant-loop-more l = record {
  going : IsGoing l.ranges l.t l.current.items l.more;
  comes : least_to_come l.ranges l.t l.runs l.current.items l.more ≡ least_to_come l.ranges l.t l.runs l.initial.current.items l.initial.more;
}

abbrev pub decreases-loop-more : goal.decreases-loop-more
decreases-loop-more l = length (to_come l.ranges l.t l.current.items l.more)
