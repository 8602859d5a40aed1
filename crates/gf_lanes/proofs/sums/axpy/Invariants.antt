use Rattle.std.proofs.Common.{◌-◌, length}
use Rattle.gf_lanes.specs.Lanes.{IsDoneTo, IsSumAt}
use Rattle.gf_lanes.proofs.sums.axpy.Given as goal

abbrev pub invariant-loop-at : goal.invariant-loop-at
invariant-loop-at l = IsDoneTo (IsSumAt l.field l.c l.fn.dst l.src) l.fn.dst l.at l.dst

abbrev pub decreases-loop-at : goal.decreases-loop-at
decreases-loop-at l = length l.initial.dst - l.at
