use Rattle.std.proofs.Common.{◌-◌, length}
use Rattle.gf_lanes.specs.Lanes.{IsDoneTo, IsResidueAt}
use Rattle.gf_lanes.proofs.lazy.reduce_all.Given as goal

abbrev pub invariant-loop-at : goal.invariant-loop-at
invariant-loop-at l = IsDoneTo (IsResidueAt l.field l.fn.dst) l.fn.dst l.at l.dst

abbrev pub decreases-loop-at : goal.decreases-loop-at
decreases-loop-at l = length l.initial.dst - l.at
