use Rattle.std.proofs.Common.{◌-◌, length}
use Rattle.gf_lanes.specs.Lanes.{IsDoneTo, IsMultipleAt}
use Rattle.gf_lanes.proofs.sums.scale_blocks.Given as goal

abbrev pub invariant-loop-dst : goal.invariant-loop-dst
invariant-loop-dst l = IsDoneTo (IsMultipleAt l.p l.c l.fn.dst) l.fn.dst l.at l.dst

abbrev pub decreases-loop-dst : goal.decreases-loop-dst
decreases-loop-dst l = length l.initial.dst - l.at
