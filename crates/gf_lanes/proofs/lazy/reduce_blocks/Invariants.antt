use Rattle.std.proofs.Common.{◌-◌, length}
use Rattle.gf_lanes.specs.Lanes.{IsDoneTo, IsResidueAt}
use Rattle.gf_lanes.proofs.lazy.reduce_blocks.Given as goal

abbrev pub invariant-loop-dst : goal.invariant-loop-dst
invariant-loop-dst l = IsDoneTo (IsResidueAt l.p l.fn.dst) l.fn.dst l.at l.dst

abbrev pub decreases-loop-dst : goal.decreases-loop-dst
decreases-loop-dst l = length l.initial.dst - l.at
