use Rattle.std.proofs.Common.{◌≤◌, ◌-◌, length}
use Rattle.gf_lanes.specs.Lanes.{AreZerosTo}
use Rattle.gf_lanes.proofs.zeros.first_nonzero.Given as goal

abbrev pub invariant-loop-at : goal.invariant-loop-at
invariant-loop-at l = record { within : l.at ≤ length l.xs; zeros : AreZerosTo l.at l.xs }

abbrev pub decreases-loop-at : goal.decreases-loop-at
decreases-loop-at l = length l.xs - l.at
