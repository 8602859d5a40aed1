use Rattle.std.proofs.Common.{◌≡◌, ◌≤◌, ◌-◌, length, take, count_by}
use Rattle.gf_lanes.specs.Lanes.{is_nonzero}
use Rattle.gf_lanes.proofs.zeros.count_nonzero.Given as goal

abbrev pub invariant-loop-at : goal.invariant-loop-at
invariant-loop-at l = record { within : l.at ≤ length l.xs; value : l.count ≡ count_by is_nonzero (take l.at l.xs) }

abbrev pub decreases-loop-at : goal.decreases-loop-at
decreases-loop-at l = length l.xs - l.at
