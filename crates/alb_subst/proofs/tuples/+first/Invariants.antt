use Rattle.std.proofs.Common.{◌≡◌, ◌+◌, ◌-◌, ◌*◌, [], length, take}
use Rattle.std.specs.List.{flat_map}
use Rattle.alb_subst.specs.Ranges.{piece}
use Rattle.alb_subst.proofs.tuples.+first.Given as goal

abbrev pub decreases-first_at : goal.decreases-first_at
decreases-first_at l = 2 * (length l.current.now.items - l.i) + 1

abbrev pub decreases-try_range : goal.decreases-try_range
decreases-try_range l = 2 * (length l.current.now.items - l.i)

abbrev pub invariant-first_at-loop-k : goal.invariant-first_at-loop-k
invariant-first_at-loop-k l =
    (length l.current.items ≡ length l.initial.current.items)
    × (take l.i l.current.items ≡ take l.i l.initial.current.items)
    × (flat_map (piece l.ranges (length l.initial.current.items - (l.i + 1)) l.r) (take l.k l.ranges) ≡ [])
