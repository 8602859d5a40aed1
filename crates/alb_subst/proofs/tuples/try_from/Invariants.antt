use Rattle.std.proofs.Common.{◌≡◌, ◌+◌, ◌-◌, drop, take, length}
use Rattle.std.specs.List.{flat_map}
use Rattle.alb_subst.specs.Ranges.{piece}
use Rattle.alb_subst.proofs.tuples.try_from.Given as goal

abbrev pub invariant-loop-m : goal.invariant-loop-m
invariant-loop-m l =
    (length l.current.items ≡ length l.initial.current.items)
    × (take l.i l.current.items ≡ take l.i l.initial.current.items)
    × (flat_map (piece l.ranges (length l.initial.current.items - (l.i + 1)) l.r) (drop l.m l.ranges) ≡ flat_map (piece l.ranges (length l.initial.current.items - (l.i + 1)) l.r) (drop l.start l.ranges))
