use Rattle.std.proofs.Common.{take}
use Rattle.alb_reduce.specs.Index.{IsIndex}
use Rattle.alb_reduce.proofs.places.slots_of.Given as goal

abbrev pub invariant-loop-i : goal.invariant-loop-i
invariant-loop-i l = IsIndex (take l.i l.live) l.slots.items
