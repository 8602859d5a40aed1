use Rattle.std.proofs.Common.{ℕ, List}
use Rattle.alb_reduce.specs.Index.{IsIndex}
use Rattle.alb_reduce.specs.Lanes.{AreFreeLanes}
use Rattle.alb_reduce.proofs.drops.free_lanes.Given as goal

abbrev pub invariant-loop-i : goal.invariant-loop-i
invariant-loop-i l = (pivots : List ℕ) → IsIndex pivots l.places → AreFreeLanes l.live pivots l.i l.lanes.items
