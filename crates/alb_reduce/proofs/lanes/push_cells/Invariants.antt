use Rattle.std.proofs.Common.{◌≡◌, ◌++◌, drop}
use Rattle.alb_reduce.specs.Lanes.{lane_cells}
use Rattle.alb_reduce.proofs.lanes.push_cells.Given as goal

abbrev pub invariant-loop-i : goal.invariant-loop-i
invariant-loop-i l = l.cells.items ++ lane_cells (drop l.i l.live) (drop l.i l.lanes) ≡ l.fn.cells.items ++ lane_cells l.live l.lanes
