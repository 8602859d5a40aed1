use Rattle.std.proofs.Common.{◌≡◌, take, drop, ◌++◌}
use Rattle.alb_rows.specs.Merge.{times_cells}
use Rattle.alb_rows.proofs.merge.scale_cells.Given as goal

abbrev pub invariant-loop-x : goal.invariant-loop-x
invariant-loop-x l = l.cells ≡ times_cells l.field l.c (take l.x-index l.fn.cells) ++ drop l.x-index l.fn.cells
