use Rattle.std.proofs.Common.{◌≤◌, take, length}
use Rattle.std.specs.List.{flat_map}
use Rattle.alb_io.proofs.Writers.{Writing}
use Rattle.alb_print.specs.Text.{later_text}
use Rattle.alb_answer.specs.Answers.{cells_poly}
use Rattle.alb_answer.proofs.products.write_later_cells.Given as goal

abbrev pub invariant-loop-left : goal.invariant-loop-left
invariant-loop-left g l = record {
  few : l.left ≤ length l.cells;
  writing : Writing g.K.Sink l.fn.sink l.sink (flat_map (later_text l.tables.p l.letters) (cells_poly l.tables.parts l.cells)) (flat_map (later_text l.tables.p l.letters) (cells_poly l.tables.parts (take l.left l.cells)));
}

abbrev pub decreases-loop-left : goal.decreases-loop-left
decreases-loop-left g l = l.left
