use Rattle.alb_rows.specs.Row.{ColumnsBelow, IsRowOver}
use Rattle.test_algebra.proofs.elimination.row_with.Given as goal

abbrev pub invariant-loop-column : goal.invariant-loop-column
invariant-loop-column l = IsRowOver l.field l.row × ColumnsBelow l.columns l.row
