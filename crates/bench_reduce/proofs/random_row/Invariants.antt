use Rattle.alb_rows.specs.Row.{ColumnsBelow, IsRowOver}
use Rattle.bench_reduce.proofs.random_row.Given as goal

abbrev pub invariant-loop-cell : goal.invariant-loop-cell
invariant-loop-cell l = IsRowOver l.field l.row × ColumnsBelow l.columns l.row
