use Rattle.alb_rows.specs.Row.{AreCellResidues}
use Rattle.test_algebra.proofs.rows.sum.Given as goal

abbrev pub invariant-loop-column : goal.invariant-loop-column
invariant-loop-column l = AreCellResidues l.field l.row
