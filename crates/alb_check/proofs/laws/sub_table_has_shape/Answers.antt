use Rattle.alb_check.proofs.SubShape.{shape-from, sub-shaped}
use Rattle.alb_check.specs.SubTable.{sub_table}
use Rattle.alb_check.proofs.laws.sub_table_has_shape.Goals as goal

pub returns : goal.returns
returns c t top tab ty some = shape-from t.target t.p (sub_table t top) (sub-shaped t top tab ty some)
