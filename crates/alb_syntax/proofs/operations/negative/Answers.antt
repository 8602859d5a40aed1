use Rattle.std.proofs.Common.{arith}
use Rattle.alb_syntax.proofs.Kept.{table-above_one}
use Rattle.alb_syntax.proofs.operations.negative.Goals as goal

pub overflow_sub-p : goal.overflow_sub-p
overflow_sub-p c = omega (arith, table-above_one c.args.field.now c.p.ensures.listed)
