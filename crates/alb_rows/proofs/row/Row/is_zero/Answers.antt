use Rattle.std.proofs.Common.{arith}
use Rattle.std.proofs.lemmas.Grind.{common_steps}
use Rattle.alb_rows.proofs.RowLemmas.{zero_is_empty, empty_is_zero}
use Rattle.alb_rows.proofs.row.Row.is_zero.Goals as goal

pub returns-clause-value : goal.returns-clause-value
returns-clause-value c = grind (arith, common_steps)

pub returns-clause-vector : goal.returns-clause-vector
returns-clause-vector c p h = (
  λ t. empty_is_zero p c.args.self.now ((returns-clause-value c).0 t),
  λ e. (returns-clause-value c).1 (zero_is_empty p c.args.self.now (rw c.self.view_is at c.self.invariant) h e),
)
