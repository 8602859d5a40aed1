use Rattle.gf_field.proofs.Table.{IsPrime-from_table}
use Rattle.gf_field.proofs.Field.p.Goals as goal

pub returns-clause-above_one : goal.returns-clause-above_one
returns-clause-above_one c = rw (← c.self.view_is) (IsPrime-from_table c.self.inside.p c.self.invariant).above_one
