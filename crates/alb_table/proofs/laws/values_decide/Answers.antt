use Rattle.alb_table.proofs.TableValues.{values-decide}
use Rattle.alb_table.proofs.laws.values_decide.Goals as goal

pub returns : goal.returns
returns c = values-decide
