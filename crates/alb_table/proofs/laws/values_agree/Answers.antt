use Rattle.alb_table.proofs.TableValues.{values-agree}
use Rattle.alb_table.proofs.laws.values_agree.Goals as goal

pub returns : goal.returns
returns c = values-agree
