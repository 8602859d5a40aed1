use Rattle.alb_check.proofs.FirstRow.{row-first}
use Rattle.alb_check.proofs.laws.first_column_has_first_type.Goals as goal

pub returns : goal.returns
returns c fs t g cell cells tab right within is value = row-first fs t tab right g cell cells within is value
