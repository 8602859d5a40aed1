use Rattle.alb_table.proofs.LawLemmas.{first-table}
use Rattle.alb_table.proofs.laws.first_table_is_right.Goals as goal

pub returns : goal.returns
returns c = first-table
