use Rattle.alb_table.proofs.LawLemmas.{right-unique}
use Rattle.alb_table.proofs.laws.right_table_is_unique.Goals as goal

pub returns : goal.returns
returns c = right-unique
