use Rattle.alb_table.proofs.LawLemmas.{right-tables-grow}
use Rattle.alb_table.proofs.laws.right_tables_grow.Goals as goal

pub returns : goal.returns
returns c = right-tables-grow
