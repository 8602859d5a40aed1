use Rattle.alb_rows.proofs.RowLemmas.{row_is_its_entries}
use Rattle.alb_rows.proofs.laws.row_is_its_entries.Goals as goal

pub returns : goal.returns
returns c = row_is_its_entries
