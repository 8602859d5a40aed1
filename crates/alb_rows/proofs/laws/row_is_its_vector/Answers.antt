use Rattle.alb_rows.proofs.RowLemmas.{row_is_its_vector}
use Rattle.alb_rows.proofs.laws.row_is_its_vector.Goals as goal

pub returns : goal.returns
returns c = row_is_its_vector
