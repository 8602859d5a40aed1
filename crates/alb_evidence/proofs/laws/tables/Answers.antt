use Rattle.alb_evidence.proofs.WrittenTable.{tables-read_back}
use Rattle.alb_evidence.proofs.laws.tables.Goals as goal

pub returns : goal.returns
returns c = tables-read_back
