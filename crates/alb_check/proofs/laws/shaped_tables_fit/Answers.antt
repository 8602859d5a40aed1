use Rattle.alb_check.proofs.FitLemmas.{shaped-fit}
use Rattle.alb_check.proofs.laws.shaped_tables_fit.Goals as goal

pub returns : goal.returns
returns c p target t small raw shape = shaped-fit p target t small raw shape
