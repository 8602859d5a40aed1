use Rattle.alb_table.proofs.LawLemmas.{factors-are-normal}
use Rattle.alb_table.proofs.laws.factors_are_normal.Goals as goal

pub returns : goal.returns
returns c = factors-are-normal
