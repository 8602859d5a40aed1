use Rattle.alb_table.proofs.RightForLemmas.{first-right-for}
use Rattle.alb_table.proofs.laws.generators_are_right.Goals as goal

pub returns : goal.returns
returns c = first-right-for
