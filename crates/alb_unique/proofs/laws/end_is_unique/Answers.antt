use Rattle.alb_unique.proofs.UniqueEnd.{end-unique}
use Rattle.alb_unique.proofs.laws.end_is_unique.Goals as goal

pub returns : goal.returns
returns c fs t u e f r h k = end-unique fs t u e f r h k
