use Rattle.alb_unique.proofs.UniqueEnd.{end-last}
use Rattle.alb_unique.proofs.laws.end_is_last.Goals as goal

pub returns : goal.returns
returns c fs t u e r h = end-last fs t u e r h
