use Rattle.alb_question.proofs.Alike.{built-unique}
use Rattle.alb_question.proofs.laws.built_is_unique.Goals as goal

pub returns : goal.returns
returns c = built-unique
