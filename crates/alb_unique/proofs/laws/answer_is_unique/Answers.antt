use Rattle.alb_unique.proofs.UniqueAnswer.{answer-unique}
use Rattle.alb_unique.proofs.laws.answer_is_unique.Goals as goal

pub returns : goal.returns
returns c p fs target d g a b pos multi h k = answer-unique p fs target d g a b pos multi h k
