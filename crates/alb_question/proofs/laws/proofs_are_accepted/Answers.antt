use Rattle.alb_question.proofs.Accepted.{proofs-accepted}
use Rattle.alb_question.proofs.laws.proofs_are_accepted.Goals as goal

pub returns : goal.returns
returns c = proofs-accepted
