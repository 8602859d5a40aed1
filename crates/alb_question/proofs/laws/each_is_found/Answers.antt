use Rattle.alb_question.proofs.Totality.{each-found}
use Rattle.alb_question.proofs.laws.each_is_found.Goals as goal

pub returns : goal.returns
returns c = each-found
