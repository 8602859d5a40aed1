use Rattle.alb_question.proofs.Totality.{each-built}
use Rattle.alb_question.proofs.laws.each_is_built.Goals as goal

pub returns : goal.returns
returns c = each-built
