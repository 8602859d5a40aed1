use Rattle.alb_question.proofs.Alike.{answers-alike}
use Rattle.alb_question.proofs.laws.answers_print_alike.Goals as goal

pub returns : goal.returns
returns c = answers-alike
