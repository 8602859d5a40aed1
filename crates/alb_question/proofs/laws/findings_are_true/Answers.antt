use Rattle.alb_question.proofs.FindingLemmas.{findings-true}
use Rattle.alb_question.proofs.laws.findings_are_true.Goals as goal

pub returns : goal.returns
returns c = findings-true
