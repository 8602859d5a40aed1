use Rattle.alb_judge.proofs.VerdictLemmas.{verdicts-justified}
use Rattle.alb_judge.proofs.laws.verdicts_are_justified.Goals as goal

pub returns : goal.returns
returns c = verdicts-justified
