use Rattle.alb_judge.proofs.VerdictLemmas.{one-verdict}
use Rattle.alb_judge.proofs.laws.each_has_one_verdict.Goals as goal

pub returns : goal.returns
returns c = one-verdict
