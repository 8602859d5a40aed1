use Rattle.alb_check.proofs.VerdictLemmas.{verdict-one}
use Rattle.alb_check.proofs.laws.verdict_is_unique.Goals as goal

pub returns : goal.returns
returns c p target fs t g v w a b = verdict-one p target fs t g v w a b
