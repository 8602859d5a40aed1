use Rattle.alb_check.proofs.VerdictLemmas.{refuted-accepted}
use Rattle.alb_check.proofs.laws.refuted_is_accepted.Goals as goal

pub returns : goal.returns
returns c p target fs t g r v a = refuted-accepted p target fs t g r v a
