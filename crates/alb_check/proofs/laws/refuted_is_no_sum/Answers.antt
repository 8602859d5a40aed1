use Rattle.alb_check.proofs.VerdictLemmas.{refuted-consequence}
use Rattle.alb_check.proofs.laws.refuted_is_no_sum.Goals as goal

pub returns : goal.returns
returns c p target fs t g multilinear is v = refuted-consequence p target fs t g multilinear is v
