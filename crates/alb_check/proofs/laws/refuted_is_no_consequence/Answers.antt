use Rattle.alb_check.proofs.VerdictLemmas.{refuted-text}
use Rattle.alb_check.proofs.laws.refuted_is_no_consequence.Goals as goal

pub returns : goal.returns
returns c p target fs t g prime large is v = refuted-text p target fs t g prime large is v
