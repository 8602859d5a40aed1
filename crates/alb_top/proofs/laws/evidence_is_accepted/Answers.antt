use Rattle.alb_top.proofs.AcceptedLemmas.{evidence-is-accepted}
use Rattle.alb_top.proofs.laws.evidence_is_accepted.Goals as goal

pub returns : goal.returns
returns c = evidence-is-accepted
