use Rattle.alb_evidence.proofs.TextLengths.{proofs-accepted}
use Rattle.alb_evidence.proofs.laws.proofs_are_accepted.Goals as goal

pub returns : goal.returns
returns c = proofs-accepted
