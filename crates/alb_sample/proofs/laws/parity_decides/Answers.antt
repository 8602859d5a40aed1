use Rattle.alb_sample.proofs.ParityLemmas.{parity-decides}
use Rattle.alb_sample.proofs.laws.parity_decides.Goals as goal

pub returns : goal.returns
returns c = parity-decides
