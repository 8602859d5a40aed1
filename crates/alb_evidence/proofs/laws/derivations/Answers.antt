use Rattle.alb_evidence.proofs.WrittenBlock.{derivations-read_back}
use Rattle.alb_evidence.proofs.laws.derivations.Goals as goal

pub returns : goal.returns
returns c = derivations-read_back
