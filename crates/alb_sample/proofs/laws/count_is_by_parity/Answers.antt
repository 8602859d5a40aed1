use Rattle.alb_sample.proofs.TallyLemmas.{count-is-by-parity}
use Rattle.alb_sample.proofs.laws.count_is_by_parity.Goals as goal

pub returns : goal.returns
returns c = count-is-by-parity
