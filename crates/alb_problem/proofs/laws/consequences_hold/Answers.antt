use Rattle.alb_problem.proofs.LawLemmas.{consequences-hold}
use Rattle.alb_problem.proofs.laws.consequences_hold.Goals as goal

pub returns : goal.returns
returns c = consequences-hold
