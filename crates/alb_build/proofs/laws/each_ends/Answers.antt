use Rattle.alb_build.proofs.EndLemmas.{each-ends}
use Rattle.alb_build.proofs.laws.each_ends.Goals as goal

pub returns : goal.returns
returns c = each-ends
