use Rattle.alb_query.proofs.LawLemmas.{each-is-answered}
use Rattle.alb_query.proofs.laws.each_is_answered.Goals as goal

pub returns : goal.returns
returns c = each-is-answered
