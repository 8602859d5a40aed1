use Rattle.alb_problem.proofs.LawLemmas.{consequences-text}
use Rattle.alb_problem.proofs.TextbookLemmas.{MatchesTextbook-linearizations}
use Rattle.alb_problem.proofs.laws.consequences_are_the_textbooks.Goals as goal

pub returns : goal.returns
returns c = record { within = MatchesTextbook-linearizations; everywhere = consequences-text }
