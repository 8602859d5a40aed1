use Rattle.alb_print.proofs.Monomials.{monomials-denote}
use Rattle.alb_print.proofs.Spellings.{monomials-spell}
use Rattle.alb_print.proofs.laws.monomials.Goals as goal

pub returns-clause-as_polynomial : goal.returns-clause-as_polynomial
returns-clause-as_polynomial c = monomials-denote

pub returns-clause-by_itself : goal.returns-clause-by_itself
returns-clause-by_itself c = monomials-spell
