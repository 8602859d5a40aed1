use Rattle.alb_table.proofs.LawLemmas.{monomial-values-decide}
use Rattle.alb_table.proofs.laws.monomial_values_decide.Goals as goal

pub returns : goal.returns
returns c = monomial-values-decide
