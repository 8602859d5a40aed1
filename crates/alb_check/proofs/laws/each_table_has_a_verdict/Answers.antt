use Rattle.alb_check.proofs.VerdictLemmas.{verdict-some}
use Rattle.alb_check.proofs.laws.each_table_has_a_verdict.Goals as goal

pub returns : goal.returns
returns c p target fs t g = verdict-some p target fs t g
