use Rattle.alb_subst.proofs.RowLaw.{least-rows-span-all}
use Rattle.alb_subst.proofs.laws.least_rows_span_all.Goals as goal

pub returns : goal.returns
returns c = least-rows-span-all
