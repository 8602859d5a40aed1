use Rattle.std.proofs.Common.{◌∙◌}
use Rattle.alb_rows.proofs.RowLemmas.{merged_all, sum_vector, sum_below}
use Rattle.alb_rows.proofs.row.Row.add_scaled.Goals as goal

pub returns-clause-entries : goal.returns-clause-entries
returns-clause-entries c =
    merged_all _ _ _ _ _ _ _ (c.deref.ensures.value ∙ c.self.view_is) (c.deref-2.ensures.value ∙ c.other.view_is) c.in_ok-self-inside.ensures

pub returns-clause-vector : goal.returns-clause-vector
returns-clause-vector c = sum_vector _ _ _ _ _ (returns-clause-entries c)

pub returns-clause-columns : goal.returns-clause-columns
returns-clause-columns c = sum_below _ _ _ _ _ c.in_ok-self-inside.ensures.row (returns-clause-entries c)
