use Rattle.std.proofs.Common.{◌∙◌}
use Rattle.alb_rows.proofs.RowLemmas.{leads_first}
use Rattle.alb_rows.proofs.row.Row.lead.Goals as goal

pub returns-clause-some : goal.returns-clause-some
returns-clause-some c =
    rw (← c.self.view_is)
    (leads_first _ _ c.self.invariant (c.copied.ensures ∙ rw (← c.deref.ensures.value) c.first.ensures.value))
