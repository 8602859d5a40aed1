-- Derivations by one table.
use Rattle.alb_table.specs.RightTable.{RulesView}
use Rattle.alb_table.specs.Table.{Table}
use Rattle.alb_trace.specs.Trace.{IsTrace}
use Rattle.alb_trace.specs.declared.answers.Deriver.{Deriver}

-- what was derived so far was derived by this table, for these rules
abbrev pub IsDeriverFor : RulesView → Table → Deriver → Type 0
IsDeriverFor r t d = IsTrace r.forms t d.trace
