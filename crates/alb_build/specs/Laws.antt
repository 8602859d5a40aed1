-- Laws that functions of `laws` state.
use Rattle.gf_field.specs.Modular.{IsInTable}
use Rattle.alb_poly.specs.Consequence.{AreMultilinear}
use Rattle.alb_table.specs.End.{End, IsEnd}
use Rattle.alb_table.specs.Right.{AreHigh}
use Rattle.alb_table.specs.RightTable.{RulesView, IsRightFor}
use Rattle.alb_table.specs.Table.{Table, IsTarget}

-- a table that is right for the rules, at which the building ends
pub record HasEnd (r : RulesView) : Type 0 where
  pub table : Table
  pub end : End
  pub right : IsRightFor r table
  pub ends : IsEnd r.forms table end

-- for all multilinear forms of degree 2 or more there is a right table at which the building ends
abbrev pub EachEnds : Type 0
EachEnds = (r : RulesView) → IsInTable r.p → IsTarget r.target → AreMultilinear r.forms → AreHigh r.forms → HasEnd r
