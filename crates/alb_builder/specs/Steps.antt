-- A building so far. Contracts of private functions alone speak of it.
use Rattle.std.specs.Prelude.{◌≡◌, ◌+◌, true, None}
use Rattle.std.specs.Arc.{arc_value}
use Rattle.alb_table.specs.RightTable.{RulesView, IsRightFor}
use Rattle.alb_table.specs.Table.{Table}
use Rattle.alb_board.specs.declared.kept.PassView.{PassView}
use Rattle.alb_builder.specs.Building.{IsAfter}
use Rattle.alb_builder.specs.declared.next.Next.{Next}

-- both are one table of the next degree, which is right for the rules
pub record IsNext (r : RulesView) (t : Table) (n : Next) : Type 0 where
  pub same : arc_value n.published ≡ arc_value n.kept
  pub right : IsRightFor r (arc_value n.kept)
  pub degree_is : (arc_value n.kept).degree ≡ t.degree + 1

-- the table is the published one; each degree after the first took one call
pub record IsBuilding (r : RulesView) (t : Table) (v w : PassView) : Type 0 where
  pub right : IsRightFor r t
  pub seen : w.seen ≡ t.degree
  pub known : w.known ≡ t.degree
  pub unended : w.end ≡ None
  pub builder : w.builder ≡ true
  pub calls : w.calls + 1 ≡ v.calls + t.degree
  pub after : IsAfter v w
