-- What a building on a board comes to.
use Rattle.std.specs.Prelude.{◌≡◌, ℕ, ◌+◌, Some}
use Rattle.alb_table.specs.End.{End, end_of}
use Rattle.alb_table.specs.RightTable.{RulesView, IsRightFor}
use Rattle.alb_table.specs.Table.{Table}
use Rattle.alb_table.specs.declared.end.BuildEnd.{BuildEnd}
use Rattle.alb_board.specs.Published.{IsAllowedEnd}
use Rattle.alb_board.specs.declared.kept.PassView.{PassView}

-- there is a right table of this degree, and the end is that of the building there; or below the total degree, that there was no
-- memory
pub record HasEndedAt (r : RulesView) (degree : ℕ) (e : End) : Type 0 where
  pub table : Table
  pub right : IsRightFor r table
  pub degree_is : table.degree ≡ degree
  pub allowed : IsAllowedEnd r degree e

-- THE BUILDING ENDED SO: the builder's pass has seen the end, at a degree where it is allowed, and knows the number of both
pub record HasBuilt (r : RulesView) (e : BuildEnd) (v : PassView) : Type 0 where
  pub seen_end : v.end ≡ Some e
  pub ended : HasEndedAt r v.seen (end_of e)
  pub known : v.known ≡ v.seen + 1

-- the pass is whose it was, of as many, and was given no shot
pub record IsAfter (v w : PassView) : Type 0 where
  pub rules : w.rules ≡ v.rules
  pub builder : w.builder ≡ v.builder
  pub passes : w.passes ≡ v.passes
  pub shots : w.shots ≡ v.shots
