-- How a building ends at its table.
use Rattle.std.proofs.Common.{◌≡◌, ◌<◌, sum, refl, subst}
use Rattle.alb_table.specs.End.{End, Complete, TooWide, TooManyProducts, TooManyCoefficients, NoMemory, IsEnd}
use Rattle.alb_table.specs.RightTable.{RulesView, IsRightFor}
use Rattle.alb_table.specs.Table.{Table}
use Rattle.alb_board.specs.Published.{EndsAt, IsAllowedEnd}
use Rattle.alb_pool.specs.Stops.{IsStop}
use Rattle.alb_builder.specs.Building.{HasEndedAt}

ends-at : (r : RulesView) (t : Table) (e : End) → IsRightFor r t → IsEnd r.forms t e → EndsAt r t.degree e
ends-at r t e h end = record { table = t; right = h; degree_is = refl; end = end }

allowed : (r : RulesView) (t : Table) (e : End) → IsRightFor r t → t.degree < sum t.target → IsStop r.forms t e → IsAllowedEnd r t.degree e
allowed r t Complete h room s = ends-at r t Complete h s
allowed r t (TooWide w n) h room s = ends-at r t (TooWide w n) h s
allowed r t (TooManyProducts n) h room s = ends-at r t (TooManyProducts n) h s
allowed r t (TooManyCoefficients n) h room s = ends-at r t (TooManyCoefficients n) h s
allowed r t NoMemory h room s = subst (λ w. t.degree < sum w) h.target room

-- why a table has no next degree is an end there
pub stopped-at : (r : RulesView) (t : Table) (e : End) → IsRightFor r t → t.degree < sum t.target → IsStop r.forms t e → HasEndedAt r t.degree e
stopped-at r t e h room s = record { table = t; right = h; degree_is = refl; allowed = allowed r t e h room s }

-- the table of the whole target
pub complete-at : (r : RulesView) (t : Table) → IsRightFor r t → t.degree ≡ sum t.target → HasEndedAt r t.degree Complete
complete-at r t h whole = record { table = t; right = h; degree_is = refl; allowed = ends-at r t Complete h whole }
