-- What the calls of a board promise of the pass that they are made with.
use Rattle.std.specs.Prelude.{◌≡◌, ◌+◌, ◌≤◌, [], ◌∷◌, ◌++◌, Some}
use Rattle.std.specs.Arc.{arc_value}
use Rattle.std.specs.Option.{is_some}
use Rattle.alb_poly.specs.declared.rules.Rules.{Rules}
use Rattle.alb_table.specs.declared.end.BuildEnd.{BuildEnd}
use Rattle.alb_table.specs.RightTable.{rules_view, IsRightFor}
use Rattle.alb_board.specs.declared.kept.Published.{Published}
use Rattle.alb_board.specs.declared.kept.Shot.{Shot}
use Rattle.alb_board.specs.declared.kept.PassView.{PassView}
use Rattle.alb_board.specs.Published.{published, published_of, number_of, MayEnd}

-- a call was made: the rules, the builder and the number of passes are as before
pub record IsCalled (v w : PassView) : Type 0 where
  pub rules : w.rules ≡ v.rules
  pub builder : w.builder ≡ v.builder
  pub passes : w.passes ≡ v.passes
  pub calls : w.calls ≡ v.calls + 1

-- WHAT A SHOT IS: a right table with an end that is allowed, if any; not below the degree that was seen and the number that was
-- known; and the same again where an end was seen. The pass knew `v` before and knows `w` after: it has seen the shot, and its list
-- grew by this shot
pub record ShowsShot (rules : Rules) (v : PassView) (k : Shot) (w : PassView) : Type 0 where
  pub right : IsRightFor (rules_view rules) (arc_value k.tables)
  pub allowed : MayEnd (rules_view rules) (arc_value k.tables).degree k.end
  pub degree : v.seen ≤ (arc_value k.tables).degree
  pub number : v.known ≤ number_of (published_of k)
  pub same_end : (e : BuildEnd) → v.end ≡ Some e → published_of k ≡ published v.seen (Some e)
  pub seen : w.seen ≡ (arc_value k.tables).degree
  pub end : w.end ≡ k.end
  pub known : w.known ≡ number_of (published_of k)
  pub shots : w.shots ≡ v.shots ++ ((arc_value k.tables).degree, is_some k.end) ∷ []
  pub called : IsCalled v w

-- no shot was given: what was seen is as before, and so is the list
pub record ShowsNothing (v w : PassView) : Type 0 where
  pub seen : w.seen ≡ v.seen
  pub end : w.end ≡ v.end
  pub known : v.known ≤ w.known
  pub shots : w.shots ≡ v.shots
  pub called : IsCalled v w

-- the builder keeps something of this degree and with this end: it has seen it, and knows a number that is higher by one
pub record KeepsShot (v : PassView) (h : Published) (w : PassView) : Type 0 where
  pub seen : w.seen ≡ h.degree
  pub end : w.end ≡ h.end
  pub known : w.known ≡ v.known + 1
  pub shots : w.shots ≡ v.shots
  pub called : IsCalled v w
