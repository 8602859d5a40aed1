-- What a board keeps: right tables, with the end of their building.
use Rattle.std.specs.Prelude.{◌≡◌, ℕ, ◌+◌, ◌<◌, Option, Some, None, sum}
use Rattle.std.specs.Arc.{arc_value}
use Rattle.alb_poly.specs.declared.rules.Rules.{Rules}
use Rattle.alb_table.specs.declared.end.BuildEnd.{BuildEnd}
use Rattle.alb_table.specs.End.{End, Complete, TooWide, TooManyProducts, TooManyCoefficients, NoMemory, IsEnd, end_of}
use Rattle.alb_table.specs.RightTable.{RulesView, rules_view, IsRightFor}
use Rattle.alb_table.specs.Table.{Table}
use Rattle.alb_board.specs.declared.kept.Published.{Published}
use Rattle.alb_board.specs.declared.kept.Shot.{Shot}

abbrev pub published : ℕ → Option BuildEnd → Published
published degree end = record { degree = degree; end = end }

-- the degree and the end of a shot
abbrev pub published_of : Shot → Published
published_of k = published (arc_value k.tables).degree k.end

abbrev pub end_count : Option BuildEnd → ℕ
end_count None = 0
end_count (Some e) = 1

-- THE NUMBER of what is kept: its degree, and one more where it has an end
abbrev pub number_of : Published → ℕ
number_of k = k.degree + end_count k.end

-- the building of tables for the rules ends at this degree, and so
pub record EndsAt (r : RulesView) (degree : ℕ) (e : End) : Type 0 where
  pub table : Table
  pub right : IsRightFor r table
  pub degree_is : table.degree ≡ degree
  pub end : IsEnd r.forms table e

-- AN END THAT IS ALLOWED at a degree: that of the building; or, below the total degree, that there was no memory
abbrev pub IsAllowedEnd : RulesView → ℕ → End → Type 0
IsAllowedEnd r degree Complete = EndsAt r degree Complete
IsAllowedEnd r degree (TooWide w n) = EndsAt r degree (TooWide w n)
IsAllowedEnd r degree (TooManyProducts n) = EndsAt r degree (TooManyProducts n)
IsAllowedEnd r degree (TooManyCoefficients n) = EndsAt r degree (TooManyCoefficients n)
IsAllowedEnd r degree NoMemory = degree < sum r.target

-- no end, or one that is allowed
abbrev pub MayEnd : RulesView → ℕ → Option BuildEnd → Type 0
MayEnd r degree None = Unit {0}
MayEnd r degree (Some e) = IsAllowedEnd r degree (end_of e)

-- WHAT A BOARD MAY KEEP: a table that is right for its rules, with no end or with one that is allowed at its degree
pub record IsKeepable (rules : Rules) (k : Shot) : Type 0 where
  pub right : IsRightFor (rules_view rules) (arc_value k.tables)
  pub end : MayEnd (rules_view rules) (arc_value k.tables).degree k.end

-- the degree and the end of something that a board may keep
pub record IsPublishable (rules : Rules) (k : Published) : Type 0 where
  pub table : Table
  pub right : IsRightFor (rules_view rules) table
  pub degree_is : table.degree ≡ k.degree
  pub end : MayEnd (rules_view rules) k.degree k.end
