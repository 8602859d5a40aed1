-- Why a table has no next degree. Contracts of private functions alone speak of it.
use Rattle.std.specs.Prelude.{List}
use Rattle.alb_poly.specs.Instance.{Form}
use Rattle.alb_table.specs.End.{End, Complete, TooWide, TooManyProducts, TooManyCoefficients, NoMemory, IsEnd}
use Rattle.alb_table.specs.Table.{Table}

-- the building ends so at the table, or there was no memory
abbrev pub IsStop : List Form → Table → End → Type 0
IsStop fs t Complete = IsEnd fs t Complete
IsStop fs t (TooWide w n) = IsEnd fs t (TooWide w n)
IsStop fs t (TooManyProducts n) = IsEnd fs t (TooManyProducts n)
IsStop fs t (TooManyCoefficients n) = IsEnd fs t (TooManyCoefficients n)
IsStop fs t NoMemory = Unit {0}
