-- How the building of tables ends.
use Rattle.std.specs.Prelude.{◌≡◌, ℕ, ◌+◌, ◌<◌, ◌≤◌, nat_lt, if◌then◌else◌, List, [], ◌∷◌, Option, None, Some, sum}
use Rattle.alb_poly.specs.Instance.{Form}
use Rattle.alb_table.specs.Table.{PartView, Table, IsTable, count_coefficients, extended, next_types, wide, next_products, most_of_type, most_products, most_coefficients}
use Rattle.alb_table.specs.Right.{IsRight}
use Rattle.alb_table.specs.RightTable.{basis_monos, mono_entry}
use Rattle.alb_table.specs.declared.end.BuildEnd.{BuildEnd}
use Rattle.alb_table.specs.declared.end.BuildEnd.TheVariants as code

pub data End : Type 0 where
  Complete : End
  TooWide : List ℕ → ℕ → End
  TooManyProducts : ℕ → End
  TooManyCoefficients : ℕ → End
  NoMemory : End

-- what contracts see of an end
abbrev pub end_of : BuildEnd → End
end_of code.Complete = Complete
end_of (code.TooWide w n) = TooWide w n
end_of (code.TooManyProducts n) = TooManyProducts n
end_of (code.TooManyCoefficients n) = TooManyCoefficients n
end_of code.NoMemory = NoMemory

-- the first type that has too many products for a block
abbrev pub first_wide : Table → List (List ℕ) → Option (List ℕ)
first_wide t [] = None
first_wide t (w ∷ ws) = if nat_lt most_of_type (wide t w) then Some w else first_wide t ws

-- the right table of the next degree has `n` coefficients that are not 0
pub record NextHas (fs : List Form) (t : Table) (n : ℕ) : Type 0 where
  pub parts : List PartView
  pub table : IsTable (extended t parts)
  pub right : IsRight t.p fs t.target (t.degree + 1) (basis_monos (extended t parts).parts) (mono_entry (extended t parts).parts)
  pub count : count_coefficients (extended t parts).parts ≡ n

-- the table is not complete, and no type of the next degree has too many products
pub record GoesOn (t : Table) : Type 0 where
  pub room : t.degree < sum t.target
  pub narrow : first_wide t (next_types t) ≡ None

pub record IsTooWide (t : Table) (w : List ℕ) (n : ℕ) : Type 0 where
  pub room : t.degree < sum t.target
  pub first : first_wide t (next_types t) ≡ Some w
  pub number : wide t w ≡ n

pub record HasTooManyProducts (t : Table) (n : ℕ) : Type 0 where
  pub goes_on : GoesOn t
  pub number : next_products t ≡ n
  pub many : most_products < n

pub record HasTooManyCoefficients (fs : List Form) (t : Table) (n : ℕ) : Type 0 where
  pub goes_on : GoesOn t
  pub few : next_products t ≤ most_products
  pub next : NextHas fs t n
  pub many : most_coefficients < n

-- THE END at a right table: it has the degree of its target; or the limits that the table of the next degree passes, the first
-- one with its number
abbrev pub IsEnd : List Form → Table → End → Type 0
IsEnd fs t Complete = t.degree ≡ sum t.target
IsEnd fs t (TooWide w n) = IsTooWide t w n
IsEnd fs t (TooManyProducts n) = HasTooManyProducts t n
IsEnd fs t (TooManyCoefficients n) = HasTooManyCoefficients fs t n
IsEnd fs t NoMemory = ⊥
