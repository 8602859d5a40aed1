-- Tidy lists of lines: no line is idle, and none stands twice.
use Rattle.std.specs.Prelude.{◌≡◌, ℕ, ◌+◌, ◌<◌, ◌==◌, Bool, true, false, List, [], length, slice_index_or}
use Rattle.std.specs.List.{list_any}
use Rattle.alb_deriv.specs.Derivation.{Line, Instance, Times, Sum}

-- the line at a place, counted from 0
abbrev pub line_at : List Line → ℕ → Line
line_at ls k = slice_index_or ls k (Sum [])

-- whether the line cites line `k`
abbrev pub cites : Line → ℕ → Bool
cites (Instance i ms) k = false
cites (Times j s) k = j == k
cites (Sum cs) k = list_any (λ c. c.1 == k) cs

-- a later line cites the line at place `k`
pub record IsCited (ls : List Line) (k : ℕ) : Type 0 where
  pub place : ℕ
  pub later : k < place
  pub among : place < length ls
  pub cited : cites (line_at ls place) (k + 1) ≡ true

-- no two lines are the same
abbrev pub AreDifferent : List Line → Type 0
AreDifferent ls = (j k : ℕ) → j < k → k < length ls → line_at ls j ≡ line_at ls k → ⊥

-- TIDY LINES: no two are the same, and each but the last is cited by a later one
pub record IsTidy (ls : List Line) : Type 0 where
  pub different : AreDifferent ls
  pub cited : (k : ℕ) → k + 1 < length ls → IsCited ls k
