-- Which lines are needed for a line.
use Rattle.std.specs.Prelude.{◌≡◌, ℕ, ◌+◌, ◌-◌, ◌<◌, Bool, true, false, List, length, slice_index_or}
use Rattle.alb_deriv.specs.Derivation.{Line}
use Rattle.alb_tidy.specs.Tidy.{line_at, cites}

abbrev pub is_marked : List Bool → ℕ → Bool
is_marked marks k = slice_index_or marks k false

-- the line at place `k` is cited by a later marked line up to number `last`
pub record IsCitedBy (ls : List Line) (last : ℕ) (marks : List Bool) (k : ℕ) : Type 0 where
  pub place : ℕ
  pub later : k < place
  pub among : place < last
  pub marked : is_marked marks place ≡ true
  pub cited : cites (line_at ls place) (k + 1) ≡ true

-- the marks of line `last` and of each line that marked lines cite, and of no other
pub record AreNeeded (ls : List Line) (last : ℕ) (marks : List Bool) : Type 0 where
  pub count : length marks ≡ last
  pub ends : is_marked marks (last - 1) ≡ true
  pub closed : (k : ℕ) → k < last → is_marked marks k ≡ true → (j : ℕ) → cites (line_at ls k) (j + 1) ≡ true → is_marked marks j ≡ true
  pub reason : (k : ℕ) → k + 1 < last → is_marked marks k ≡ true → IsCitedBy ls last marks k
