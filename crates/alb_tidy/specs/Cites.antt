-- What lines cite, and lines with new numbers.
use Rattle.std.specs.Prelude.{ℕ, ◌-◌, ◌<◌, ◌≤◌, List, length, map, slice_index_or}
use Rattle.alb_mono.specs.Listing.{Each}
use Rattle.alb_deriv.specs.Derivation.{Line, Instance, Times, Sum}
use Rattle.alb_tidy.specs.Tidy.{line_at}

-- `k` is one of the numbers 1 to n
pub record IsNumber (n k : ℕ) : Type 0 where
  pub above : 0 < k
  pub among : k ≤ n

-- the line cites numbers from 1 to n alone
abbrev pub CitesWithin : ℕ → Line → Type 0
CitesWithin n (Instance i ms) = Unit {0}
CitesWithin n (Times k s) = IsNumber n k
CitesWithin n (Sum cs) = Each (λ c. IsNumber n c.1) cs

-- each line cites lines before it alone
abbrev pub AreOrdered : List Line → Type 0
AreOrdered ls = (k : ℕ) → k < length ls → CitesWithin k (line_at ls k)

-- the new number of line `k`
abbrev pub new_number : List ℕ → ℕ → ℕ
new_number places k = slice_index_or places (k - 1) 0

abbrev pub renumbered_items : List ℕ → List (ℕ × ℕ) → List (ℕ × ℕ)
renumbered_items places cs = map (λ c. (c.0, new_number places c.1)) cs

-- the line where the lines that it cites have new numbers
abbrev pub renumbered : List ℕ → Line → Line
renumbered places (Instance i ms) = Instance i ms
renumbered places (Times k s) = Times (new_number places k) s
renumbered places (Sum cs) = Sum (renumbered_items places cs)
