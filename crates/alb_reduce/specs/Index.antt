-- Where numbers stand in a list without repetition.
use Rattle.std.specs.Prelude.{ℕ, ◌≡◌, ◌≢◌, ◌<◌, ◌+◌, List, length, slice_index}

-- for each column the place of its pivot and 1, or 0 where it is no pivot
pub record IsIndex (pivots places : List ℕ) : Type 0 where
  pub found : (k : ℕ) → k < length pivots → slice_index places (slice_index pivots k) ≡ k + 1
  pub from : (c k : ℕ) → slice_index places c ≡ k + 1 → (k < length pivots) × (slice_index pivots k ≡ c)

-- n stands at c, and the other numbers are as they were
pub record PutsAt (old new : List ℕ) (c n : ℕ) : Type 0 where
  pub here : slice_index new c ≡ n
  pub others : (j : ℕ) → j ≢ c → slice_index new j ≡ slice_index old j
