-- What kernels over slices give.
use Rattle.std.specs.Prelude.{◌≡◌, ℕ, ◌+◌, ◌*◌, ◌%◌, ◌<◌, ◌≤◌, ◌==◌, Bool, not, List, length, slice_index}
use Rattle.gf_field.specs.Modular.{IsSameMod}

-- each of the numbers is below `bound`
abbrev pub AreBelow : ℕ → List ℕ → Type 0
AreBelow bound xs = (i : ℕ) → i < length xs → slice_index xs i < bound

-- the number is not 0
abbrev pub is_nonzero : ℕ → Bool
is_nonzero x = not (x == 0)

-- the first `n` of the numbers are 0
abbrev pub AreZerosTo : ℕ → List ℕ → Type 0
AreZerosTo n xs = (i : ℕ) → i < n → slice_index xs i ≡ 0

-- ---- what private contracts alone cite

-- below `at` each place has a number that is right there, and from `at` on all is as it was
pub record IsDoneTo (is_right : ℕ → ℕ → Type 0) (old : List ℕ) (at : ℕ) (new : List ℕ) : Type 0 where
  pub within : at ≤ length old
  pub done : (i : ℕ) → i < at → is_right i (slice_index new i)
  pub rest : (i : ℕ) → at ≤ i → slice_index new i ≡ slice_index old i

-- `x` is `d + c s` modulo `p` at this place
abbrev pub IsSumAt : ℕ → ℕ → List ℕ → List ℕ → ℕ → ℕ → Type 0
IsSumAt p c d s i x = x ≡ (slice_index d i + c * slice_index s i) % p

-- `x` is `c d` modulo `p` at this place
abbrev pub IsMultipleAt : ℕ → ℕ → List ℕ → ℕ → ℕ → Type 0
IsMultipleAt p c d i x = x ≡ (c * slice_index d i) % p

-- `x` is the same as `d + c s` modulo `p` at this place, and below `d + 2 p`
pub record IsLazySumAt (p c : ℕ) (d s : List ℕ) (i x : ℕ) : Type 0 where
  pub same : IsSameMod p x (slice_index d i + c * slice_index s i)
  pub below : x < slice_index d i + 2 * p

-- `x` is `d` modulo `p` at this place
abbrev pub IsResidueAt : ℕ → List ℕ → ℕ → ℕ → Type 0
IsResidueAt p d i x = x ≡ slice_index d i % p
