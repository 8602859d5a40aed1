-- Rows kept as residues in lanes, one lane for each column of a list.
use Rattle.std.specs.Prelude.{ℕ, ◌≡◌, ◌≢◌, ◌<◌, ◌≤◌, ◌+◌, ◌*◌, ◌%◌, ◌==◌, if◌then◌else◌, List, [], ◌∷◌, length, map, slice_index, slice_index_or}
use Rattle.alb_rows.specs.Row.{Cells}
use Rattle.alb_rows.specs.Span.{Ascending}
use Rattle.alb_reduce.specs.Index.{IsIndex, PutsAt}

-- the cells of the lanes that are not 0, at the columns of `live`
abbrev pub lane_cells : List ℕ → List ℕ → Cells
lane_cells [] lanes = []
lane_cells (c ∷ live) [] = []
lane_cells (c ∷ live) (x ∷ lanes) = if x == 0 then lane_cells live lanes else (c, x) ∷ lane_cells live lanes

-- the rows of pivots: each is 1 at its pivot, and its other entries stand in lanes
abbrev pub lane_rows : List ℕ → List ℕ → List (List ℕ) → List Cells
lane_rows live [] rows = []
lane_rows live (c ∷ pivots) [] = []
lane_rows live (c ∷ pivots) (lanes ∷ rows) = ((c, 1) ∷ lane_cells live lanes) ∷ lane_rows live pivots rows

-- every lane has a residue
abbrev pub AreResidues : ℕ → List ℕ → Type 0
AreResidues p lanes = (i : ℕ) → i < length lanes → slice_index lanes i < p

-- every lane is 0
abbrev pub AreZero : List ℕ → Type 0
AreZero lanes = (i : ℕ) → i < length lanes → slice_index lanes i ≡ 0

-- the first lane that is not 0
pub record IsFirstLane (lanes : List ℕ) (lane : ℕ) : Type 0 where
  pub within : lane < length lanes
  pub nonzero : slice_index lanes lane ≢ 0
  pub before : (i : ℕ) → i < lane → slice_index lanes i ≡ 0

-- c times the lanes of `by` have been added
pub record AreAdded (p c : ℕ) (by old new : List ℕ) : Type 0 where
  pub long : length new ≡ length old
  pub value : (i : ℕ) → i < length old → slice_index new i ≡ (slice_index old i + c * slice_index by i) % p

-- each lane was multiplied by c
pub record AreTimes (p c : ℕ) (old new : List ℕ) : Type 0 where
  pub long : length new ≡ length old
  pub value : (i : ℕ) → i < length old → slice_index new i ≡ (c * slice_index old i) % p

-- a multiple of `by` has been added, which is 1 at the lane, so that the lane is 0 now. It is none where the lane was 0
pub record IsLaneCleared (p lane : ℕ) (by old new : List ℕ) : Type 0 where
  pub factor : ℕ
  pub cancels : (slice_index old lane + factor) % p ≡ 0
  pub none : slice_index old lane ≡ 0 → factor ≡ 0
  pub added : AreAdded p factor by old new

-- the first k rows have been cleared at the lane, and the others are as they were
pub record AreLanesCleared (p lane : ℕ) (by : List ℕ) (old new : List (List ℕ)) (k : ℕ) : Type 0 where
  pub long : length new ≡ length old
  pub cleared : (l : ℕ) → l < k → IsLaneCleared p lane by (slice_index_or old l []) (slice_index_or new l [])
  pub rest : (l : ℕ) → k ≤ l → slice_index_or new l [] ≡ slice_index_or old l []

-- lanes of a row with this pivot, which is 0 before it
pub record IsLaneRow (p : ℕ) (live : List ℕ) (pivot : ℕ) (lanes : List ℕ) : Type 0 where
  pub long : length lanes ≡ length live
  pub residues : AreResidues p lanes
  pub before : (i : ℕ) → i < length live → slice_index live i ≤ pivot → slice_index lanes i ≡ 0

-- the columns of the lanes ascend, `slots` finds them, and each row has its lanes
pub record IsLaid (p : ℕ) (live slots pivots : List ℕ) (rows : List (List ℕ)) : Type 0 where
  pub ascending : Ascending live
  pub index : IsIndex live slots
  pub long : length rows ≡ length pivots
  pub each : (k : ℕ) → k < length pivots → IsLaneRow p live (slice_index pivots k) (slice_index_or rows k [])

-- the column has a lane, unless it is a pivot
abbrev pub HasLane : List ℕ → List ℕ → ℕ → Type 0
HasLane live pivots c = ((k : ℕ) → k < length pivots → slice_index pivots k ≢ c) → (i : ℕ) × (i < length live) × (slice_index live i ≡ c)

-- so has every column below n
abbrev pub Covers : ℕ → List ℕ → List ℕ → Type 0
Covers n live pivots = (c : ℕ) → c < n → HasLane live pivots c

-- x was added at the lane of the column
pub record PutsLane (p : ℕ) (live : List ℕ) (column x : ℕ) (old new : List ℕ) : Type 0 where
  pub long : length new ≡ length old
  pub lane : ℕ
  pub within : lane < length live
  pub at : slice_index live lane ≡ column
  pub puts : PutsAt old new lane ((slice_index old lane + x) % p)

-- ---- lanes of pivots are dropped

-- what stands at these places
abbrev pub gather : List ℕ → List ℕ → List ℕ
gather places xs = map (λ i. slice_index xs i) places

-- the column is no pivot
abbrev pub IsFree : List ℕ → ℕ → Type 0
IsFree pivots c = (k : ℕ) → k < length pivots → slice_index pivots k ≢ c

-- lanes below n in ascending order, among them each whose column is no pivot
pub record AreFreeLanes (live pivots : List ℕ) (n : ℕ) (lanes : List ℕ) : Type 0 where
  pub ascending : Ascending lanes
  pub below : (k : ℕ) → k < length lanes → slice_index lanes k < n
  pub all : (i : ℕ) → i < n → IsFree pivots (slice_index live i) → (k : ℕ) × (k < length lanes) × (slice_index lanes k ≡ i)

-- of the first n rows these lanes are left, and the others are as they were
pub record AreGathered (places : List ℕ) (old new : List (List ℕ)) (n : ℕ) : Type 0 where
  pub long : length new ≡ length old
  pub gathered : (l : ℕ) → l < n → slice_index_or new l [] ≡ gather places (slice_index_or old l [])
  pub rest : (l : ℕ) → n ≤ l → slice_index_or new l [] ≡ slice_index_or old l []
