-- Spans of vectors, their pivots and their reduced form.
use Rattle.std.specs.Prelude.{ℕ, ◌≡◌, ◌≢◌, ◌<◌, ◌+◌, ◌%◌, List, [], length, slice_index_or, slice_index}
use Rattle.gf_sums.specs.Sums.{Comb, weigh}
use Rattle.alb_rows.specs.Row.{Cells, entry}

-- A vector is a number at each column, of which the residue counts. A family names vectors: `f k` is the vector of the name k.

-- the combination of a family with these coefficients
abbrev pub combination : {K : Type 0} → (K → ℕ → ℕ) → Comb K → ℕ → ℕ
combination f items column = weigh (λ k. f k column) items

-- two vectors are equal modulo p
abbrev pub Same : ℕ → (ℕ → ℕ) → (ℕ → ℕ) → Type 0
Same p v w = (column : ℕ) → v column % p ≡ w column % p

-- v is a combination of the family, so an element of its span
pub record InSpan {K : Type 0} (p : ℕ) (f : K → ℕ → ℕ) (v : ℕ → ℕ) : Type 0 where
  pub items : Comb K
  pub gives : Same p (combination f items) v

-- each vector of f is in the span of g
abbrev pub SpanWithin : {K L : Type 0} → ℕ → (K → ℕ → ℕ) → (L → ℕ → ℕ) → Type 0
SpanWithin {K} p f g = (k : K) → InSpan p g (f k)

-- the two have one span
pub record SameSpan {K L : Type 0} (p : ℕ) (f : K → ℕ → ℕ) (g : L → ℕ → ℕ) : Type 0 where
  pub into : SpanWithin p f g
  pub back : SpanWithin p g f

-- the rows of a list, named by their places. A place past the end names the zero row
abbrev pub rows_of : List Cells → ℕ → ℕ → ℕ
rows_of rows k = entry (slice_index_or rows k [])

-- the least column where v is not zero
pub record IsLead (p : ℕ) (v : ℕ → ℕ) (column : ℕ) : Type 0 where
  pub nonzero : v column % p ≢ 0
  pub before : (j : ℕ) → j < column → v j % p ≡ 0

-- the least column of an element of the span
pub record IsPivot {K : Type 0} (p : ℕ) (f : K → ℕ → ℕ) (column : ℕ) : Type 0 where
  pub element : ℕ → ℕ
  pub in_span : InSpan p f element
  pub lead : IsLead p element column

-- the pivots ascend
abbrev pub Ascending : List ℕ → Type 0
Ascending pivots = (i j : ℕ) → i < j → j < length pivots → slice_index pivots i < slice_index pivots j

-- the row of a pivot: an element of the span that is 1 there and 0 at every other pivot
pub record IsReducedRow {K : Type 0} (p : ℕ) (f : K → ℕ → ℕ) (pivot : ℕ) (v : ℕ → ℕ) : Type 0 where
  pub in_span : InSpan p f v
  pub one : v pivot % p ≡ 1 % p
  pub others : (c : ℕ) → IsPivot p f c → c ≢ pivot → v c % p ≡ 0

-- the list has all pivots of the span, in order
pub record ArePivots {K : Type 0} (p : ℕ) (f : K → ℕ → ℕ) (pivots : List ℕ) : Type 0 where
  pub ascending : Ascending pivots
  pub each : (k : ℕ) → k < length pivots → IsPivot p f (slice_index pivots k)
  pub all : (c : ℕ) → IsPivot p f c → (k : ℕ) × (k < length pivots) × (slice_index pivots k ≡ c)

-- the reduced form: its pivots, and the row of each
pub record IsReducedForm {K : Type 0} (p : ℕ) (f : K → ℕ → ℕ) (pivots : List ℕ) (row : ℕ → ℕ → ℕ) : Type 0 where
  pub are_pivots : ArePivots p f pivots
  pub each : (c : ℕ) → IsPivot p f c → IsReducedRow p f c (row c)

-- v is w plus an element of the span
pub record DiffersBySpan {K : Type 0} (p : ℕ) (f : K → ℕ → ℕ) (v w : ℕ → ℕ) : Type 0 where
  pub difference : ℕ → ℕ
  pub in_span : InSpan p f difference
  pub sum : (j : ℕ) → v j % p ≡ (w j + difference j) % p
