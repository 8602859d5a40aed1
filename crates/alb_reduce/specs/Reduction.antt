-- What an Echelon and a Reduced are seen as, and what their recipes are.
use Rattle.std.specs.Prelude.{ℕ, ◌≡◌, ◌≢◌, ◌<◌, ◌==◌, ◌↔◌, Bool, List, [], ◌∷◌, if◌then◌else◌, length, slice_index_or}
use Rattle.std.specs.List.{All, AllPairs}
use Rattle.gf_sums.specs.Sums.{Comb}
use Rattle.alb_rows.specs.Row.{Cells, entry}
use Rattle.alb_rows.specs.Span.{rows_of, combination, IsPivot, IsReducedRow}

-- rows that span what was offered, and what else was kept of the offers
pub record Reduction : Type 0 where
  pub p : ℕ
  pub columns : ℕ
  pub rows : List Cells
  pub tags : List ℕ  -- of the offers that gave pivots, in order
  pub keeps_recipes : Bool
  pub offers : List (ℕ × Cells)  -- the tag and the row of each offer, in order, where recipes are kept

-- the rows as a family. Its span is the span of the value
abbrev pub kept : Reduction → ℕ → ℕ → ℕ
kept r = rows_of r.rows

-- the column is a pivot now, and was none before; the other pivots are those from before
pub record AddsPivot (old new : Reduction) (column : ℕ) : Type 0 where
  pub now : IsPivot old.p (kept new) column
  pub before : IsPivot old.p (kept old) column → ⊥
  pub others : (c : ℕ) → c ≢ column → (IsPivot old.p (kept new) c ↔ IsPivot old.p (kept old) c)

-- no offer has the tag
abbrev pub IsNewTag : List (ℕ × Cells) → ℕ → Type 0
IsNewTag offers tag = All (λ o. o.0 ≢ tag) offers

-- an offer has the tag
abbrev pub IsTag : List (ℕ × Cells) → ℕ → Type 0
IsTag offers tag = (k : ℕ) × (k < length offers) × ((slice_index_or offers k (0, [])).0 ≡ tag)

-- the row that was offered with the tag, the zero row where there was none
abbrev pub row_with : List (ℕ × Cells) → ℕ → Cells
row_with [] tag = []
row_with (o ∷ offers) tag = if o.0 == tag then o.1 else row_with offers tag

-- the offered rows as a family, named by their tags
abbrev pub offered : List (ℕ × Cells) → ℕ → ℕ → ℕ
offered offers tag = entry (row_with offers tag)

-- the recipe of a pivot: coefficients at tags. The combination of the rows that were offered with them is the row of the pivot
pub record IsRecipe (r : Reduction) (pivot : ℕ) (items : Comb ℕ) : Type 0 where
  pub gives : IsReducedRow r.p (kept r) pivot (combination (offered r.offers) items)
  pub tags : All (λ t. IsTag r.offers t.1) items
  pub residues : All (λ t. t.0 < r.p) items
  pub nonzero : All (λ t. t.0 ≢ 0) items
  pub ascending : AllPairs (λ s t. s.1 < t.1) items
