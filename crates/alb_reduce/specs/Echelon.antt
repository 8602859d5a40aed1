-- The rows that are kept, and the steps on them.
use Rattle.std.specs.Prelude.{ℕ, ◌≡◌, ◌≢◌, ◌<◌, ◌≤◌, ◌+◌, ◌*◌, ◌%◌, Bool, IsTrue, List, [], ◌∷◌, ◌++◌, length, slice_index, slice_index_or, map}
use Rattle.std.specs.List.{All, Contains}
use Rattle.gf_field.specs.Modular.{IsSameMod}
use Rattle.gf_sums.specs.Sums.{Comb, weigh}
use Rattle.alb_rows.specs.Row.{Cells, comb, entry, IsRowOver}
use Rattle.alb_rows.specs.Span.{rows_of, combination, Ascending, ArePivots, DiffersBySpan, Same, SameSpan, InSpan, IsPivot}
use Rattle.alb_reduce.specs.declared.kept.Kept.{Kept}
use Rattle.alb_reduce.specs.declared.echelon.Offered.{Offered}
use Rattle.alb_reduce.specs.declared.echelon.Offered.TheVariants.{Dependent, Pivot}
use Rattle.alb_reduce.specs.Index.{IsIndex}
use Rattle.alb_reduce.specs.Lanes.{lane_cells, lane_rows, AreResidues, AreZero, IsLaid, Covers}
use Rattle.alb_reduce.specs.Reduction.{IsNewTag, offered}

-- n rows with their pivots, each 1 at its own pivot, 0 at every other one and 0 before its own. Past them the family is zero
pub record IsDiagonal (p n : ℕ) (pivot : ℕ → ℕ) (row : ℕ → ℕ → ℕ) : Type 0 where
  pub one : (k : ℕ) → k < n → row k (pivot k) % p ≡ 1 % p
  pub others : (k l : ℕ) → k < n → l < n → k ≢ l → row k (pivot l) % p ≡ 0
  pub before : (k j : ℕ) → k < n → j < pivot k → row k j % p ≡ 0
  pub past : (k j : ℕ) → n ≤ k → row k j % p ≡ 0

-- the kept rows, with their pivots
pub record IsEchelon (p : ℕ) (pivots : List ℕ) (rows : List Cells) : Type 0 where
  pub above : 1 < p
  pub long : length rows ≡ length pivots
  pub residues : All (IsRowOver p) rows
  pub diagonal : IsDiagonal p (length pivots) (slice_index pivots) (rows_of rows)

-- the row where all kept rows have been taken off
pub record IsCleared (p : ℕ) (pivots : List ℕ) (rows : List Cells) (row new : Cells) : Type 0 where
  pub residues : IsRowOver p new
  pub differs : DiffersBySpan p (rows_of rows) (entry row) (entry new)
  pub zero_at : (l : ℕ) → l < length pivots → entry new (slice_index pivots l) % p ≡ 0

-- the row where kept rows have been taken off at some of its cells: partly in lanes, with no entry at a pivot there, and partly the rest of its cells
pub record IsSpread (p : ℕ) (live pivots : List ℕ) (rows : List Cells) (row : Cells) (lanes : List ℕ) (rest : Cells) : Type 0 where
  pub long : length lanes ≡ length live
  pub residues : AreResidues p lanes
  pub differs : DiffersBySpan p (rows_of rows) (entry row) (entry (lane_cells live lanes ++ rest))
  pub zero_at : (i k : ℕ) → i < length live → k < length pivots → slice_index live i ≡ slice_index pivots k → slice_index lanes i ≡ 0

-- a multiple of `by` has been added, which is 1 at the column, so that the new vector is 0 there
pub record IsClearedAt (p column : ℕ) (by old new : ℕ → ℕ) : Type 0 where
  pub factor : ℕ
  pub cancels : (old column + factor) % p ≡ 0
  pub entries : (j : ℕ) → new j % p ≡ (old j + factor * by j) % p

-- the first k rows have been cleared at the column, and the others are as they were
pub record AreClearedAt (p column : ℕ) (by : Cells) (old new : List Cells) (k : ℕ) : Type 0 where
  pub long : length new ≡ length old
  pub residues : All (IsRowOver p) new
  pub cleared : (l : ℕ) → l < k → IsClearedAt p column (entry by) (rows_of old l) (rows_of new l)
  pub rest : (l : ℕ) → k ≤ l → slice_index_or new l [] ≡ slice_index_or old l []

-- what a new pivot row gives
pub record NewPivot (p : ℕ) (pivots : List ℕ) (rows : List Cells) (row : Cells) (c : ℕ) (rows' : List Cells) : Type 0 where
  pub echelon : IsEchelon p (pivots ++ c ∷ []) rows'
  pub span : SameSpan p (rows_of rows') (rows_of (row ∷ rows))
  pub now : IsPivot p (rows_of rows') c
  pub before : IsPivot p (rows_of rows) c → ⊥
  pub outside : InSpan p (rows_of rows) (entry row) → ⊥

-- the members of `order` below n, ascending
pub record IsAscendingBelow (order : List ℕ) (n : ℕ) (pivots : List ℕ) : Type 0 where
  pub ascending : Ascending pivots
  pub below : (k : ℕ) → k < length pivots → slice_index pivots k < n
  pub from : (k : ℕ) → k < length pivots → Contains order (slice_index pivots k)
  pub all : (i : ℕ) → i < length order → slice_index order i < n → (k : ℕ) × (k < length pivots) × (slice_index pivots k ≡ slice_index order i)

-- the kept rows are 0 from `columns` on
abbrev pub IsNarrow : ℕ → ℕ → List Cells → Type 0
IsNarrow p columns rows = (k j : ℕ) → columns ≤ j → rows_of rows k j % p ≡ 0

pub record AreKeptRows (p columns : ℕ) (pivots : List ℕ) (rows : List Cells) : Type 0 where
  pub echelon : IsEchelon p pivots rows
  pub narrow : IsNarrow p columns rows

-- ---- recipes: rows over tags, one beside each row

-- the recipe with weights w at its tags has the value of the row with weights u at its columns
abbrev pub Agrees : ℕ → (ℕ → ℕ) → (ℕ → ℕ) → Cells → Cells → Type 0
Agrees p w u recipe row = IsSameMod p (weigh w (comb recipe)) (weigh u (comb row))

abbrev pub AllAgree : ℕ → (ℕ → ℕ) → (ℕ → ℕ) → List Cells → List Cells → Type 0
AllAgree p w u recipes rows = (k : ℕ) → Agrees p w u (slice_index_or recipes k []) (slice_index_or rows k [])

-- each step on the rows was one on the recipes
pub record RecipesFollow (p : ℕ) (by_recipe by : Cells) (old_recipes old recipes rows : List Cells) : Type 0 where
  pub long : length recipes ≡ length old_recipes
  pub residues : All (IsRowOver p) recipes
  pub agree : (w u : ℕ → ℕ) → Agrees p w u by_recipe by → AllAgree p w u old_recipes old → AllAgree p w u recipes rows

-- the kept rows
abbrev pub kept_rows : Kept → List Cells
kept_rows kept = lane_rows kept.live.items kept.pivots.items (map (λ v. v.items) kept.lanes.items)

-- how the kept rows are kept
pub record IsHeld (p : ℕ) (kept : Kept) : Type 0 where
  pub echelon : IsEchelon p kept.pivots.items (kept_rows kept)
  pub index : IsIndex kept.pivots.items kept.places.items
  pub laid : IsLaid p kept.live.items kept.slots.items kept.pivots.items (map (λ v. v.items) kept.lanes.items)
  pub long : length kept.recipes.items ≡ length kept.pivots.items
  pub residues : All (IsRowOver p) kept.recipes.items

-- the same with lanes that are 0, in which rows are offered. Before the first offer no column has a lane
pub record IsReady (p columns : ℕ) (kept : Kept) (scratch : List ℕ) : Type 0 where
  pub held : IsHeld p kept
  pub covers : 0 < length kept.live.items + length kept.pivots.items → Covers columns kept.live.items kept.pivots.items
  pub long : length scratch ≡ length kept.live.items
  pub zero : AreZero scratch

-- the kept rows are the same, however they are kept
pub record HasSameRows (old new : Kept) : Type 0 where
  pub pivots : new.pivots.items ≡ old.pivots.items
  pub rows : kept_rows new ≡ kept_rows old
  pub recipes : new.recipes.items ≡ old.recipes.items

-- the row was a combination of the kept rows, which are the same
pub record KeepsAll (p : ℕ) (old new : Kept) (row : Cells) : Type 0 where
  pub same : HasSameRows old new
  pub cleared : IsCleared p old.pivots.items (kept_rows old) row []

-- one row more is kept: it was `row` with its recipe before it was cleared, and its pivot is c
pub record KeepsPivot (p : ℕ) (old new : Kept) (row recipe : Cells) (c : ℕ) : Type 0 where
  pub pivots : new.pivots.items ≡ old.pivots.items ++ c ∷ []
  pub rows : NewPivot p old.pivots.items (kept_rows old) row c (kept_rows new)
  pub long : length new.recipes.items ≡ length (kept_rows new)
  pub residues : All (IsRowOver p) new.recipes.items
  pub agree : (w u : ℕ → ℕ) → AllAgree p w u old.recipes.items (kept_rows old) → Agrees p w u recipe row
      → AllAgree p w u new.recipes.items (kept_rows new)

-- what is kept after an offer
abbrev pub Keeps : ℕ → Kept → Kept → Cells → Cells → Offered → Type 0
Keeps p old new row recipe Dependent = KeepsAll p old new row
Keeps p old new row recipe (Pivot c) = KeepsPivot p old new row recipe c

-- each recipe gives its row from the offered rows, and has no tag but theirs
pub record AreRecipes (p : ℕ) (offers : List (ℕ × Cells)) (recipes rows : List Cells) : Type 0 where
  pub gives : (k : ℕ) → Same p (combination (offered offers) (comb (slice_index_or recipes k []))) (rows_of rows k)
  pub tags : (k t : ℕ) → IsNewTag offers t → entry (slice_index_or recipes k []) t ≡ 0

-- what an Echelon keeps
pub record IsState (p columns : ℕ) (keeps : Bool) (pivots : List ℕ) (rows recipes : List Cells) (offers : List (ℕ × Cells)) : Type 0 where
  pub kept : AreKeptRows p columns pivots rows
  pub long : length recipes ≡ length rows
  pub residues : All (IsRowOver p) recipes
  pub recipes_are : IsTrue keeps → AreRecipes p offers recipes rows

-- what a Reduced keeps: the same, with the pivots in order and the recipes as lists of coefficients at tags
pub record IsForm (p columns : ℕ) (keeps : Bool) (pivots order : List ℕ) (rows : List Cells) (items : List (Comb ℕ)) (offers : List (ℕ × Cells)) : Type 0 where
  pub recipes : List Cells
  pub state : IsState p columns keeps order rows recipes offers
  pub items_are : items ≡ map comb recipes
  pub are_pivots : ArePivots p (rows_of rows) pivots
