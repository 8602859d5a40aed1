-- The merge of two rows into a sum.
use Rattle.std.specs.Prelude.{ℕ, ◌≡◌, ◌<◌, ◌≤◌, ◌+◌, ◌*◌, ◌%◌, ◌==◌, if◌then◌else◌, length, slice_index_or, take, map}
use Rattle.alb_rows.specs.Row.{Cells, entry, ColumnsBelow, AreCellResidues, IsRow}

-- the residue at a column, where another column has 0
abbrev pub at_column : ℕ → ℕ → ℕ → ℕ
at_column column value j = if column == j then value else 0

-- from place i on the columns are at least n
abbrev pub NextFrom : ℕ → Cells → ℕ → Type 0
NextFrom n cells i = i < length cells → n ≤ (slice_index_or cells i (0, 0)).0

-- new is old with the value added at the column, which old and everything before it stands below
pub record AddsAt (old new : Cells) (column value : ℕ) : Type 0 where
  pub entries : (j : ℕ) → entry new j ≡ entry old j + at_column column value j
  pub below : ColumnsBelow column old → ColumnsBelow (column + 1) new

-- what the merge of a and c times b keeps, where it has taken i and k cells
pub record Merged (p : ℕ) (a : Cells) (c : ℕ) (b : Cells) (i k : ℕ) (out : Cells) : Type 0 where
  pub row : IsRow out
  pub residues : AreCellResidues p out
  pub top : ℕ
  pub out_below : ColumnsBelow top out
  pub a_below : ColumnsBelow top (take i a)
  pub b_below : ColumnsBelow top (take k b)
  pub a_next : NextFrom top a i
  pub b_next : NextFrom top b k
  pub entries : (j : ℕ) → entry out j ≡ (entry (take i a) j + c * entry (take k b) j) % p

-- each cell times c
abbrev pub times_cells : ℕ → ℕ → Cells → Cells
times_cells p c cells = map (λ cell. (cell.0, (c * cell.1) % p)) cells
