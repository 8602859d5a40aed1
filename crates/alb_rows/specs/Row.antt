-- Rows as lists of cells, and what they are as vectors.
use Rattle.std.specs.Prelude.{ℕ, ◌≡◌, ◌≢◌, ◌<◌, nat_eq, List, map}
use Rattle.std.specs.List.{All, AllPairs}
use Rattle.gf_sums.specs.Sums.{Comb, coefficient, AreSame}

-- a row: its cells, each a column and a residue
abbrev pub Cells : Type 0
Cells = List (ℕ × ℕ)

-- the row as a combination of columns
abbrev pub comb : Cells → Comb ℕ
comb cells = map (λ cell. (cell.1, cell.0)) cells

-- the entry at a column, 0 where the row has no cell
abbrev pub entry : Cells → ℕ → ℕ
entry cells column = coefficient (λ i j. nat_eq i j) (comb cells) column

-- every column is below n
abbrev pub ColumnsBelow : ℕ → Cells → Type 0
ColumnsBelow n cells = All (λ cell. cell.0 < n) cells

-- every cell has a residue of the field with p elements
abbrev pub AreCellResidues : ℕ → Cells → Type 0
AreCellResidues p cells = All (λ cell. cell.1 < p) cells

-- the columns ascend, and no cell is zero
pub record IsRow (cells : Cells) : Type 0 where
  pub ascending : AllPairs (λ a b. a.0 < b.0) cells
  pub nonzero : All (λ cell. cell.1 ≢ 0) cells

-- a row of residues of the field with p elements
pub record IsRowOver (p : ℕ) (cells : Cells) : Type 0 where
  pub row : IsRow cells
  pub residues : AreCellResidues p cells

-- the least column where the row is not zero, and its residue there
pub record RowLeadsWith (cells : Cells) (lead : ℕ × ℕ) : Type 0 where
  pub entry_is : entry cells lead.0 ≡ lead.1
  pub nonzero : lead.1 ≢ 0
  pub before : (j : ℕ) → j < lead.0 → entry cells j ≡ 0

-- equal vectors: the same residue at every column
abbrev pub AreSameVector : ℕ → Comb ℕ → Comb ℕ → Type 0
AreSameVector p f g = AreSame (λ i j. nat_eq i j) p f g
