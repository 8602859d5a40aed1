-- Sums of combinations of pairs, kept as one residue for each column.
use Rattle.std.specs.Prelude.{ℕ, ◌+◌, ◌<◌, List, length, map, slice_index, slice_index_or}
use Rattle.gf_field.specs.Modular.{IsSameMod}
use Rattle.gf_sums.specs.Sums.{Comb, coefficient}
use Rattle.alb_poly.specs.Instance.{Form}
use Rattle.alb_rows.specs.Row.{Cells, entry}
use Rattle.alb_table.specs.Table.{same_pair, PartView, table_product}
use Rattle.alb_table.specs.Block.{form_row}
use Rattle.alb_subst.specs.Columns.{pair_at}

-- THE ROW of a form at basis elements: its instance, as a combination of products of two basis elements
abbrev pub instance_row : List PartView → Form → List ℕ → Comb (ℕ × ℕ)
instance_row parts f tuple = form_row (λ b c. (b, c)) (table_product parts) (λ k. slice_index_or tuple k 0) f

-- at each column the row has the coefficient of the column's pair
abbrev pub HasEntries : ℕ → List (ℕ × ℕ) → Cells → Comb (ℕ × ℕ) → Type 0
HasEntries p columns row f = (j : ℕ) → j < length columns → IsSameMod p (entry row j) (coefficient same_pair f (pair_at columns j))

-- at each column the coefficient of the column's pair has been added
pub record AddsAtColumns (p : ℕ) (columns : List (ℕ × ℕ)) (old new : List ℕ) (f : Comb (ℕ × ℕ)) : Type 0 where
  pub at : (j : ℕ) → j < length columns → IsSameMod p (slice_index new j) (slice_index old j + coefficient same_pair f (pair_at columns j))

-- the pairs of b with the columns of a row
abbrev pub pairs_with : ℕ → Cells → Comb (ℕ × ℕ)
pairs_with b cells = map (λ cell. (cell.1, (b, cell.0))) cells
