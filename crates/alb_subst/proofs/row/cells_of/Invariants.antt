use Rattle.std.proofs.Common.{◌≡◌, ◌<◌, ℕ, All, take}
use Rattle.std.specs.Prelude.{slice_index}
use Rattle.alb_rows.specs.Row.{entry, ColumnsBelow, AreCellResidues, IsRow}
use Rattle.alb_subst.proofs.row.cells_of.Given as goal

abbrev pub invariant-loop-k : goal.invariant-loop-k
invariant-loop-k l = record {
  row : IsRow l.cells.items;
  entries : (j : ℕ) → entry l.cells.items j ≡ slice_index (take l.k l.sums) j;
  columns : ColumnsBelow l.k l.cells.items;
  residues : (p : ℕ) → All (λ y. y < p) l.sums → AreCellResidues p l.cells.items;
}
