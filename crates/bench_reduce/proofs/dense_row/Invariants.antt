use Rattle.alb_rows.specs.Row.{AreCellResidues, ColumnsBelow, IsRow}
use Rattle.bench_reduce.proofs.dense_row.Given as goal

abbrev pub invariant-loop-column : goal.invariant-loop-column
invariant-loop-column l = record {
  row : IsRow l.cells.items;
  columns : ColumnsBelow l.column l.cells.items;
  residues : AreCellResidues l.field l.cells.items;
}
