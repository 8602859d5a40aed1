use Rattle.std.proofs.Common.{arith}
use Rattle.bench_reduce.proofs.dense_row.Goals as goal

pub loop-column-preserved : goal.loop-column-preserved
loop-column-preserved c = record {
  row = c.push_cell.ensures.row;
  columns = c.in_ok-push_cell.ensures.adds.below c.loop-column.invariant.columns;
  residues = c.in_ok-push_cell.ensures.residues c.args.field.now (omega (arith, c.draw-c.ensures, c.p.ensures.value)) c.loop-column.invariant.residues;
}
