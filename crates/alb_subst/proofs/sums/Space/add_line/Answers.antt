use Rattle.alb_subst.proofs.SumLemmas.{adds_line}
use Rattle.alb_subst.proofs.sums.Space.add_line.Goals as goal

pub loop-cell-preserved : goal.loop-cell-preserved
loop-cell-preserved c = record {
  residues = c.add_pair.ensures.residues;
  adds = adds_line c.args.self.now.field.now c.args.self.now.columns.now c.args.sums.now c.loop-cell.sums c.add_pair.new.sums c.args.x c.args.b c.cells-cell-items.result.now c.loop-cell.cell-index
      c.mul.result c.loop-cell-test.true c.mul.ensures.value c.loop-cell.invariant.adds c.add_pair.ensures.adds;
}
