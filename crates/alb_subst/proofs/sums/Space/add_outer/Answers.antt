use Rattle.std.proofs.Common.{arith}
use Rattle.alb_subst.proofs.SumLemmas.{adds_lines, adds_outer}
use Rattle.alb_subst.proofs.sums.Space.add_outer.Goals as goal

pub loop-cell-preserved : goal.loop-cell-preserved
loop-cell-preserved c = record {
  residues = c.add_line.ensures.residues;
  adds = adds_lines c.args.self.now.field.now c.args.self.now.columns.now c.args.sums.now c.loop-cell.sums c.add_line.new.sums c.args.x c.args.right.now c.cells-cell-items.result.now
      c.loop-cell.cell-index c.mul.result c.loop-cell-test.true c.mul.ensures.value c.loop-cell.invariant.adds c.add_line.ensures.adds;
}

pub returns-clause-adds : goal.returns-clause-adds
returns-clause-adds c =
    adds_outer c.args.self.now.field.now c.args.self.now.columns.now c.args.sums.now c.loop-cell.sums c.args.x c.args.left.now c.args.right.now c.cells-cell-items.result.now c.loop-cell.cell-index
    (omega arith) c.cells-cell-items.ensures.all c.loop-cell.invariant.adds
