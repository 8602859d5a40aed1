use Rattle.alb_rows.specs.Row.{comb}
use Rattle.alb_check.proofs.ValueLemmas.{times_more}
use Rattle.alb_check.proofs.value.Algebra.add_times.Goals as goal

pub loop-cell-preserved : goal.loop-cell-preserved
loop-cell-preserved c = record {
  residues = c.in_ok-add_product.ensures.row;
  value = times_more c.args.self.now.field.now c.args.self.now.products.now c.args.c c.args.left c.cells-cell-items.result.now c.loop-cell.cell-index c.mul.result
      (comb c.args.sum.now) (comb c.loop-cell.sum) (comb c.add_product.new.sum) c.loop-cell-test.true c.mul.ensures.value
      c.loop-cell.invariant.value c.in_ok-add_product.ensures.value;
}
