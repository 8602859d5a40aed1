use Rattle.alb_rows.specs.Row.{comb}
use Rattle.alb_check.proofs.ValueLemmas.{product_more}
use Rattle.alb_check.proofs.value.Algebra.product_of.Goals as goal

pub loop-cell-preserved : goal.loop-cell-preserved
loop-cell-preserved c = record {
  residues = c.in_ok-add_times.ensures.row;
  value = product_more c.args.self.now.field.now c.args.self.now.products.now c.cells-cell-items.result.now c.args.right.now c.loop-cell.cell-index
      (comb c.loop-cell.sum) (comb c.add_times.new.sum) c.loop-cell-test.true c.loop-cell.invariant.value c.in_ok-add_times.ensures.value;
}
