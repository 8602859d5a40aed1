use Rattle.std.proofs.Common.{refl}
use Rattle.std.specs.Prelude.{slice_index}
use Rattle.alb_subst.proofs.InstanceLemmas.{cells_more}
use Rattle.alb_subst.proofs.row.cells_of.Goals as goal

pub loop-k-preserved : goal.loop-k-preserved
loop-k-preserved c = record {
  row = c.push_cell.ensures.row;
  entries = cells_more c.args.sums.now c.loop-k.cells.items c.push_cell.new.cells.items c.loop-k.k (slice_index c.args.sums.now c.loop-k.k) c.loop-k-test.true refl
      c.loop-k.invariant.entries c.in_ok-push_cell.ensures.adds.entries;
  columns = c.in_ok-push_cell.ensures.adds.below c.loop-k.invariant.columns;
  residues = λ p a. c.in_ok-push_cell.ensures.residues p (a c.loop-k.k 0 c.loop-k-test.true) (c.loop-k.invariant.residues p a);
}
