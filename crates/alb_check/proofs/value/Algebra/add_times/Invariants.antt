use Rattle.std.proofs.Common.{◌++◌, take}
use Rattle.alb_rows.specs.Row.{AreCellResidues, AreSameVector, comb}
use Rattle.alb_check.specs.Products.{times_right}
use Rattle.alb_check.proofs.value.Algebra.add_times.Given as goal

abbrev pub invariant-loop-cell : goal.invariant-loop-cell
invariant-loop-cell l = record {
  residues : AreCellResidues l.self.field.now l.sum;
  value : AreSameVector l.self.field.now (comb l.sum) (comb l.initial.sum ++ times_right l.self.products.now l.c l.left (comb (take l.cell-index l.cell-items)));
}
