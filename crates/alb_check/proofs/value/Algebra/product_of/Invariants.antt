use Rattle.std.proofs.Common.{take}
use Rattle.gf_sums.specs.Sums.{multiply}
use Rattle.alb_rows.specs.Row.{AreCellResidues, AreSameVector, comb}
use Rattle.alb_check.specs.Products.{listed_product}
use Rattle.alb_check.proofs.value.Algebra.product_of.Given as goal

abbrev pub invariant-loop-cell : goal.invariant-loop-cell
invariant-loop-cell l = record {
  residues : AreCellResidues l.self.field.now l.sum;
  value : AreSameVector l.self.field.now (comb l.sum) (multiply (listed_product l.self.products.now) (comb (take l.cell-index l.cell-items)) (comb l.right));
}
