use Rattle.std.proofs.Common.{take}
use Rattle.alb_poly.specs.Textbook.{evaluate_poly}
use Rattle.alb_poly.specs.Terms.{terms}
use Rattle.alb_rows.specs.Row.{AreCellResidues, AreSameVector, comb}
use Rattle.alb_check.specs.Products.{listed_product, vectors}
use Rattle.alb_check.proofs.value.Algebra.value_of.Given as goal

abbrev pub invariant-loop-t : goal.invariant-loop-t
invariant-loop-t l = record {
  residues : AreCellResidues l.self.field.now l.sum;
  value : AreSameVector l.self.field.now (comb l.sum) (evaluate_poly (listed_product l.self.products.now) (vectors l.rows) (terms (take l.t-index l.t-items)));
}
