use Rattle.std.proofs.Common.{◌≡◌, subst, sym}
use Rattle.alb_rows.specs.Row.{Cells, AreCellResidues, AreSameVector, comb}
use Rattle.std.specs.Prelude.{OnOk, ◌++◌}
use Rattle.gf_sums.specs.Sums.{scale}
use Rattle.alb_check.specs.Products.{row_at}
use Rattle.alb_check.proofs.ProductLemmas.{row_residues}
use Rattle.alb_check.proofs.value.Algebra.add_product.Goals as goal

pub add_scaled-requires-clause-other_in : goal.add_scaled-requires-clause-other_in
add_scaled-requires-clause-other_in c =
    subst (AreCellResidues c.args.self.now.field.now) (sym c.in-Some.ensures) (row_residues c.args.self.now.field.now c.args.self.now.products.now c.from.result c.from-2.result c.requires.products.residues)

pub returns-in-Some-clause-value : goal.returns-in-Some-clause-value
returns-in-Some-clause-value c =
    let e : c.in-Some.row.now ≡ row_at c.args.self.now.products.now c.args.left c.args.right = rw (c.from.ensures, c.from-2.ensures) at c.in-Some.ensures in
    subst (λ (r : Cells). OnOk c.add_scaled.result (AreSameVector c.args.self.now.field.now (comb c.add_scaled.new.self) (comb c.args.sum.now ++ scale c.args.c (comb r)))) e c.add_scaled.ensures.vector
