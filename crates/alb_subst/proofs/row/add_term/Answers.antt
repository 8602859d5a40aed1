use Rattle.alb_mono.specs.Tree.{tree}
use Rattle.alb_rows.specs.Row.{comb}
use Rattle.alb_table.specs.Table.{table_product}
use Rattle.alb_table.specs.Held.{cells_in}
use Rattle.alb_table.specs.Value.{vectors}
use Rattle.alb_subst.proofs.InstanceLemmas.{adds_product}
use Rattle.alb_subst.proofs.row.add_term.Goals as goal

pub returns-in_ok-right-in-Prod-clause-adds : goal.returns-in_ok-right-in-Prod-clause-adds
returns-in_ok-right-in-Prod-clause-adds c =
    rw c.in-Prod.is
    (adds_product c.args.tables.now.p c.args.columns.now c.args.sums.now c.add_outer.new.sums c.args.t.now.coef (table_product c.args.tables.now.parts) (vectors c.args.rows.now) (tree c.in-Prod.l.value) (tree c.in-Prod.r.value)
    (comb (cells_in c.in_ok-left-in-Prod.left)) (comb (cells_in c.in_ok-right-in-Prod.right)) (rw c.deref.ensures at c.in_ok-left-in-Prod.ensures.value)
    (rw c.deref-in-Prod.ensures at c.in_ok-right-in-Prod.ensures.value) (rw (c.field.ensures, c.row-left.ensures, c.row-right.ensures) at c.add_outer.ensures.adds))
