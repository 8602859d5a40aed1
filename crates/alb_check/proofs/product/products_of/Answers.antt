use Rattle.std.proofs.Common.{refl, get_or, sym, subst}
use Rattle.std.proofs.lemmas.List.{get_or_default}
use Rattle.alb_check.specs.declared.product.Product.{Product}
use Rattle.alb_check.proofs.RunLemmas.{Gathers, gathers_more, no_entry}
use Rattle.alb_check.proofs.product.products_of.Goals as goal

pub loop-start-preserved : goal.loop-start-preserved
loop-start-preserved c =
    let es = c.args.entries.now in
    let e = get_or es c.loop-start.start no_entry in
    let x : Product = record { left = e.left; right = e.right; row = c.in_ok-row.row } in
    subst (Gathers c.args.field.now es c.run_end-end.result) (sym c.in_ok-push.ensures.items)
    (gathers_more c.args.field.now es c.loop-start.start c.run_end-end.result c.loop-start.products.items c.loop-start.invariant c.requires.ascending
    c.run_end-end.ensures x e (get_or_default es c.loop-start.start no_entry e c.loop-start-test.true) refl refl c.in_ok-row.ensures.residues c.in_ok-row.ensures.value)
