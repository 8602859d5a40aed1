use Rattle.std.proofs.Common.{◌≡◌, ◌∙◌, subst, sym, refl, get_or, [], ◌<◌, length}
use Rattle.std.proofs.lemmas.List.{get_or_default}
use Rattle.std.proofs.lemmas.Bool.{ltb-true}
use Rattle.alb_mono.proofs.ListingLemmas.{each-at}
use Rattle.alb_rows.specs.Row.{Cells, comb}
use Rattle.alb_table.specs.Table.{elems}
use Rattle.alb_table.specs.Value.{IsBasisRow}
use Rattle.alb_table.proofs.ValueLemmas.{product_value, same_lists}
use Rattle.alb_table.proofs.tables.Tables.+factor.Goals as goal

pub returns-in-Gen-clause-value : goal.returns-in-Gen-clause-value
returns-in-Gen-clause-value t c =
    let l : c.in-Gen.k < length c.args.rows.now = ltb-true c.in-Gen.k (length c.args.rows.now) (rw c.in-Gen.is at c.requires.positions) in
    let e : c.index-rows-k.result ≡ get_or c.args.rows.now c.in-Gen.k [] = c.index-rows-k.is ∙ get_or_default c.args.rows.now c.in-Gen.k c.index-rows-k.result [] l in
    rw c.in-Gen.is (same_lists c.args.self.now.p (comb c.index-rows-k.result) _ (subst (λ (x : Cells). comb c.index-rows-k.result ≡ comb x) e refl))

pub returns-in-Gen-clause-row : goal.returns-in-Gen-clause-row
returns-in-Gen-clause-row t c =
    let l : c.in-Gen.k < length c.args.rows.now = ltb-true c.in-Gen.k (length c.args.rows.now) (rw c.in-Gen.is at c.requires.positions) in
    subst (IsBasisRow c.args.self.now.p (length (elems c.args.self.now.parts))) (sym c.index-rows-k.is)
    (each-at (IsBasisRow c.args.self.now.p (length (elems c.args.self.now.parts))) c.args.rows.now c.in-Gen.k c.index-rows-k.result c.requires.vectors l)

pub returns-in_ok-product-in-Prod-clause-value : goal.returns-in_ok-product-in-Prod-clause-value
returns-in_ok-product-in-Prod-clause-value t c =
    rw c.in-Prod.is
    (product_value c.args.self.now.p _ _ _ c.in_ok-product-in-Prod.product _ _ (rw c.deref.ensures at c.in_ok-x-in-Prod.ensures.value) (rw c.deref-in-Prod.ensures at c.in_ok-y-in-Prod.ensures.value)
    (rw (c.row.ensures, c.row-in-Prod.ensures) at c.in_ok-product-in-Prod.ensures.value))
