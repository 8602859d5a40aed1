use Rattle.std.proofs.Common.{◌≡◌, ◌∙◌, ◌<◌, sym, ap, subst, length, arith}
use Rattle.std.specs.List.{flat_map}
use Rattle.alb_table.specs.Grid.{cells_of, ArePairsBelow}
use Rattle.alb_table.specs.Table.{elems, part_at, products}
use Rattle.alb_table.specs.Views.{views}
use Rattle.alb_table.proofs.PartLemmas.{cells_at, length-views}
use Rattle.alb_table.proofs.MonoLemmas.{products_below}
use Rattle.alb_table.proofs.tables.Tables.grids.Goals as goal

pub returns-clause-cells : goal.returns-clause-cells
returns-clause-cells c =
    let s = c.self.inside.store in
    let p : views s ≡ c.args.self.now.parts = ap (λ t. t.parts) c.self.view_is in
    let h : c.args.k < length c.args.self.now.parts = c.requires in
    let k : c.args.k < length (views s) = subst (λ ps. c.args.k < length ps) (sym p) h in
    let m : length (views s) ≡ length s.parts.items = length-views s.parts.items in
    let e = cells_at s.parts.items c.args.k c.index.result.now c.self.invariant.store.stored (omega arith) in
    let f : flat_map cells_of c.deref-2.result.now ≡ products (views s) (part_at (views s) c.args.k).at =
    rw (c.deref-2.ensures.value, c.deref.ensures, c.index.ensures) e in
    f ∙ ap (λ ps. products ps (part_at ps c.args.k).at) p

pub returns-clause-below : goal.returns-clause-below
returns-clause-below c =
    subst (ArePairsBelow (length (elems c.args.self.now.parts))) (sym (returns-clause-cells c)) (products_below c.args.self.now.parts (part_at c.args.self.now.parts c.args.k).at)
