use Rattle.std.proofs.Common.{rules, ◌≡◌, ◌∙◌, sym, ap, ◌<◌, length, map, arith}
use Rattle.std.specs.Prelude.{Some, None}
use Rattle.alb_table.specs.Table.{origin_view, origins_at}
use Rattle.alb_table.specs.Views.{views, part_number}
use Rattle.alb_table.proofs.PartLemmas.{stored_part, part_none}
use Rattle.alb_table.proofs.TableLemmas.{parts_long, types_ascend}
use Rattle.alb_table.proofs.FindLemmas.{absent_long}
use Rattle.alb_table.proofs.tables.Tables.origins.Goals as goal

pub returns-then-counts : goal.returns-then-counts
returns-then-counts c =
    let s = c.self.inside in
    let p : views s.store ≡ c.args.self.now.parts = ap (λ t. t.parts) c.self.view_is in
    let a : length c.counts.result.now ≡ length c.args.t.now = ap length c.counts.ensures.value in
    let b : length c.counts-2.result.now ≡ length s.target = ap length c.counts-2.ensures.value in
    let f : part_number 0 (views s.store) c.args.t.now ≡ None =
    absent_long (views s.store) (length s.target) c.args.t.now (parts_long (record { p = s.field; target = s.target; degree = s.degree; parts = views s.store }) c.self.invariant.table)
    (λ e. absurd (omega arith)) in
    sym (rw p at (part_none (views s.store) c.args.t.now 0 f).1)

pub find_part-requires-clause-long : goal.find_part-requires-clause-long
find_part-requires-clause-long c =
    let s = c.self.inside in
    let e : length c.args.t.now ≡ length s.target = sym (ap length c.counts.ensures.value) ∙ c.if-counts.false ∙ ap length c.counts-2.ensures.value in
    rw (c.deref.ensures.value, e) (parts_long (record { p = s.field; target = s.target; degree = s.degree; parts = views s.store }) c.self.invariant.table)

pub find_part-requires-clause-ascends : goal.find_part-requires-clause-ascends
find_part-requires-clause-ascends c =
    let s = c.self.inside in
    rw c.deref.ensures.value (types_ascend (record { p = s.field; target = s.target; degree = s.degree; parts = views s.store }) c.self.invariant.table)

pub index-requires : goal.index-requires
index-requires c =
    let s = c.self.inside.store in
    let f : part_number 0 (views s) c.args.t.now ≡ Some c.in-Some.k = search rules in
    let e : c.in-Some.k < length s.parts.items = (stored_part s.parts.items c.args.t.now c.in-Some.k c.self.invariant.store.stored f).0 in
    search rules

pub returns-in-None : goal.returns-in-None
returns-in-None c =
    let s = c.self.inside.store in
    let p : views s ≡ c.args.self.now.parts = ap (λ t. t.parts) c.self.view_is in
    let f : part_number 0 (views s) c.args.t.now ≡ None = search rules in
    sym (rw p at (part_none (views s) c.args.t.now 0 f).1)

pub returns-in-Some : goal.returns-in-Some
returns-in-Some c =
    let s = c.self.inside.store in
    let p : views s ≡ c.args.self.now.parts = ap (λ t. t.parts) c.self.view_is in
    let f : part_number 0 (views s) c.args.t.now ≡ Some c.in-Some.k = search rules in
    let o = (stored_part s.parts.items c.args.t.now c.in-Some.k c.self.invariant.store.stored f).1 c.index.result.now in
    let e : map origin_view c.deref-in-Some-2.result.now ≡ origins_at (views s) c.args.t.now =
    rw (c.deref-in-Some-2.ensures.value, c.deref-in-Some.ensures, c.index.ensures) (sym o.origins) in
    e ∙ ap (λ ps. origins_at ps c.args.t.now) p
