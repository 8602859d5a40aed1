use Rattle.std.proofs.Common.{rules, ◌≡◌, ◌∙◌, sym, ap, ◌<◌, length, subst, refl, []}
use Rattle.std.specs.Prelude.{Some, None, IfSome, IfNone, Option}
use Rattle.std.specs.List.{flat_map}
use Rattle.alb_rows.specs.Row.{Cells}
use Rattle.alb_table.specs.Grid.{cells_of}
use Rattle.alb_table.specs.Table.{find_entry, entries_at, entry_of, products, Table, IsTable}
use Rattle.alb_table.specs.Views.{views, part_number}
use Rattle.alb_table.proofs.PartLemmas.{plus_small, stored_part, part_none, Found, entry_found}
use Rattle.alb_table.proofs.GridLemmas.{find_empty}
use Rattle.alb_table.proofs.TableLemmas.{entry_exists, entry_covers, entry_vector, match_from, some_from, parts_long, types_ascend}
use Rattle.alb_mono.proofs.TypeLemmas.{length-type_plus}
use Rattle.alb_table.proofs.tables.Tables.product.Goals as goal
use Rattle.alb_table.proofs.tables.Tables.product.Goals.{After-deref-in-Some-2}

pub plus-t-requires-clause-room : goal.plus-t-requires-clause-room
plus-t-requires-clause-room c = plus_small _ _ (c.type_at.ensures.long ∙ sym c.type_at-2.ensures.long) c.type_at.ensures.small c.type_at-2.ensures.small

pub find_part-requires-clause-long : goal.find_part-requires-clause-long
find_part-requires-clause-long c =
    let s = c.self.inside in
    let e : length c.plus-t.result ≡ length s.target =
    ap length c.plus-t.ensures ∙ length-type_plus c.type_at.result.now c.type_at-2.result.now (c.type_at.ensures.long ∙ sym c.type_at-2.ensures.long) ∙ c.type_at.ensures.long
    ∙ sym (ap (λ (t : Table). length t.target) c.self.view_is) in
    rw (c.deref.ensures.value, e) (parts_long (record { p = s.field; target = s.target; degree = s.degree; parts = views s.store }) c.self.invariant.table)

pub find_part-requires-clause-ascends : goal.find_part-requires-clause-ascends
find_part-requires-clause-ascends c =
    let s = c.self.inside in
    rw c.deref.ensures.value (types_ascend (record { p = s.field; target = s.target; degree = s.degree; parts = views s.store }) c.self.invariant.table)

pub index-requires : goal.index-requires
index-requires c =
    let s = c.self.inside.store in
    let f : part_number 0 (views s) c.plus-t.result ≡ Some c.in-Some.k = search rules in
    let e : c.in-Some.k < length s.parts.items = (stored_part s.parts.items c.plus-t.result c.in-Some.k c.self.invariant.store.stored f).0 in
    search rules

-- the part that was found
found : (c : After-deref-in-Some-2) → Found c.self.inside.store.parts.items c.plus-t.result c.in-Some.k c.index.result.now
found c =
    let s = c.self.inside.store in
    let f : part_number 0 (views s) c.plus-t.result ≡ Some c.in-Some.k = search rules in
    (stored_part s.parts.items c.plus-t.result c.in-Some.k c.self.invariant.store.stored f).1 c.index.result.now

pub entry_in-requires-clause-full : goal.entry_in-requires-clause-full
entry_in-requires-clause-full c =
    let f = found c in
    rw (c.deref-in-Some.ensures.value, c.deref-in-Some-2.ensures.value, c.deref-stored.ensures, c.index.ensures) (f.full ∙ ap length (sym f.grids))

pub entry_in-requires-clause-offsets : goal.entry_in-requires-clause-offsets
entry_in-requires-clause-offsets c = rw (c.deref-in-Some.ensures.value, c.deref-stored.ensures, c.index.ensures) (found c).offsets

pub returns-in-None-clause-none : goal.returns-in-None-clause-none
returns-in-None-clause-none c =
    let s = c.self.inside.store in
    let p : views s ≡ c.args.self.now.parts = ap (λ t. t.parts) c.self.view_is in
    let f : part_number 0 (views s) c.plus-t.result ≡ None = search rules in
    let e : entries_at c.args.self.now.parts c.plus-t.result ≡ [] = rw p at (part_none (views s) c.plus-t.result 0 f).0 in
    entry_found c.args.self.now.parts c.args.b c.args.c _ _ c.plus-t.result _ [] c.type_at.ensures.value c.type_at-2.ensures.value c.plus-t.ensures refl (sym e)
    ∙ find_empty _ _

pub returns-in-None-clause-exactly : goal.returns-in-None-clause-exactly
returns-in-None-clause-exactly c =
    let t : IsTable c.args.self.now = subst IsTable c.self.view_is c.self.invariant.table in
    entry_exists c.args.self.now c.args.b c.args.c t c.requires.left c.requires.right (returns-in-None-clause-none c)

pub entry_in-requires-clause-rises : goal.entry_in-requires-clause-rises
entry_in-requires-clause-rises c = rw (c.deref-in-Some.ensures.value, c.deref-stored.ensures, c.index.ensures) (found c).rises

-- the entry is that among the stored ones
same : (c : After-deref-in-Some-2) → entry_of c.args.self.now.parts c.args.b c.args.c
    ≡ find_entry (c.args.b, c.args.c) (flat_map cells_of c.deref-in-Some.result.now) c.deref-in-Some-2.result.now
same c =
    let s = c.self.inside.store in
    let p : views s ≡ c.args.self.now.parts = ap (λ t. t.parts) c.self.view_is in
    let f = found c in
    let g : flat_map cells_of c.deref-in-Some.result.now ≡ products (views s) c.plus-t.result =
    rw (c.deref-in-Some.ensures.value, c.deref-stored.ensures, c.index.ensures) f.grids in
    let e : c.deref-in-Some-2.result.now ≡ entries_at (views s) c.plus-t.result =
    rw (c.deref-in-Some-2.ensures.value, c.deref-stored.ensures, c.index.ensures) (sym f.entries) in
    entry_found c.args.self.now.parts c.args.b c.args.c _ _ c.plus-t.result _ _ c.type_at.ensures.value c.type_at-2.ensures.value c.plus-t.ensures
    (g ∙ ap (λ ps. products ps c.plus-t.result) p) (e ∙ ap (λ ps. entries_at ps c.plus-t.result) p)

pub returns-in-Some-clause-some : goal.returns-in-Some-clause-some
returns-in-Some-clause-some c = subst (λ (e : Option Cells). IfSome c.entry_in.result (λ r. e ≡ Some r.now)) (sym (same c.before)) c.entry_in.ensures.some

pub returns-in-Some-clause-none : goal.returns-in-Some-clause-none
returns-in-Some-clause-none c = subst (λ (e : Option Cells). IfNone c.entry_in.result (e ≡ None)) (sym (same c.before)) c.entry_in.ensures.none

pub returns-in-Some-clause-row : goal.returns-in-Some-clause-row
returns-in-Some-clause-row c =
    let t : IsTable c.args.self.now = subst IsTable c.self.view_is c.self.invariant.table in
    some_from c.entry_in.result _ _ (returns-in-Some-clause-some c) (λ r q. entry_vector c.args.self.now c.args.b c.args.c r.now t q)

pub returns-in-Some-clause-exactly : goal.returns-in-Some-clause-exactly
returns-in-Some-clause-exactly c =
    let t : IsTable c.args.self.now = subst IsTable c.self.view_is c.self.invariant.table in
    match_from c.entry_in.result _ _ _ (returns-in-Some-clause-some c) (returns-in-Some-clause-none c)
    (λ r q. entry_covers c.args.self.now c.args.b c.args.c r.now t q) (λ n. entry_exists c.args.self.now c.args.b c.args.c t c.requires.left c.requires.right n)
