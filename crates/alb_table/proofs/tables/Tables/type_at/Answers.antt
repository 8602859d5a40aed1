use Rattle.std.proofs.Common.{rules, ◌≡◌, ◌∙◌, sym, ap, subst, ◌≤◌, arith, ◌<◌, ℕ, List, length, All}
use Rattle.alb_table.specs.Table.{elems, type_at, IsTable}
use Rattle.alb_table.specs.Views.{view_of, views}
use Rattle.alb_table.proofs.PartLemmas.{element_part, length-numbers}
use Rattle.alb_table.proofs.TableLemmas.{type_small}
use Rattle.alb_table.proofs.tables.Tables.type_at.Goals as goal
use Rattle.alb_table.proofs.tables.Tables.type_at.Goals.{After-deref}

pub index-requires : goal.index-requires
index-requires c =
    let s = c.self.inside.store in
    let n : length s.part_of.items ≡ length (elems (views s)) = ap length c.self.invariant.store.numbers ∙ length-numbers 0 (views s) in
    let h : c.args.b < length (elems (views s)) = rw (← c.self.view_is) at c.requires in
    let e : c.args.b < length s.part_of.items = omega arith in
    search rules

pub index-requires-2 : goal.index-requires-2
index-requires-2 c =
    let s = c.self.inside.store in
    let h : c.args.b < length (elems (views s)) = rw (← c.self.view_is) at c.requires in
    let q = rw c.self.invariant.store.numbers at c.index.ensures in
    let e : c.index.result.now < length s.parts.items = (element_part s.parts.items c.args.b c.index.result.now _ h q).0 in
    search rules

value : (c : After-deref) → c.deref.result.now.part.at ≡ type_at c.args.self.now.parts c.args.b
value c =
    let s = c.self.inside.store in
    let h : c.args.b < length (elems (views s)) = rw (← c.self.view_is) at c.requires in
    let q = rw c.self.invariant.store.numbers at c.index.ensures in
    let e = (element_part s.parts.items c.args.b c.index.result.now _ h q).1 c.index-2.result.now in
    rw (← c.self.view_is, c.deref.ensures) (ap (λ a. (view_of a).at) c.index-2.ensures ∙ e)

small : (c : After-deref) → (length c.deref.result.now.part.at ≡ length c.args.self.now.target) × All (λ k. k ≤ 12) c.deref.result.now.part.at
small c =
    let t : IsTable c.args.self.now = subst IsTable c.self.view_is c.self.invariant.table in
    let r = type_small c.args.self.now c.args.b t c.requires in
    (ap length (value c) ∙ r.0, subst (λ (w : List ℕ). All (λ k. k ≤ 12) w) (sym (value c)) r.1)

pub returns-clause-value : goal.returns-clause-value
returns-clause-value c = value c

pub returns-clause-long : goal.returns-clause-long
returns-clause-long c = (small c).0

pub returns-clause-small : goal.returns-clause-small
returns-clause-small c = (small c).1
