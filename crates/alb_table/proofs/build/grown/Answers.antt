use Rattle.std.proofs.Common.{rules, ◌≡◌, []}
use Rattle.alb_table.specs.Views.{views}
use Rattle.alb_table.proofs.PartLemmas.{extends_start, extends_more, extends_next, extends_end}
use Rattle.alb_table.proofs.build.grown.Goals as goal

pub loop-part-init : goal.loop-part-init
loop-part-init c =
    let n : c.in_ok-to_vec.field-0.items ≡ c.args.old.now.part_of.items = search rules in
    let m : c.in_ok-to_vec-2.field-0.items ≡ c.args.old.now.elems.items = search rules in
    extends_start c.args.old.now _ c.args.parts.items c.reverse.new.self.items c.requires.store
    (rw c.deref.ensures.value at c.in_ok-shared.ensures) n m c.reverse.ensures.items c.requires.full

pub push_part-requires-clause-full : goal.push_part-requires-clause-full
push_part-requires-clause-full c =
    rw c.deref-in-Some.ensures.value
    (extends_next (views c.args.old.now) _ c.loop-part.store c.loop-part.left.items c.pop.new.self.items c.in-Some.part c.loop-part.invariant c.in-Some.ensures.items)

pub loop-part-preserved : goal.loop-part-preserved
loop-part-preserved c =
    extends_more (views c.args.old.now) _ c.loop-part.store c.push_part.new.store c.loop-part.left.items c.pop.new.self.items c.in-Some.part c.loop-part.invariant
    c.in-Some.ensures.items (rw c.deref-in-Some.ensures.value at c.in_ok-push_part.ensures)

pub returns : goal.returns
returns c =
    let r : c.loop-part.left.items ≡ [] = search rules in
    extends_end c.args.old.now c.loop-part.store c.args.parts.items c.reverse.new.self.items c.loop-part.left.items c.reverse.ensures.items r c.loop-part.invariant
