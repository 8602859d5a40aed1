use Rattle.std.proofs.Common.{rules, arith, ◌≡◌, ◌+◌, length, sym, subst, ap, List}
use Rattle.alb_table.specs.Table.{elems}
use Rattle.alb_table.specs.declared.part.Part.{Part}
use Rattle.alb_block.specs.View.{block_view}
use Rattle.alb_build.specs.Part.{FitsBlock}
use Rattle.alb_build.proofs.PartsSteps.{Makes, makes-start, makes-next, makes-more, makes-next_room, makes-room}
use Rattle.alb_build.proofs.part.parts_of.Goals as goal

pub loop-block-init : goal.loop-block-init
loop-block-init c =
    subst (λ (ps : List Part). Makes c.args.tables.now.p (length (elems c.args.tables.now.parts)) c.args.blocks.items ps c.len-first.result c.reverse.new.self.items)
    (sym c.new-parts.ensures.items)
    (makes-start c.args.tables.now.p (length (elems c.args.tables.now.parts)) c.len-first.result c.args.blocks.items c.reverse.new.self.items c.reverse.ensures.items c.len-first.ensures
    c.requires.fit)

pub part_of-requires-clause-fits : goal.part_of-requires-clause-fits
part_of-requires-clause-fits c =
    subst (λ p. FitsBlock p (block_view c.in-Some.block)) (sym c.field.ensures)
    (makes-next c.args.tables.now.p (length (elems c.args.tables.now.parts)) c.loop-block.first c.args.blocks.items c.loop-block.parts.items c.loop-block.left.items c.pop.new.self.items
    c.in-Some.block c.loop-block.invariant c.in-Some.ensures.items)

pub part_of-requires-clause-room : goal.part_of-requires-clause-room
part_of-requires-clause-room c =
    makes-room c.args.tables.now.p (length (elems c.args.tables.now.parts)) c.loop-block.first c.args.blocks.items c.loop-block.parts.items c.loop-block.left.items c.pop.new.self.items
    c.in-Some.block c.loop-block.invariant c.in-Some.ensures.items c.requires.room

pub overflow_cast-first : goal.overflow_cast-first
overflow_cast-first c =
    let e : c.len.result ≡ length c.in_ok-part.part.basis.items = search rules in
    let r = makes-next_room c.args.tables.now.p (length (elems c.args.tables.now.parts)) c.loop-block.first c.args.blocks.items c.loop-block.parts.items c.loop-block.left.items c.pop.new.self.items
    c.in-Some.block c.in_ok-part.part c.loop-block.invariant c.in-Some.ensures.items c.requires.room c.in_ok-part.ensures in
    omega arith

pub overflow_add-first : goal.overflow_add-first
overflow_add-first c =
    let e : c.len.result ≡ length c.in_ok-part.part.basis.items = search rules in
    let r = makes-next_room c.args.tables.now.p (length (elems c.args.tables.now.parts)) c.loop-block.first c.args.blocks.items c.loop-block.parts.items c.loop-block.left.items c.pop.new.self.items
    c.in-Some.block c.in_ok-part.part c.loop-block.invariant c.in-Some.ensures.items c.requires.room c.in_ok-part.ensures in
    omega arith

pub loop-block-preserved : goal.loop-block-preserved
loop-block-preserved c =
    let e : c.len.result ≡ length c.in_ok-part.part.basis.items = search rules in
    makes-more c.args.tables.now.p (length (elems c.args.tables.now.parts)) c.loop-block.first (c.loop-block.first + c.len.result) c.args.blocks.items c.loop-block.parts.items
    c.push.new.self.items c.loop-block.left.items c.pop.new.self.items c.in-Some.block c.in_ok-part.part c.loop-block.invariant c.in-Some.ensures.items c.in_ok-part.ensures
    (ap (λ n. c.loop-block.first + n) e) c.in_ok-push.ensures.items
