use Rattle.std.proofs.Common.{◌∙◌, ◌+◌, ◌-◌, ◌/◌, sym, refl, arith, length, get_or}
use Rattle.alb_table.proofs.RiseLemmas.{narrows_start, narrows_step, narrows_found, narrows_none, no_grid}
use Rattle.alb_table.proofs.find.find_grid.Goals as goal

pub loop-low-init : goal.loop-low-init
loop-low-init c = narrows_start c.args.grids.now c.args.b c.args.c (length c.args.grids.now) refl

pub loop-low-preserved : goal.loop-low-preserved
loop-low-preserved c =
    narrows_step c.args.grids.now (get_or c.args.grids.now (c.loop-low.low + (c.loop-low.high - c.loop-low.low) / 2) no_grid) c.args.b c.args.c c.loop-low.low c.loop-low.high
    (c.loop-low.low + (c.loop-low.high - c.loop-low.low) / 2) c.stepped-next.result.0 c.stepped-next.result.1 c.requires c.loop-low.invariant (omega arith) (omega arith) refl
    (sym c.covers.ensures ∙ c.if-covers.false) c.stepped-next.ensures.after c.stepped-next.ensures.before

pub returns-then-covers : goal.returns-then-covers
returns-then-covers c =
    sym (narrows_found c.args.grids.now (get_or c.args.grids.now (c.loop-low.low + (c.loop-low.high - c.loop-low.low) / 2) no_grid) c.args.b c.args.c c.loop-low.low c.loop-low.high
    (c.loop-low.low + (c.loop-low.high - c.loop-low.low) / 2) c.requires c.loop-low.invariant (omega arith) refl (sym c.covers.ensures ∙ c.if-covers.true))

pub returns : goal.returns
returns c = sym (narrows_none c.args.grids.now c.args.b c.args.c c.loop-low.low c.loop-low.high c.loop-low.invariant (omega arith))
