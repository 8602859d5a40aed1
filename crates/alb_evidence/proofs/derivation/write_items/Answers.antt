use Rattle.std.proofs.Common.{arith, refl}
use Rattle.std.specs.List.{flat_map}
use Rattle.std.proofs.lemmas.List.{at_drop_all}
use Rattle.alb_evidence.specs.Texts.{item_text}
use Rattle.alb_print.proofs.Pieces.{flat-get}
use Rattle.alb_io.proofs.Writers.{Writes-exit, Writing-start, Writing-more, Writing-fails, Writing-all}
use Rattle.alb_evidence.proofs.derivation.write_items.Goals as goal

pub loop-item-init : goal.loop-item-init
loop-item-init g c = Writing-start _ refl

pub returns-in_err-write_item : goal.returns-in_err-write_item
returns-in_err-write_item g c =
    let here = flat-get (item_text c.args.field.now) c.args.items.now c.loop-item.item-index (0, 0) c.loop-item-test.true in
    Writes-exit _ _ c.from_residual.ensures.1 (Writing-fails _ c.loop-item.invariant c.in_err-write_item.ensures here)

pub loop-item-preserved : goal.loop-item-preserved
loop-item-preserved g c =
    let here = flat-get (item_text c.args.field.now) c.args.items.now c.loop-item.item-index (0, 0) c.loop-item-test.true in
    Writing-more c.loop-item.invariant c.in_ok-write_item.ensures here

pub returns : goal.returns
returns g c = Writing-all c.loop-item.invariant (at_drop_all (flat_map (item_text c.args.field.now)) c.args.items.now c.loop-item.item-index (omega arith))
