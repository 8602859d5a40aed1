use Rattle.std.proofs.Common.{◌∙◌, ◌*◌, get_or, arith}
use Rattle.std.proofs.Math.Nat.{add-mod-mod}
use Rattle.gf_lanes.proofs.LoopLemmas.{one_more}
use Rattle.gf_lanes.proofs.sums.axpy.Goals as goal

pub loop-at-preserved : goal.loop-at-preserved
loop-at-preserved c =
    one_more _ _ _ _ _ c.loop-at.invariant (omega arith) (omega arith)
    (c.add.ensures.value
    ∙ rw (c.mul.ensures.value, c.loop-at.invariant.rest c.loop-at.at (omega arith))
    (add-mod-mod (get_or c.args.dst.now c.loop-at.at 0) (c.args.c * get_or c.args.src.now c.loop-at.at 0) c.args.field.now))
