use Rattle.std.proofs.Common.{arith, refl}
use Rattle.std.specs.List.{flat_map}
use Rattle.std.proofs.lemmas.List.{at_drop_all}
use Rattle.alb_io.proofs.Writers.{Writes-exit, Writing-start, Writing-more, Writing-fails, Writing-all}
use Rattle.alb_print.proofs.Counts.{later_count}
use Rattle.alb_print.proofs.Pieces.{flat-get}
use Rattle.alb_print.proofs.multi.write_later_counts.Goals as goal

pub loop-count-init : goal.loop-count-init
loop-count-init g c = Writing-start _ refl

pub returns-in_err-write_later_count : goal.returns-in_err-write_later_count
returns-in_err-write_later_count g c =
    Writes-exit _ _ c.from_residual.ensures.1
    (Writing-fails _ c.loop-count.invariant c.in_err-write_later_count.ensures (flat-get later_count c.args.counts.now c.loop-count.count-index 0 c.loop-count-test.true))

pub loop-count-preserved : goal.loop-count-preserved
loop-count-preserved g c =
    Writing-more c.loop-count.invariant c.in_ok-write_later_count.ensures (flat-get later_count c.args.counts.now c.loop-count.count-index 0 c.loop-count-test.true)

pub returns : goal.returns
returns g c = Writing-all c.loop-count.invariant (at_drop_all (flat_map later_count) c.args.counts.now c.loop-count.count-index (omega arith))
