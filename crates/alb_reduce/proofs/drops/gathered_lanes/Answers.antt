use Rattle.std.proofs.Common.{rules}
use Rattle.alb_reduce.proofs.DropLemmas.{gather-more}
use Rattle.alb_reduce.proofs.drops.gathered_lanes.Goals as goal

pub loop-k-preserved : goal.loop-k-preserved
loop-k-preserved c = rw c.in_ok-push.ensures.items (gather-more c.args.places.now c.args.lanes.now _ c.loop-k.k _ c.loop-k-test.true c.loop-k.invariant (search rules))
