use Rattle.alb_reduce.proofs.LaneLemmas.{index_next}
use Rattle.alb_reduce.proofs.places.slots_of.Goals as goal

pub loop-i-preserved : goal.loop-i-preserved
loop-i-preserved c = index_next c.args.live.now _ _ c.loop-i.i c.requires c.loop-i-test.true c.loop-i.invariant c.in_ok-put_place.ensures
