use Rattle.std.proofs.Common.{◌++◌, map}
use Rattle.alb_linear.proofs.OrderLemmas.{flat_next}
use Rattle.alb_linear.proofs.orders.all_joined.Goals as goal

pub loop-first-preserved : goal.loop-first-preserved
loop-first-preserved c =
    flat_next (λ a. map (λ b. a ++ b) c.args.seconds.now) c.args.firsts.now c.loop-first.first-index c.first-item.result _ _ c.loop-first-test.true c.first-item.is c.loop-first.invariant c.in_ok-push_joined.ensures
