use Rattle.std.proofs.Common.{◌∙◌, ◌++◌, length, ap, arith}
use Rattle.std.proofs.lemmas.List.{take_all}
use Rattle.alb_linear.proofs.OrderLemmas.{insertions_more, length-insertions}
use Rattle.alb_linear.proofs.orders.push_insertions.Goals as goal

pub loop-at-preserved : goal.loop-at-preserved
loop-at-preserved c =
    insertions_more c.args.x c.args.ys.now c.loop-at.at _ _ _ (omega (arith, ap length c.list.ensures.value)) c.loop-at.invariant (rw c.with.ensures at c.in_ok-push.ensures.items)

pub returns : goal.returns
returns c =
    c.loop-at.invariant
    ∙ ap (λ q. c.args.out.now.items ++ q) (take_all c.loop-at.at _ (omega (arith, length-insertions c.args.x c.args.ys.now, ap length c.list.ensures.value)))
