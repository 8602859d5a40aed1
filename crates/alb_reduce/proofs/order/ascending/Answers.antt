use Rattle.std.proofs.Common.{◌∙◌, sym}
use Rattle.alb_reduce.proofs.EchelonLemmas.{ascending_none, ascending_skip, ascending_more}
use Rattle.alb_reduce.proofs.PlaceLemmas.{place_contains, place_misses}
use Rattle.alb_reduce.proofs.order.ascending.Goals as goal
use Rattle.alb_reduce.proofs.order.ascending.Goals.{then-is_some+in_ok-push, else-is_some}

pub loop-column-init : goal.loop-column-init
loop-column-init c = λ order index. rw c.new-pivots.ensures.items (ascending_none order)

pub loop-column-preserved : goal.loop-column-preserved
loop-column-preserved c order index =
    elim c.if-is_some.branch [
      | then-is_some+in_ok-push w ↦
          rw (w.pivots-is, w.in_ok-push.ensures.items)
          (ascending_more order _ _ (c.loop-column.invariant order index)
          (place_contains order c.loop-column.column c.place_of.result (c.place_of.ensures order index) (sym c.is_some.ensures ∙ w.if-is_some.true)))
      | else-is_some w ↦
          rw w.pivots-is
          (ascending_skip order _ _ (c.loop-column.invariant order index)
          (place_misses order c.loop-column.column c.place_of.result (c.place_of.ensures order index) (sym c.is_some.ensures ∙ w.if-is_some.false)))
    ]
