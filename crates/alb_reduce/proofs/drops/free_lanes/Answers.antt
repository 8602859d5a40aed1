use Rattle.std.proofs.Common.{get_or, rules}
use Rattle.alb_reduce.proofs.DropLemmas.{free-none, free-skip, free-more, place-taken}
use Rattle.alb_reduce.proofs.drops.free_lanes.Goals as goal
use Rattle.alb_reduce.proofs.drops.free_lanes.Goals.{then-is_none+in_ok-push, else-is_none}

pub loop-i-init : goal.loop-i-init
loop-i-init c = λ pivots index. rw c.new-lanes.ensures.items (free-none c.args.live.now pivots)

pub loop-i-preserved : goal.loop-i-preserved
loop-i-preserved c pivots index =
    elim c.if-is_none.branch [
      | then-is_none+in_ok-push w ↦ rw (w.lanes-is, w.in_ok-push.ensures.items) (free-more c.args.live.now pivots _ _ (c.loop-i.invariant pivots index))
      | else-is_none w ↦
          rw w.lanes-is
          (free-skip c.args.live.now pivots _ _ (c.loop-i.invariant pivots index)
          (place-taken pivots (get_or c.args.live.now c.loop-i.i 0) c.place_of.result (c.place_of.ensures pivots index) (search rules)))
    ]
