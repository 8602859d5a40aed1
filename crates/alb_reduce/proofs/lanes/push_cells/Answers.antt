use Rattle.std.proofs.Common.{◌<◌, length, arith, rules, ◌∙◌}
use Rattle.alb_reduce.proofs.LaneLemmas.{cells_more, cells_skip}
use Rattle.alb_reduce.proofs.lanes.push_cells.Goals as goal
use Rattle.alb_reduce.proofs.lanes.push_cells.Goals.{then-lanes-i-ne0+in_ok-push, else-lanes-i-ne0}

pub loop-i-preserved : goal.loop-i-preserved
loop-i-preserved c =
    let l : c.loop-i.i < length c.args.live.now = omega (arith, c.loop-i-test.true, c.requires) in
    elim c.if-lanes-i-ne0.branch [
      | then-lanes-i-ne0+in_ok-push w ↦
          rw (w.cells-is, w.in_ok-push.ensures.items) (cells_more _ _ _ c.loop-i.i l c.loop-i-test.true (search rules) ∙ c.loop-i.invariant)
      | else-lanes-i-ne0 w ↦ rw w.cells-is (cells_skip _ _ _ c.loop-i.i l c.loop-i-test.true (search rules) ∙ c.loop-i.invariant)
    ]
