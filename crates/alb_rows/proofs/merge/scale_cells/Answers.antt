use Rattle.alb_rows.proofs.RowLemmas.{scaled_more}
use Rattle.alb_rows.proofs.merge.scale_cells.Goals as goal

pub loop-x-preserved : goal.loop-x-preserved
loop-x-preserved c = scaled_more _ _ _ _ _ _ c.loop-x-test.true c.loop-x.invariant c.mul-x.ensures.value
