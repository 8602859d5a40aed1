use Rattle.std.proofs.Common.{◌∙◌, arith}
use Rattle.alb_reduce.proofs.StateLemmas.{tags_below}
use Rattle.test_algebra.proofs.elimination.reduced.Goals as goal

pub loop-k-preserved : goal.loop-k-preserved
loop-k-preserved c =
    let next = c.in_ok-next.ensures in (
      next.same.0 ∙ c.loop-k.invariant.0,
      next.same.1 ∙ c.loop-k.invariant.1,
      tags_below _ _ _ _ _ _ c.loop-k.invariant.2 next.offers (omega arith),
    )
