use Rattle.std.proofs.Common.{◌≢◌, ◌<◌, ◌∙◌, length, arith, get_or-set_other, get_or-set_same, below_more}
use Rattle.std.proofs.Math.ListN.{length-set}
use Rattle.std.proofs.Common.{ℕ}
use Rattle.alb_linear.proofs.LinearLemmas.{first_more}
use Rattle.alb_linear.proofs.linearization.first_numbers.Goals as goal

pub loop-v-preserved : goal.loop-v-preserved
loop-v-preserved c =
    let lt : c.loop-v.v < length c.loop-v.numbers = omega arith in (
      below_more _ _
          (λ j h. let ne : j ≢ c.loop-v.v = omega arith in rw get_or-set_other (c.loop-v.invariant.0 j h))
          (rw get_or-set_same c.loop-v.invariant.2),
      length-set {A = ℕ} _ _ _ ∙ c.loop-v.invariant.1,
      omega (arith, first_more c.args.e.now c.loop-v.v 0 c.loop-v-test.true, c.loop-v.invariant.2),
    )
