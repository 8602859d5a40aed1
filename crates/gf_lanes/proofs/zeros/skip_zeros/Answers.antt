use Rattle.std.proofs.Common.{arith}
use Rattle.gf_lanes.proofs.ZeroLemmas.{zeros_more}
use Rattle.gf_lanes.proofs.zeros.skip_zeros.Goals as goal

pub loop-at-preserved : goal.loop-at-preserved
loop-at-preserved c = record {
  within = omega arith;
  zeros = zeros_more c.args.xs.now c.loop-at.at c.loop-at.invariant.zeros (omega arith) (omega (arith, c.zeros_before.ensures));
}
