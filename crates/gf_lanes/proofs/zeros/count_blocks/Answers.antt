use Rattle.std.proofs.Common.{arith}
use Rattle.gf_lanes.proofs.ZeroLemmas.{count_more}
use Rattle.gf_lanes.proofs.zeros.count_blocks.Goals as goal

pub loop-at-preserved : goal.loop-at-preserved
loop-at-preserved c = record {
  within = omega arith;
  value = count_more c.args.xs.now c.loop-at.at _ _ c.loop-at.invariant.value c.count_in.ensures;
}
