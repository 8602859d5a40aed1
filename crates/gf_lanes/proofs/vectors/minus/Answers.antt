use Rattle.std.proofs.Common.{arith, ◌∙◌}
use Rattle.std.proofs.lemmas.Simd.{length-zip2}
use Rattle.gf_lanes.proofs.LaneLemmas.{pairs_by_index}
use Rattle.gf_lanes.proofs.vectors.minus.Goals as goal

pub overflow_sub-result : goal.overflow_sub-result
overflow_sub-result c = pairs_by_index _ c.args.a c.args.b (omega arith) (λ i l. c.requires.fits i (omega arith))

pub returns-clause-len : goal.returns-clause-len
returns-clause-len c = length-zip2 _ c.args.a c.args.b (omega arith) ∙ c.requires.lengths.0
