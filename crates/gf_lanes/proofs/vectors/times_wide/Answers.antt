use Rattle.std.proofs.Common.{arith, ◌∙◌}
use Rattle.std.proofs.lemmas.Simd.{length-zip2}
use Rattle.gf_lanes.proofs.LaneLemmas.{pairs_by_index}
use Rattle.gf_lanes.proofs.vectors.times_wide.Goals as goal

pub overflow_mul-result : goal.overflow_mul-result
overflow_mul-result c = pairs_by_index _ c.args.a c.args.b (omega arith) (λ i l. record { fits = c.requires.fits i (omega arith) })

pub returns-clause-len : goal.returns-clause-len
returns-clause-len c = length-zip2 _ c.args.a c.args.b (omega arith) ∙ c.requires.lengths.0
