use Rattle.std.proofs.Common.{◌∙◌, arith}
use Rattle.std.proofs.lemmas.Simd.{length-zip2}
use Rattle.gf_lanes.proofs.vectors.wrapping_plus.Goals as goal

pub returns-clause-len : goal.returns-clause-len
returns-clause-len c = length-zip2 _ c.args.a c.args.b (omega arith) ∙ c.requires.lengths.0
