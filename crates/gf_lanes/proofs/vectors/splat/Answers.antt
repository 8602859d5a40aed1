use Rattle.std.proofs.lemmas.Simd.{get_or-replicate}
use Rattle.gf_lanes.proofs.vectors.splat.Goals as goal

pub returns-clause-value : goal.returns-clause-value
returns-clause-value c i l = get_or-replicate 32 i c.args.x 0 l
