use Rattle.std.proofs.Common.{arith}
use Rattle.std.proofs.lemmas.Simd.{Each1-from_get_or}
use Rattle.gf_lanes.proofs.vectors.narrowed.Goals as goal

pub overflow_cast-result : goal.overflow_cast-result
overflow_cast-result c = Each1-from_get_or _ c.args.a 0 (λ i l. record { fits = c.requires.fits i (omega arith) })
