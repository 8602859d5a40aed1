use Rattle.std.proofs.Common.{arith}
use Rattle.gf_lanes.proofs.TableLemmas.{small_from_table}
use Rattle.gf_lanes.proofs.vectors.modulus.Goals as goal

pub returns-clause-small : goal.returns-clause-small
returns-clause-small c = omega (arith, small_from_table c.args.field.now c.p.ensures.listed, c.p.ensures.value)
