use Rattle.std.proofs.Common.{refl, ◌*◌}
use Rattle.gf_field.proofs.Mod.{plus, same, of_mod}
use Rattle.gf_lanes.proofs.lazy.lazy_sum.Goals as goal

pub returns-clause-same : goal.returns-clause-same
returns-clause-same c = plus (same {a = c.args.d} refl) (of_mod (c.args.c * c.args.s))
