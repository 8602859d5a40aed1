use Rattle.std.proofs.Common.{refl}
use Rattle.gf_field.specs.Modular.{is_in_table, primes}
use Rattle.alb_sample.proofs.rules.field_251.Goals as goal

pub unreachable-requires : goal.unreachable-requires
unfolding is_in_table primes
unreachable-requires c = c.in-Err.ensures.1 refl
