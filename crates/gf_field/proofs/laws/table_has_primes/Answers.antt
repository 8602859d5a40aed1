use Rattle.gf_field.proofs.Table.{IsPrime-from_table}
use Rattle.gf_field.proofs.laws.table_has_primes.Goals as goal

pub returns : goal.returns
returns c p h = IsPrime-from_table p h
