use Rattle.gf_field.proofs.Table.{IsPrime-from_table, IsUnit-below_prime}
use Rattle.gf_field.proofs.laws.nonzero_residues_are_units.Goals as goal

pub returns : goal.returns
returns c p x h low high = IsUnit-below_prime p x (IsPrime-from_table p h) low high
