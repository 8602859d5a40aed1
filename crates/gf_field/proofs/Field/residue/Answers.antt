use Rattle.std.proofs.Common.{◌<◌, arith}
use Rattle.std.proofs.lemmas.Int.{ints}
use Rattle.gf_field.proofs.Table.{IsPrime-from_table}
use Rattle.gf_field.proofs.Field.residue.Goals as goal

pub rem_euclid-requires-clause-nonzero : goal.rem_euclid-requires-clause-nonzero
rem_euclid-requires-clause-nonzero c =
    let h : 1 < c.self.inside.p = (IsPrime-from_table c.self.inside.p c.self.invariant).above_one in
    grind (arith, ints)
