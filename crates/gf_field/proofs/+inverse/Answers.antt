use Rattle.std.proofs.Common.{◌≢◌, ◌%◌, ◌<◌, arith}
use Rattle.std.proofs.Math.Nat.{mod-lt}
use Rattle.gf_field.proofs.Table.{IsPrime-from_table, step}
use Rattle.gf_field.proofs.+inverse.Goals as goal

pub inverse-below-requires : goal.inverse-below-requires
inverse-below-requires t c =
    let prime = IsPrime-from_table c.field.inside.p c.field.invariant in
    let high : c.args.x < c.field.inside.p = rw c.field.view_is c.requires.residue in
    let nz : c.field.inside.p % c.args.x ≢ 0 = prime.no_divisor c.args.x (omega arith) high in
    let small : c.field.inside.p % c.args.x < c.args.x = mod-lt c.field.inside.p (omega arith) in
    (omega arith, (omega arith, omega arith))

pub returns-else-x-eq1-clause-value : goal.returns-else-x-eq1-clause-value
returns-else-x-eq1-clause-value t c =
    let h = rw (← c.field.view_is) at c.inverse-below.ensures.value in
    rw (← c.field.view_is) (step c.field.inside.p c.args.x c.inverse-below.result (omega arith) h)
