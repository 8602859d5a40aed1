use Rattle.std.proofs.Common.{rules, ◌≡◌, ap, arith, length}
use Rattle.alb_mono.specs.Tree.{types_of}
use Rattle.alb_table.proofs.FirstLemmas.{first_few}
use Rattle.alb_table.proofs.build.first_parts.Goals as goal

pub overflow_cast-k : goal.overflow_cast-k
overflow_cast-k c =
    let a = first_few c.args.target.now c.requires in
    let b : length c.in_ok-types.types.items ≡ length (types_of c.args.target.now 1) = ap length c.in_ok-types.ensures in
    let n : c.len-k-end.result ≡ length c.in_ok-types.types.items = search rules in
    omega (arith, a, b)
