use Rattle.std.proofs.Common.{◌≡◌, ◌++◌}
use Rattle.alb_table.specs.Table.{rectangle}
use Rattle.alb_subst.proofs.products.push_rectangle.Given as goal

abbrev pub invariant-loop-k : goal.invariant-loop-k
invariant-loop-k l = l.out.items ≡ l.initial.out.items ++ rectangle l.left.0 l.k l.right.0 l.right.1
