use Rattle.std.proofs.Common.{◌≡◌, ◌++◌, take}
use Rattle.alb_poly.specs.Instance.{insertions}
use Rattle.alb_linear.proofs.orders.push_insertions.Given as goal

abbrev pub invariant-loop-at : goal.invariant-loop-at
invariant-loop-at l = l.out.items ≡ l.initial.out.items ++ take l.at (insertions l.x l.ys)
