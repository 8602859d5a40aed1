use Rattle.std.proofs.Common.{◌≡◌, take}
use Rattle.std.specs.List.{flat_map}
use Rattle.alb_poly.specs.Instance.{insertions}
use Rattle.alb_linear.proofs.orders.all_insertions.Given as goal

abbrev pub invariant-loop-ys : goal.invariant-loop-ys
invariant-loop-ys l = l.out.items ≡ flat_map (insertions l.x) (take l.ys-index l.lists)
