use Rattle.std.proofs.Common.{◌≡◌, drop}
use Rattle.alb_mono.specs.Tree.{type_plus}
use Rattle.alb_poly.specs.Poly.{list_eq}
use Rattle.alb_check.proofs.shape.is_sum.Given as goal

abbrev pub invariant-loop-g : goal.invariant-loop-g
invariant-loop-g l = list_eq l.sums (type_plus l.xs l.ys) ≡ list_eq (drop l.g l.sums) (type_plus (drop l.g l.xs) (drop l.g l.ys))
