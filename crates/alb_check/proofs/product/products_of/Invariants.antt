use Rattle.std.proofs.Common.{◌-◌, length}
use Rattle.alb_check.proofs.RunLemmas.{Gathers}
use Rattle.alb_check.proofs.product.products_of.Given as goal

abbrev pub invariant-loop-start : goal.invariant-loop-start
invariant-loop-start l = Gathers l.field l.entries l.start l.products.items

abbrev pub decreases-loop-start : goal.decreases-loop-start
decreases-loop-start l = length l.entries - l.start
