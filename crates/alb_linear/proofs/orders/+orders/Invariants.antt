use Rattle.std.proofs.Common.{length}
use Rattle.alb_linear.proofs.orders.+orders.Given as goal

abbrev pub decreases-orders : goal.decreases-orders
decreases-orders l = length l.xs.now
