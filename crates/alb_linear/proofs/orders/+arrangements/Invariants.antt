use Rattle.std.proofs.Common.{length}
use Rattle.alb_linear.proofs.orders.+arrangements.Given as goal

abbrev pub decreases-arrangements : goal.decreases-arrangements
decreases-arrangements l = length l.e.now
