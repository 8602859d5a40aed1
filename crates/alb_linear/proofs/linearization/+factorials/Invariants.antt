use Rattle.std.proofs.Common.{length}
use Rattle.alb_linear.proofs.linearization.+factorials.Given as goal

abbrev pub decreases-factorials : goal.decreases-factorials
decreases-factorials l = length l.e.now
