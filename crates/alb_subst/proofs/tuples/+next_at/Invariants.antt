use Rattle.std.proofs.Common.{◌-◌, length}
use Rattle.alb_subst.proofs.tuples.+next_at.Given as goal

abbrev pub decreases-next_at : goal.decreases-next_at
decreases-next_at l = length l.current.now.items - l.i
