use Rattle.alb_mono.specs.Tree.{degree, tree}
use Rattle.alb_linear.proofs.linearization.+placed.Given as goal

abbrev pub decreases-placed : goal.decreases-placed
decreases-placed l = degree (tree l.m.now)
