use Rattle.alb_linear.proofs.linearization.+factorial.Given as goal

abbrev pub decreases-factorial : goal.decreases-factorial
decreases-factorial l = l.n
