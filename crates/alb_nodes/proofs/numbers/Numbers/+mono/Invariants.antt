use Rattle.alb_nodes.proofs.numbers.Numbers.+mono.Given as goal

abbrev pub decreases-mono : goal.decreases-mono
decreases-mono l = l.k
