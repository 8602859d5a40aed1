use Rattle.alb_nodes.proofs.numbers.Numbers.+occurrences.Given as goal

abbrev pub decreases-occurrences : goal.decreases-occurrences
decreases-occurrences l = l.k
