use Rattle.alb_answer.proofs.products.+write_elem.Given as goal

abbrev pub decreases-write_elem : goal.decreases-write_elem
decreases-write_elem g l = l.b
