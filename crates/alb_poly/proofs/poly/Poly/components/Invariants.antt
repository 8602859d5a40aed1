use Rattle.alb_poly.proofs.PartLemmas.{Parted}
use Rattle.alb_poly.proofs.poly.Poly.components.Given as goal

abbrev pub invariant-loop-end : goal.invariant-loop-end
invariant-loop-end l = Parted l.gens l.list l.end l.out.items

abbrev pub decreases-loop-end : goal.decreases-loop-end
decreases-loop-end l = l.end
