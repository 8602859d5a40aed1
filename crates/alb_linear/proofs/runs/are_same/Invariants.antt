use Rattle.std.proofs.Common.{◌≡◌, drop}
use Rattle.alb_poly.specs.Terms.{terms}
use Rattle.alb_linear.specs.Runs.{same_terms}
use Rattle.alb_linear.proofs.runs.are_same.Given as goal

abbrev pub invariant-loop-i : goal.invariant-loop-i
invariant-loop-i l = same_terms (terms (drop l.i l.f)) (terms (drop l.i l.g)) ≡ same_terms (terms l.f) (terms l.g)
