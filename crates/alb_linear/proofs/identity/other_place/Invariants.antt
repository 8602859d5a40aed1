use Rattle.std.proofs.Common.{◌≡◌, drop}
use Rattle.alb_poly.specs.Terms.{terms}
use Rattle.alb_linear.specs.Identity.{other_term}
use Rattle.alb_linear.proofs.identity.other_place.Given as goal

abbrev pub invariant-loop-k : goal.invariant-loop-k
invariant-loop-k l = other_term l.e (terms l.list) ≡ other_term l.e (drop l.k (terms l.list))
