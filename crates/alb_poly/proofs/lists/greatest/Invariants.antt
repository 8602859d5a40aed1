use Rattle.std.proofs.Common.{◌≡◌, ◌≤◌, take}
use Rattle.alb_poly.specs.Poly.{greatest_degree}
use Rattle.alb_poly.specs.Terms.{terms}
use Rattle.alb_poly.proofs.lists.greatest.Given as goal

abbrev pub invariant-loop-t : goal.invariant-loop-t
invariant-loop-t l = (l.most ≡ greatest_degree (terms (take l.t-index l.list))) × (l.most ≤ 64)
