use Rattle.std.proofs.Common.{◌≡◌, take}
use Rattle.alb_poly.specs.Terms.{terms}
use Rattle.alb_poly.proofs.Images.{image_terms}
use Rattle.alb_poly.proofs.poly.Poly.substitute.Given as goal

abbrev pub invariant-loop-t : goal.invariant-loop-t
invariant-loop-t l = terms l.list.items ≡ image_terms l.field l.images (terms (take l.t-index l.terms))
