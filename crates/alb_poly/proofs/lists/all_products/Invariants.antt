use Rattle.std.proofs.Common.{◌≡◌, take}
use Rattle.alb_poly.specs.Terms.{terms, products}
use Rattle.alb_poly.proofs.lists.all_products.Given as goal

abbrev pub invariant-loop-s : goal.invariant-loop-s
invariant-loop-s l = terms l.out.items ≡ products l.field (terms (take l.s-index l.lefts)) (terms l.rights)
