use Rattle.std.proofs.Common.{◌≡◌, ◌++◌, map, take}
use Rattle.alb_poly.specs.Terms.{term, terms, term_product}
use Rattle.alb_poly.proofs.lists.push_products.Given as goal

abbrev pub invariant-loop-t : goal.invariant-loop-t
invariant-loop-t l = terms l.out.items ≡ terms l.initial.out.items ++ map (term_product l.field (term l.s)) (terms (take l.t-index l.list))
