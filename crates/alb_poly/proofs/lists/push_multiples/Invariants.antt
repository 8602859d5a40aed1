use Rattle.std.proofs.Common.{◌≡◌, ◌++◌, take}
use Rattle.alb_poly.specs.Terms.{terms, multiples}
use Rattle.alb_poly.proofs.lists.push_multiples.Given as goal

abbrev pub invariant-loop-t : goal.invariant-loop-t
invariant-loop-t l = terms l.out.items ≡ terms l.initial.out.items ++ multiples l.field l.c (terms (take l.t-index l.list))
