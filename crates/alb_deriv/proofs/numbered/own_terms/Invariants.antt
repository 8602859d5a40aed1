use Rattle.std.proofs.Common.{◌≡◌, take}
use Rattle.alb_poly.specs.Terms.{terms}
use Rattle.alb_deriv.specs.Numbered.{read}
use Rattle.alb_deriv.proofs.numbered.own_terms.Given as goal

abbrev pub invariant-loop-t : goal.invariant-loop-t
invariant-loop-t l = terms l.out.items ≡ read l.numbers (take l.t-index l.list)
