use Rattle.std.proofs.Common.{◌≡◌, take}
use Rattle.alb_deriv.specs.Tally.{nonzero, paired}
use Rattle.alb_deriv.proofs.tally.nonzero_terms.Given as goal

abbrev pub invariant-loop-k : goal.invariant-loop-k
invariant-loop-k l = l.list.items ≡ nonzero (paired (take l.k l.coefs) (take l.k l.numbers))
