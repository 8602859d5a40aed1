use Rattle.std.proofs.Common.{◌≡◌, ◌++◌, drop}
use Rattle.alb_linear.specs.Identity.{variables}
use Rattle.alb_linear.proofs.identity.variables.Given as goal

abbrev pub invariant-loop-k : goal.invariant-loop-k
invariant-loop-k l = l.found.items ++ variables l.k (drop l.k l.e) ≡ variables 0 l.e
