use Rattle.std.proofs.Common.{◌≡◌}
use Rattle.alb_mono.specs.Tree.{rising}
use Rattle.alb_check.proofs.walk.numbers.Given as goal

abbrev pub invariant-loop-k : goal.invariant-loop-k
invariant-loop-k l = l.out.items ≡ rising 1 l.k
