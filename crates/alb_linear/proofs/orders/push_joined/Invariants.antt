use Rattle.std.proofs.Common.{◌≡◌, ◌++◌, map, take}
use Rattle.alb_linear.proofs.orders.push_joined.Given as goal

abbrev pub invariant-loop-second : goal.invariant-loop-second
invariant-loop-second l = l.out.items ≡ l.initial.out.items ++ map (λ b. l.first ++ b) (take l.second-index l.seconds)
