use Rattle.std.proofs.Common.{◌≡◌, ◌++◌, map, take}
use Rattle.std.specs.List.{flat_map}
use Rattle.alb_linear.proofs.orders.all_joined.Given as goal

abbrev pub invariant-loop-first : goal.invariant-loop-first
invariant-loop-first l = l.out.items ≡ flat_map (λ a. map (λ b. a ++ b) l.seconds) (take l.first-index l.firsts)
