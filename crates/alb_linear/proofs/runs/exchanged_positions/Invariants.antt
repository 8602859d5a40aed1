use Rattle.std.proofs.Common.{◌≡◌, map}
use Rattle.std.specs.List.{range_with_len}
use Rattle.alb_mono.specs.Tree.{tree, leaf}
use Rattle.alb_linear.specs.Runs.{exchanged}
use Rattle.alb_linear.proofs.runs.exchanged_positions.Given as goal

abbrev pub invariant-loop-k : goal.invariant-loop-k
invariant-loop-k l = map tree l.out.items ≡ map (λ k. leaf (exchanged l.j k)) (range_with_len 0 l.k)
