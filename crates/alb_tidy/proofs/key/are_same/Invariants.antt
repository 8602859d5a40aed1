use Rattle.std.proofs.Common.{◌≡◌, map, drop}
use Rattle.std.specs.Cmp.Lexicographic.{pointwise}
use Rattle.alb_mono.specs.Tree.{tree, same_tree}
use Rattle.alb_tidy.proofs.key.are_same.Given as goal

abbrev pub invariant-loop-k : goal.invariant-loop-k
invariant-loop-k l = pointwise same_tree (map tree (drop l.k l.ms)) (map tree (drop l.k l.ns)) ≡ pointwise same_tree (map tree l.ms) (map tree l.ns)
