use Rattle.std.proofs.Common.{◌≡◌, ◌++◌, map}
use Rattle.alb_mono.specs.Tree.{rising}
use Rattle.alb_subst.proofs.products.push_row.Given as goal

abbrev pub invariant-loop-k : goal.invariant-loop-k
invariant-loop-k l = l.out.items ≡ l.initial.out.items ++ map (λ j. (l.b, j)) (rising l.first l.k)
