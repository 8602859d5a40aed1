use Rattle.std.proofs.Common.{◌≡◌, ◌++◌, vec_len, reverse}
use Rattle.alb_subst.proofs.columns.numbered.Given as goal

abbrev pub invariant-loop-pair : goal.invariant-loop-pair
invariant-loop-pair l = l.set.keys ++ reverse l.left.items ≡ reverse l.initial.left.items

abbrev pub decreases-loop-pair : goal.decreases-loop-pair
decreases-loop-pair l = vec_len l.left
