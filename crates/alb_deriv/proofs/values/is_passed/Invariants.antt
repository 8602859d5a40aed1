use Rattle.std.proofs.Common.{◌≡◌, ◌<◌, ◌+◌, ℕ, true, get_or, length}
use Rattle.alb_mono.specs.Tree.{count, type_le, listed}
use Rattle.alb_nodes.specs.Nodes.{at}
use Rattle.alb_deriv.proofs.values.is_passed.Given as goal

abbrev pub invariant-loop-t : goal.invariant-loop-t
invariant-loop-t l = (k : ℕ) → k < l.t-index →
    type_le (listed (λ g. count g (at l.numbers (get_or l.list k (0, 0)).1) + count g (at l.numbers l.n)) 0 (length l.target)) l.target ≡ true
