use Rattle.std.proofs.Common.{◌<◌, ◌≤◌, ◌+◌, ℕ, get_or}
use Rattle.alb_mono.specs.Tree.{count}
use Rattle.alb_nodes.specs.Nodes.{at}
use Rattle.alb_deriv.proofs.types.is_pair_within.Given as goal

abbrev pub invariant-loop-g : goal.invariant-loop-g
invariant-loop-g l = (k : ℕ) → k < l.g → count k (at l.numbers l.a) + count k (at l.numbers l.b) ≤ get_or l.target k 0
