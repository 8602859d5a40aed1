use Rattle.std.proofs.Common.{◌<◌, ◌≤◌, ℕ, map, get_or}
use Rattle.gf_sums.specs.Sums.{total}
use Rattle.alb_mono.specs.Tree.{tree, count}
use Rattle.alb_deriv.proofs.types.are_within.Given as goal

abbrev pub invariant-loop-g : goal.invariant-loop-g
invariant-loop-g l = (k : ℕ) → k < l.g → total (count k) (map tree l.ms) ≤ get_or l.target k 0
