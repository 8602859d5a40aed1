use Rattle.std.proofs.Common.{◌≡◌, ℕ, ◌<◌, ◌≤◌, get_or}
use Rattle.alb_mono.specs.Tree.{tree, type_of}
use Rattle.alb_poly.specs.declared.term.Term.{Term}
use Rattle.alb_poly.proofs.runs.run_start.Given as goal

abbrev pub invariant-loop-start : goal.invariant-loop-start
invariant-loop-start l = (l.start ≤ l.end) × ((k : ℕ) (d : Term) → l.start ≤ k → k < l.end → type_of l.gens (tree (get_or l.list k d).mono) ≡ l.at)

abbrev pub decreases-loop-start : goal.decreases-loop-start
decreases-loop-start l = l.start
