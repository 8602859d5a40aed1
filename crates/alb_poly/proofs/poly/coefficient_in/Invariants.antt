use Rattle.std.proofs.Common.{◌≡◌, ℕ, ◌<◌, false, get_or}
use Rattle.alb_mono.specs.Tree.{tree, same_tree}
use Rattle.alb_poly.specs.declared.term.Term.{Term}
use Rattle.alb_poly.proofs.poly.coefficient_in.Given as goal

abbrev pub invariant-loop-t : goal.invariant-loop-t
invariant-loop-t l = (k : ℕ) (d : Term) → k < l.t-index → same_tree (tree (get_or l.list k d).mono) (tree l.m) ≡ false
