use Rattle.std.proofs.Common.{◌≡◌, ◌-◌, ◌<◌, ◌++◌, ◌∷◌, [], ℕ, length, get_or}
use Rattle.alb_poly.specs.Consequence.{form}
use Rattle.alb_check.specs.Raw.{raw}
use Rattle.alb_check.specs.Walk.{IsZeroFrom}
use Rattle.alb_check.proofs.walk.+walk.Given as goal

abbrev pub decreases-walk : goal.decreases-walk
decreases-walk l = l.trial.now.linear.now.degree - length l.tuple.now.items

abbrev pub invariant-loop-k : goal.invariant-loop-k
invariant-loop-k l = record {
  same : l.tuple.items ≡ l.fn.tuple.items;
  zero : (i : ℕ) → i < l.k-index → IsZeroFrom l.trial.rules.now.field (raw l.trial.table.now) (form l.trial.linear.now) (l.fn.tuple.items ++ get_or l.k-items i 0 ∷ []);
}
