use Rattle.std.proofs.Common.{ℕ, ◌<◌}
use Rattle.alb_poly.specs.Consequence.{forms, form_at}
use Rattle.alb_check.specs.Raw.{raw}
use Rattle.alb_check.specs.TableAlgebra.{IsZeroAtTuples}
use Rattle.alb_check.proofs.check.try_identities.Given as goal

abbrev pub invariant-loop-k : goal.invariant-loop-k
invariant-loop-k l = (i : ℕ) → i < l.k → IsZeroAtTuples l.rules.field (raw l.table) (form_at (forms l.rules) i)
