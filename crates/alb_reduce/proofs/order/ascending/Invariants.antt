use Rattle.std.proofs.Common.{ℕ, List}
use Rattle.alb_reduce.specs.Echelon.{IsAscendingBelow}
use Rattle.alb_reduce.specs.Index.{IsIndex}
use Rattle.alb_reduce.proofs.order.ascending.Given as goal

abbrev pub invariant-loop-column : goal.invariant-loop-column
invariant-loop-column l = (order : List ℕ) → IsIndex order l.places → IsAscendingBelow order l.column l.pivots.items
