use Rattle.std.proofs.Common.{◌≡◌, ℕ, ◌<◌, get_or, length}
use Rattle.alb_reduce.proofs.lanes.first_columns.Given as goal

abbrev pub invariant-loop-column : goal.invariant-loop-column
invariant-loop-column l = record {
  long : length l.all.items ≡ l.column;
  value : (i : ℕ) → i < l.column → get_or l.all.items i 0 ≡ i;
}
