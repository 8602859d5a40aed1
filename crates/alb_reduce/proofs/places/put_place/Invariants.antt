use Rattle.std.proofs.Common.{◌≡◌, ℕ, length, get_or}
use Rattle.alb_reduce.proofs.places.put_place.Given as goal

abbrev pub invariant-loop-i : goal.invariant-loop-i
invariant-loop-i l = record {
  long : length l.places.items ≡ l._i;
  same : (j : ℕ) → get_or l.places.items j 0 ≡ get_or l.fn.places.items j 0;
}
