use Rattle.std.proofs.Common.{◌≡◌, ◌<◌, ℕ, sum, length, take, get_or}
use Rattle.alb_poly.specs.Instance.{first_number}
use Rattle.alb_linear.proofs.linearization.first_numbers.Given as goal

abbrev pub invariant-loop-v : goal.invariant-loop-v
invariant-loop-v l = ((j : ℕ) → j < l.v → get_or l.numbers j 0 ≡ first_number l.e j) × (length l.numbers ≡ 26) × (l.next ≡ sum (take l.v l.e))
