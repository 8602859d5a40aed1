-- A count, and the 0 past the last one, is at most what bounds all of them.
use Rattle.std.proofs.Common.{◌≤◌, ◌<◌, ℕ, zero, suc, List, [], ◌∷◌, get_or, length, arith}

pub count_within : (xs : List ℕ) (i most : ℕ) → ((k : ℕ) (d : ℕ) → k < length xs → get_or xs k d ≤ most) → get_or xs i 0 ≤ most
count_within [] i most all = omega arith
count_within (x ∷ xs) zero most all = all 0 0 (omega arith)
count_within (x ∷ xs) (suc i) most all = count_within xs i most (λ k d l. all (suc k) d (omega arith))
