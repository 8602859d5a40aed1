use Rattle.std.proofs.Common.{◌≡◌, [], ◌∷◌, map, take}
use Rattle.alb_check.proofs.walk.is_zero_at.Given as goal

abbrev pub invariant-loop-k : goal.invariant-loop-k
invariant-loop-k l = l.rows.items ≡ map (λ k. (k, 1) ∷ []) (take l.k-index l.tuple)
