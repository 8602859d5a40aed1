use Rattle.std.proofs.Common.{◌≡◌, ◌<◌, ◌+◌, All}
use Rattle.test_algebra.proofs.elimination.reduced.Given as goal

abbrev pub invariant-loop-k : goal.invariant-loop-k
invariant-loop-k l = (l.echelon.p ≡ l.field) × (l.echelon.columns ≡ l.columns) × All (λ o. o.0 < 7 + l.k) l.echelon.offers
