use Rattle.std.proofs.Common.{◌≡◌, false}
use Rattle.bench_reduce.proofs.reduced.Given as goal

abbrev pub invariant-loop-tag : goal.invariant-loop-tag
invariant-loop-tag l = (l.echelon.p ≡ l.field) × (l.echelon.columns ≡ l.columns) × (l.echelon.keeps_recipes ≡ false)
