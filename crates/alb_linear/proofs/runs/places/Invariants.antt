use Rattle.std.proofs.Common.{◌≡◌, ℕ, ◌<◌, suc, true, sum}
use Rattle.std.specs.Prelude.{◌↔◌}
use Rattle.std.specs.List.{All}
use Rattle.alb_poly.specs.Consequence.{form}
use Rattle.alb_linear.specs.Runs.{AreExchangeable, goes_on}
use Rattle.alb_linear.proofs.runs.places.Given as goal

abbrev pub invariant-loop-k : goal.invariant-loop-k
invariant-loop-k l = record {
  positive : All (λ n. 0 < n) l.runs.items;
  whole : sum l.runs.items ≡ l.k;
  joined : (j : ℕ) → suc j < l.k → (goes_on l.runs.items (suc j) ≡ true) ↔ AreExchangeable l.field (form l.f) j;
}
