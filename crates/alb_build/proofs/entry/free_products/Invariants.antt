use Rattle.std.proofs.Common.{◌≡◌, ℕ, ◌-◌, ◌<◌, length, get_or, false}
use Rattle.std.specs.Prelude.{◌↔◌, IsTrue}
use Rattle.alb_rows.specs.Span.{IsPivot}
use Rattle.alb_reduce.specs.Reduction.{kept}
use Rattle.alb_build.proofs.entry.free_products.Given as goal

abbrev pub invariant-loop-k : goal.invariant-loop-k
invariant-loop-k l = record {
  long : length l.out.items ≡ l.k;
  each : (k : ℕ) → k < l.k → IsTrue (get_or l.out.items k false) ↔ (IsPivot l.block.reduced.p (kept l.block.reduced) (l.count - 1 - k) → ⊥);
  pivot : (k : ℕ) → k < l.k → get_or l.out.items k false ≡ false → IsPivot l.block.reduced.p (kept l.block.reduced) (l.count - 1 - k);
}
