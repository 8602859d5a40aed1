use Rattle.std.proofs.Common.{◌≡◌, ◌-◌, ◌<◌, ◌≤◌, ℕ, true, length, get_or}
use Rattle.alb_check.specs.declared.raw.RawEntry.{RawEntry}
use Rattle.alb_check.specs.Products.{has_factors}
use Rattle.alb_check.proofs.product.run_end.Given as goal

abbrev pub invariant-loop-end : goal.invariant-loop-end
invariant-loop-end l = record {
  above : l.start < l.end;
  within : l.end ≤ length l.entries;
  same : (d : RawEntry) (k : ℕ) → l.start ≤ k → k < l.end → has_factors l.first.left l.first.right (get_or l.entries k d) ≡ true;
}

abbrev pub decreases-loop-end : goal.decreases-loop-end
decreases-loop-end l = length l.entries - l.end
