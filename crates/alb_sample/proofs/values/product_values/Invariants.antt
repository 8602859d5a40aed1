use Rattle.std.proofs.Common.{◌≡◌, ◌<◌, ◌/◌, ◌%◌, ℕ, [], length, get_or}
use Rattle.alb_mono.specs.Tree.{node}
use Rattle.alb_sample.specs.Choice.{argument}
use Rattle.alb_sample.specs.Values.{IsMonoValue}
use Rattle.alb_sample.proofs.values.product_values.Given as goal

abbrev pub invariant-loop-k : goal.invariant-loop-k
invariant-loop-k l = record {
  full : length l.list.items ≡ l.k;
  products : (k : ℕ) → k < l.k → IsMonoValue l.tables (node (argument (k / 3)) (argument (k % 3))) (get_or l.list.items k []);
}
