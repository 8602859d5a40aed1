use Rattle.std.proofs.Common.{◌≡◌, ℕ, ◌<◌, [], length, get_or}
use Rattle.alb_build.specs.Part.{IsNewEntry}
use Rattle.alb_build.proofs.entry.entries_of.Given as goal

abbrev pub invariant-loop-k : goal.invariant-loop-k
invariant-loop-k l = record {
  long : length l.out.items ≡ l.k;
  each : (k : ℕ) → k < l.k → IsNewEntry l.block.reduced l.numbers k (get_or l.out.items k []);
}
