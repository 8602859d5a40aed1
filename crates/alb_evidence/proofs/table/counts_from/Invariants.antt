use Rattle.std.proofs.Common.{◌≡◌, ◌++◌, ◌∷◌, length}
use Rattle.std.specs.Option.{option_map}
use Rattle.alb_evidence.specs.Block.{later_counts}
use Rattle.alb_evidence.proofs.table.counts_from.Given as goal

abbrev pub invariant-counts : goal.invariant-counts
invariant-counts l = option_map (λ ns. l.list.items ++ ns) (later_counts l.left) ≡ option_map (λ ns. l.first ∷ ns) (later_counts l.fn.text)

abbrev pub decreases-counts : goal.decreases-counts
decreases-counts l = length l.left
