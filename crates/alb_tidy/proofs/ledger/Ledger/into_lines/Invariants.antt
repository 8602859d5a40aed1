use Rattle.std.proofs.Common.{◌≡◌, ◌++◌, length, map, reverse}
use Rattle.alb_tidy.proofs.LedgerLemmas.{held}
use Rattle.alb_tidy.proofs.ledger.Ledger.into_lines.Given as goal

abbrev pub invariant-loop-key : goal.invariant-loop-key
invariant-loop-key l = held l.left.keys ++ reverse l.lines.items ≡ held l.initial.left.keys

abbrev pub decreases-loop-key : goal.decreases-loop-key
decreases-loop-key l = length l.left.keys
