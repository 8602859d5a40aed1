use Rattle.std.proofs.Common.{◌≡◌, ◌+◌, ◌++◌, length, take}
use Rattle.alb_linear.proofs.positions.push_all.Given as goal

abbrev pub invariant-loop-k : goal.invariant-loop-k
invariant-loop-k l = (l.list.items ≡ l.initial.list.items ++ take l.k-index l.more) × (length l.list.items ≡ length l.initial.list.items + l.k-index)
