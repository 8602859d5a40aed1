use Rattle.std.proofs.Common.{◌≡◌, drop}
use Rattle.alb_check.specs.Raw.{are_ascending}
use Rattle.alb_check.proofs.shape.are_ascending.Given as goal

abbrev pub invariant-loop-k : goal.invariant-loop-k
invariant-loop-k l = are_ascending l.entries ≡ are_ascending (drop l.k l.entries)
