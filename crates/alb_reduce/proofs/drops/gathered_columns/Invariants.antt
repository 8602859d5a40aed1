use Rattle.std.proofs.Common.{◌≡◌, take}
use Rattle.alb_reduce.specs.Lanes.{gather}
use Rattle.alb_reduce.proofs.drops.gathered_columns.Given as goal

abbrev pub invariant-loop-k : goal.invariant-loop-k
invariant-loop-k l = l.columns.items ≡ gather (take l.k l.places) l.live
