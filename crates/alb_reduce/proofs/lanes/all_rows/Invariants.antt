use Rattle.std.proofs.Common.{◌≡◌, take, map}
use Rattle.alb_reduce.specs.Lanes.{lane_rows}
use Rattle.alb_reduce.proofs.lanes.all_rows.Given as goal

abbrev pub invariant-loop-k : goal.invariant-loop-k
invariant-loop-k l = l.rows.items ≡ take l.k (lane_rows l.live l.pivots (map (λ v. v.items) l.lanes))
