use Rattle.std.proofs.Common.{map}
use Rattle.alb_reduce.specs.Lanes.{AreGathered}
use Rattle.alb_reduce.proofs.drops.gather_rows.Given as goal

abbrev pub invariant-loop-l : goal.invariant-loop-l
invariant-loop-l l = AreGathered l.places (map (λ v. v.items) l.fn.rows.items) (map (λ v. v.items) l.rows.items) l.l
