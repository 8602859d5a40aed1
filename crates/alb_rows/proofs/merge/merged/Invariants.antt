use Rattle.std.proofs.Common.{length, ◌≤◌}
use Rattle.alb_rows.specs.Merge.{Merged}
use Rattle.alb_rows.proofs.merge.merged.Given as goal

abbrev pub invariant-loop-k : goal.invariant-loop-k
invariant-loop-k l = (l.sum.taken ≤ length l.a) × Merged l.field l.a l.c l.b l.sum.taken l.k l.sum.cells.items
