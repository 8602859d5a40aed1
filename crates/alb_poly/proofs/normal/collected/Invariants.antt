use Rattle.std.proofs.Common.{vec_len}
use Rattle.alb_poly.proofs.Collecting.{Collects}
use Rattle.alb_poly.proofs.normal.collected.Given as goal

abbrev pub invariant-loop-t : goal.invariant-loop-t
invariant-loop-t l = Collects l.field l.fn.list.items l.kept.items l.left.items

abbrev pub decreases-loop-t : goal.decreases-loop-t
decreases-loop-t l = vec_len l.left
