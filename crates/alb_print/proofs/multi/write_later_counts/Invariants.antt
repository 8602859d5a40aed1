use Rattle.std.proofs.Common.{drop}
use Rattle.std.specs.List.{flat_map}
use Rattle.alb_io.proofs.Writers.{Writing}
use Rattle.alb_print.proofs.Counts.{later_count}
use Rattle.alb_print.proofs.multi.write_later_counts.Given as goal

abbrev pub invariant-loop-count : goal.invariant-loop-count
invariant-loop-count g l = Writing g.K.Sink l.fn.sink l.sink (flat_map later_count l.counts) (flat_map later_count (drop l.count-index l.counts))
