use Rattle.std.proofs.Common.{◌-◌, map}
use Rattle.alb_table.specs.Views.{view_of}
use Rattle.alb_table.proofs.FindLemmas.{Halves}
use Rattle.alb_table.proofs.RangeLemmas.{ats}
use Rattle.alb_table.proofs.find.find_part.Given as goal

abbrev pub invariant-loop-low : goal.invariant-loop-low
invariant-loop-low l = Halves (ats (map view_of l.parts)) l.t l.low l.high

abbrev pub decreases-loop-low : goal.decreases-loop-low
decreases-loop-low l = l.high - l.low
