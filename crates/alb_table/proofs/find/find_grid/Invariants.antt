use Rattle.std.proofs.Common.{◌-◌}
use Rattle.alb_table.proofs.RiseLemmas.{Narrows}
use Rattle.alb_table.proofs.find.find_grid.Given as goal

abbrev pub invariant-loop-low : goal.invariant-loop-low
invariant-loop-low l = Narrows l.grids l.b l.c l.low l.high

abbrev pub decreases-loop-low : goal.decreases-loop-low
decreases-loop-low l = l.high - l.low
