use Rattle.alb_build.proofs.Counting.{IsCounted}
use Rattle.alb_build.proofs.ahead.count_next.Given as goal

abbrev pub invariant-loop-at : goal.invariant-loop-at
invariant-loop-at l = IsCounted l.tables l.at-items l.at-index l.count
