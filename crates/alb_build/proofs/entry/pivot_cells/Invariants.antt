use Rattle.std.proofs.Common.{◌-◌, take, drop, reverse}
use Rattle.alb_build.specs.Part.{AreNegated}
use Rattle.alb_build.proofs.entry.pivot_cells.Given as goal

abbrev pub invariant-loop-k : goal.invariant-loop-k
invariant-loop-k l = AreNegated l.field l.numbers (take (l.k - 1) (reverse (drop 1 l.cells))) l.out.items
