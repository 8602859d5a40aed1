use Rattle.std.proofs.Common.{◌≡◌, map}
use Rattle.alb_mono.specs.Tree.{rising}
use Rattle.alb_check.specs.SubTable.{generator_number}
use Rattle.alb_check.proofs.sub.generator_numbers.Given as goal

abbrev pub invariant-loop-g : goal.invariant-loop-g
invariant-loop-g l = l.out.items ≡ map (generator_number l.tables l.top) (rising 0 l.g)
