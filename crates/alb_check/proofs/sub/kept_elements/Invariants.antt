use Rattle.std.proofs.Common.{◌≡◌, map}
use Rattle.std.specs.List.{filter}
use Rattle.alb_mono.specs.Tree.{rising}
use Rattle.alb_check.specs.SubTable.{is_kept, number_of}
use Rattle.alb_check.proofs.sub.kept_elements.Given as goal

abbrev pub invariant-loop-b : goal.invariant-loop-b
invariant-loop-b l = record {
  elements : l.elements.items ≡ filter (is_kept l.tables l.top) (rising 0 l.b);
  numbers : l.numbers.items ≡ map (number_of l.tables l.top) (rising 0 l.b);
}
