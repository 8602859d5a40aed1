use Rattle.std.proofs.Common.{◌≡◌, ◌++◌, map, take}
use Rattle.alb_subst.specs.Ranges.{range_of}
use Rattle.alb_subst.proofs.range.push_ranges.Given as goal

abbrev pub invariant-loop-at : goal.invariant-loop-at
invariant-loop-at l = l.out.items ≡ l.initial.out.items ++ map (range_of l.tables.parts) (take l.at-index l.at-items)
