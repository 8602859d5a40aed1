use Rattle.std.proofs.Common.{◌≡◌, ◌++◌, drop, map}
use Rattle.alb_table.specs.Table.{part_view, first_parts}
use Rattle.alb_table.proofs.build.first_parts.Given as goal

abbrev pub invariant-loop-k : goal.invariant-loop-k
invariant-loop-k l = map part_view l.parts.items ++ first_parts l.k (drop l.k l.types.items) ≡ first_parts 0 l.types.items
