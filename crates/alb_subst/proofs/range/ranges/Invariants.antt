use Rattle.std.proofs.Common.{◌≡◌, map}
use Rattle.alb_table.specs.Table.{types_to}
use Rattle.alb_subst.specs.Ranges.{range_of}
use Rattle.alb_subst.proofs.range.ranges.Given as goal

abbrev pub invariant-loop-k : goal.invariant-loop-k
invariant-loop-k l = l.out.items ≡ map (range_of l.tables.parts) (types_to l.t l.k)
