use Rattle.std.proofs.Common.{◌≡◌, ◌+◌, drop, map}
use Rattle.alb_table.specs.Table.{count_coefficients}
use Rattle.alb_table.specs.Views.{view_of}
use Rattle.alb_table.proofs.count.count_coefficients.Given as goal

abbrev pub invariant-loop-k : goal.invariant-loop-k
invariant-loop-k l = l.count + count_coefficients (map view_of (drop l.k l.parts)) ≡ count_coefficients (map view_of l.parts)
