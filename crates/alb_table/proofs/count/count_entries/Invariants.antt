use Rattle.std.proofs.Common.{◌≡◌, ◌+◌, drop, map}
use Rattle.alb_table.specs.Table.{count_products}
use Rattle.alb_table.specs.Views.{view_of}
use Rattle.alb_table.proofs.count.count_entries.Given as goal

abbrev pub invariant-loop-k : goal.invariant-loop-k
invariant-loop-k l = l.count + count_products (map view_of (drop l.k l.parts)) ≡ count_products (map view_of l.parts)
