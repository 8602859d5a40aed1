use Rattle.std.proofs.Common.{◌≡◌, ◌+◌, drop, map, length}
use Rattle.alb_table.specs.Table.{first_of, dim_of, elems}
use Rattle.alb_table.specs.Views.{view_of}
use Rattle.alb_table.proofs.find.range_of.Given as goal

abbrev pub invariant-loop-k : goal.invariant-loop-k
invariant-loop-k l =
    (l.first + first_of (map view_of (drop l.k l.parts)) l.t ≡ first_of (map view_of l.parts) l.t)
    × (dim_of (map view_of (drop l.k l.parts)) l.t ≡ dim_of (map view_of l.parts) l.t)
    × (l.first + length (elems (map view_of (drop l.k l.parts))) ≡ length (elems (map view_of l.parts)))
