use Rattle.std.proofs.Common.{◌≡◌, ◌+◌, ◌++◌, drop, map, length}
use Rattle.alb_table.specs.Table.{products_of}
use Rattle.alb_table.specs.Stored.{grids_from}
use Rattle.alb_table.specs.Views.{view_of}
use Rattle.alb_table.proofs.build.grids_of.Given as goal

abbrev pub invariant-loop-pair : goal.invariant-loop-pair
invariant-loop-pair l =
    (l.out.items ++ grids_from (map view_of l.parts) l.offset (drop l.pair-index l.pair-items) ≡ grids_from (map view_of l.parts) 0 l.pair-items)
    × (l.offset + length (products_of (map view_of l.parts) (drop l.pair-index l.pair-items)) ≡ length (products_of (map view_of l.parts) l.pair-items))
