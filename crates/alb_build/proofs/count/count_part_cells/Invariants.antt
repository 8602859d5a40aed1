use Rattle.std.proofs.Common.{◌≡◌, ◌+◌, drop, map}
use Rattle.alb_table.specs.Table.{part_view, count_coefficients}
use Rattle.alb_build.proofs.count.count_part_cells.Given as goal

abbrev pub invariant-loop-part : goal.invariant-loop-part
invariant-loop-part l = l.count + count_coefficients (map part_view (drop l.part-index l.parts)) ≡ count_coefficients (map part_view l.parts)
