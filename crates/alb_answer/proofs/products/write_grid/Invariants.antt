use Rattle.std.proofs.Common.{◌+◌, ◌-◌}
use Rattle.std.specs.List.{flat_map}
use Rattle.alb_io.proofs.Writers.{Writing}
use Rattle.alb_table.specs.Grid.{cells_of}
use Rattle.alb_table.specs.Table.{rectangle}
use Rattle.alb_answer.specs.Answers.{product_line}
use Rattle.alb_answer.proofs.products.write_grid.Given as goal

abbrev pub invariant-loop-i : goal.invariant-loop-i
invariant-loop-i g l =
    Writing g.K.Sink l.fn.sink l.sink (flat_map (product_line l.tables.p l.letters l.tables.parts) (cells_of l.g))
    (flat_map (product_line l.tables.p l.letters l.tables.parts) (rectangle (l.g.left + l.i) (l.g.lefts - l.i) l.g.right l.g.rights))
