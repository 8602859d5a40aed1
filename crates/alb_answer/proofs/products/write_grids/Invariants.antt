use Rattle.std.proofs.Common.{drop}
use Rattle.std.specs.List.{flat_map}
use Rattle.alb_io.proofs.Writers.{Writing}
use Rattle.alb_table.specs.Grid.{cells_of}
use Rattle.alb_answer.specs.Answers.{product_line}
use Rattle.alb_answer.proofs.products.write_grids.Given as goal

abbrev pub invariant-loop-i : goal.invariant-loop-i
invariant-loop-i g l =
    Writing g.K.Sink l.fn.sink l.sink (flat_map (product_line l.tables.p l.letters l.tables.parts) (flat_map cells_of l.grids))
    (flat_map (product_line l.tables.p l.letters l.tables.parts) (flat_map cells_of (drop l.i l.grids)))
