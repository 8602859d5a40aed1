use Rattle.std.proofs.Common.{◌+◌, ◌-◌}
use Rattle.std.specs.List.{flat_map}
use Rattle.alb_io.proofs.Writers.{Writing}
use Rattle.alb_answer.specs.Answers.{product_line, row_pairs}
use Rattle.alb_answer.proofs.products.write_row.Given as goal

abbrev pub invariant-loop-j : goal.invariant-loop-j
invariant-loop-j g l =
    Writing g.K.Sink l.fn.sink l.sink (flat_map (product_line l.tables.p l.letters l.tables.parts) (row_pairs l.b l.g.right l.g.rights))
    (flat_map (product_line l.tables.p l.letters l.tables.parts) (row_pairs l.b (l.g.right + l.j) (l.g.rights - l.j)))
