use Rattle.std.proofs.Common.{drop}
use Rattle.std.specs.List.{flat_map}
use Rattle.alb_io.proofs.Writers.{Writing}
use Rattle.alb_answer.specs.Answers.{part_lines}
use Rattle.alb_answer.proofs.products.write_parts.Given as goal

abbrev pub invariant-loop-k : goal.invariant-loop-k
invariant-loop-k g l =
    Writing g.K.Sink l.fn.sink l.sink (flat_map (part_lines l.tables.p l.letters l.tables.parts) l.tables.parts)
    (flat_map (part_lines l.tables.p l.letters l.tables.parts) (drop l.k l.tables.parts))
