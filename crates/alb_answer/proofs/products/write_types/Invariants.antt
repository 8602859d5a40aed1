use Rattle.std.proofs.Common.{drop}
use Rattle.std.specs.List.{flat_map}
use Rattle.alb_io.proofs.Writers.{Writing}
use Rattle.alb_answer.specs.Answers.{dimension_line}
use Rattle.alb_answer.proofs.products.write_types.Given as goal

abbrev pub invariant-loop-k : goal.invariant-loop-k
invariant-loop-k g l = Writing g.K.Sink l.fn.sink l.sink (flat_map dimension_line l.tables.parts) (flat_map dimension_line (drop l.k l.tables.parts))
