use Rattle.std.proofs.Common.{drop}
use Rattle.std.specs.List.{flat_map}
use Rattle.alb_io.proofs.Writers.{Writing}
use Rattle.alb_judge.proofs.WriteLemmas.{element_text}
use Rattle.alb_judge.proofs.write.write_elements.Given as goal

abbrev pub invariant-loop-element : goal.invariant-loop-element
invariant-loop-element g l = Writing g.K.Sink l.fn.sink l.sink (flat_map element_text l.tuple) (flat_map element_text (drop l.element-index l.tuple))
