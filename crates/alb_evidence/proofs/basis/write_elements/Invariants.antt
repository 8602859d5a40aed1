use Rattle.std.proofs.Common.{◌+◌, drop}
use Rattle.alb_evidence.specs.Texts.{counted, element_text}
use Rattle.alb_io.proofs.Writers.{Writing}
use Rattle.alb_evidence.proofs.basis.write_elements.Given as goal

abbrev pub invariant-loop-i : goal.invariant-loop-i
invariant-loop-i g l = Writing g.K.Sink l.fn.sink l.sink (counted element_text 1 l.elements) (counted element_text (l.i + 1) (drop l.i l.elements))
