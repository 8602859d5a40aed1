use Rattle.std.proofs.Common.{◌+◌, drop, map}
use Rattle.alb_deriv.specs.Views.{line}
use Rattle.alb_evidence.specs.Texts.{counted, line_text}
use Rattle.alb_io.proofs.Writers.{Writing}
use Rattle.alb_evidence.proofs.derivation.write_numbered.Given as goal

abbrev pub invariant-loop-i : goal.invariant-loop-i
invariant-loop-i g l = Writing g.K.Sink l.fn.sink l.sink (counted (line_text l.field l.letters) 1 (map line l.lines)) (counted (line_text l.field l.letters) (l.i + 1) (map line (drop l.i l.lines)))
