use Rattle.std.proofs.Common.{◌+◌, drop, map}
use Rattle.alb_evidence.specs.Texts.{counted}
use Rattle.alb_io.proofs.Writers.{Writing}
use Rattle.alb_host.specs.Report.{session_text, session_end}
use Rattle.alb_host.proofs.report.write_sessions.Given as goal

abbrev pub invariant-loop-i : goal.invariant-loop-i
invariant-loop-i g l = Writing g.K.Sink l.fn.sink l.sink (counted session_text 1 (map session_end l.sessions)) (counted session_text (l.i + 1) (map session_end (drop l.i l.sessions)))
