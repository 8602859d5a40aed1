use Rattle.std.proofs.Common.{◌≡◌, map, drop}
use Rattle.alb_table.specs.End.{end_of}
use Rattle.alb_host.specs.Report.{session_end}
use Rattle.alb_host.specs.Runs.{status_after}
use Rattle.alb_host.proofs.status.run_status.Given as goal

abbrev pub invariant-loop-i : goal.invariant-loop-i
invariant-loop-i g l = status_after (end_of l.end) (map session_end l.sessions) ≡ status_after (end_of l.end) (map session_end (drop l.i l.sessions))
