use Rattle.alb_io.proofs.Writers.{Writes-exit, Writes-more, Writes-then}
use Rattle.alb_host.specs.Report.{session_text}
use Rattle.alb_host.proofs.report.write_session.Goals as goal

pub returns-in_err-write_named : goal.returns-in_err-write_named
unfolding session_text
returns-in_err-write_named g c =
    Writes-exit _ _ c.from_residual.ensures.1 (Writes-more _ c.in_err-write_named.ensures)

pub returns : goal.returns
unfolding session_text
returns g c =
    Writes-then c.in_ok-write_named.ensures c.write_end.ensures
