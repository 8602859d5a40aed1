use Rattle.std.proofs.Common.{map, sym, ap}
use Rattle.std.specs.Prelude.{option_map}
use Rattle.alb_evidence.specs.Texts.{counted}
use Rattle.alb_io.proofs.Writers.{Writes-exit, Writes-more, Writes-text, Writes-then}
use Rattle.alb_table.specs.End.{end_of}
use Rattle.alb_host.specs.Report.{report_of, session_end, session_text}
use Rattle.alb_host.proofs.ReportLemmas.{report-built}
use Rattle.alb_host.proofs.report.write_report.Goals as goal

pub returns-in_err-write_built : goal.returns-in_err-write_built
returns-in_err-write_built g c =
    Writes-exit _ _ c.from_residual.ensures.1
    (Writes-text (sym (report-built (report_of c.args.report.now) (end_of c.in-Some.end) (ap (option_map end_of) c.in-Some.is))) (Writes-more _ c.in_err-write_built.ensures))

pub returns : goal.returns
returns g c =
    Writes-text (sym (report-built (report_of c.args.report.now) (end_of c.in-Some.end) (ap (option_map end_of) c.in-Some.is)))
    (Writes-then c.in_ok-write_built.ensures (Writes-text (ap (λ xs. counted session_text 1 (map session_end xs)) c.deref.ensures.value) c.write_sessions.ensures))
