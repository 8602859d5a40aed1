-- The text of a report with a building.
use Rattle.std.proofs.Common.{◌≡◌, ◌++◌, Some, ap}
use Rattle.alb_answer.specs.Answers.{built_line}
use Rattle.alb_evidence.specs.Texts.{counted}
use Rattle.alb_table.specs.End.{End}
use Rattle.alb_host.specs.Report.{Report, built_text, report_text, session_text, stop_text}

pub report-built : (r : Report) (e : End) → r.build ≡ Some e → report_text r ≡ built_line r.degree e ++ counted session_text 1 r.sessions
report-built r e h = ap (λ o. built_text r.degree o r.sessions (stop_text r.status r.refusal)) h
