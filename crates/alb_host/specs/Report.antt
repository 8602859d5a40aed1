-- The report of a run of `albert_host`.
use Rattle.std.specs.Prelude.{ℕ, List, [], ◌++◌, map, Option, None, Some, option_map, codes}
use Rattle.alb_answer.specs.Answers.{built_line}
use Rattle.alb_evidence.specs.Texts.{counted}
use Rattle.alb_io.specs.declared.status.Status.{Status}
use Rattle.alb_io.specs.declared.status.Status.TheVariants as status
use Rattle.alb_print.specs.Text.{named}
use Rattle.alb_session.specs.declared.end.SessionEnd.{SessionEnd}
use Rattle.alb_session.specs.declared.end.SessionEnd.TheVariants as session
use Rattle.alb_table.specs.End.{End, end_of}
use Rattle.alb_host.specs.declared.report.HostReport.{HostReport}
use Rattle.alb_host.specs.declared.report.SessionReport.{SessionReport}

-- what a report tells: how the run ended, the line that was refused with its code, the degree and the end of the building, and how
-- each session ended
pub record Report : Type 0 where
  pub status : Status
  pub refusal : Option (ℕ × ℕ)
  pub degree : ℕ
  pub build : Option End
  pub sessions : List SessionEnd

abbrev pub refused_text : ℕ → ℕ → List ℕ
refused_text line code = named (codes "refused ") code ++ (named (codes " in line ") line ++ codes "\n")

-- why there was no building
abbrev pub refusal_text : Option (ℕ × ℕ) → List ℕ
refusal_text None = []
refusal_text (Some r) = refused_text r.0 r.1

abbrev pub stop_text : Status → Option (ℕ × ℕ) → List ℕ
stop_text status.Usage refusal = codes "usage\n"
stop_text status.Refused refusal = refusal_text refusal
stop_text status.OpenFault refusal = codes "open fault\n"
stop_text status.ReadFault refusal = codes "read fault\n"
stop_text status.InputLimit refusal = codes "input limit\n"
stop_text status.NoMemory refusal = codes "no memory\n"
stop_text other refusal = []

-- a session
abbrev pub end_text : SessionEnd → List ℕ
end_text session.Ended = codes " ended\n"
end_text session.ReadFault = codes " read fault\n"
end_text session.WriteFault = codes " write fault\n"
end_text session.InputLimit = codes " input limit\n"

unfoldable pub session_text : ℕ → SessionEnd → List ℕ
session_text k end = named (codes "session ") k ++ end_text end

-- THE TEXT OF A REPORT: why there was no building; or its end, and a line for each session
abbrev pub built_text : ℕ → Option End → List SessionEnd → List ℕ → List ℕ
built_text degree None sessions stop = stop
built_text degree (Some end) sessions stop = built_line degree end ++ counted session_text 1 sessions

abbrev pub report_text : Report → List ℕ
report_text r = built_text r.degree r.build r.sessions (stop_text r.status r.refusal)

-- what contracts see of a report
abbrev pub session_end : {I K : Type 0} → SessionReport I K → SessionEnd
session_end s = s.end

abbrev pub report_of : {I K : Type 0} → HostReport I K → Report
report_of r = record {
  status = r.status;
  refusal = r.refusal;
  degree = r.degree;
  build = option_map end_of r.build;
  sessions = map session_end r.sessions.items;
}
