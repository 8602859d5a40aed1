-- What a run of `albert_host` does.
use Rattle.std.specs.Prelude.{◌≡◌, ◌≢◌, ◌⊎◌, true, ℕ, ◌<◌, ◌^◌, All, List, [], ◌∷◌, map, Option, None, Some, Result, Ok, Err, IsSome}
use Rattle.alb_board.specs.Passes.{board_rules, IsPassOf, pass_view}
use Rattle.alb_board.specs.declared.kept.PassView.{PassView}
use Rattle.alb_board.specs.declared.rule.Board.{Board}
use Rattle.alb_board.specs.declared.rule.Pass.{Pass}
use Rattle.alb_builder.specs.Building.{HasBuilt}
use Rattle.alb_io.specs.Causes.{Rose}
use Rattle.alb_io.specs.Files.{Files, HasFile, IsFile}
use Rattle.alb_io.specs.declared.sink.Sink as sinks
use Rattle.alb_io.specs.declared.source.Source as sources
use Rattle.alb_io.specs.declared.status.Status.{Status}
use Rattle.alb_io.specs.declared.status.Status.TheVariants as status
use Rattle.alb_problem.specs.Problem.{IsAccepted}
use Rattle.alb_problem.specs.declared.problem.Problem.{Problem}
use Rattle.alb_problem_file.specs.Read.{ReadsProblem}
use Rattle.alb_problem_file.specs.declared.stop.ProblemStop.{ProblemStop}
use Rattle.alb_problem_file.specs.declared.stop.ProblemStop.TheVariants as stop
use Rattle.alb_session.specs.Served.{Served}
use Rattle.alb_session.specs.declared.end.SessionEnd.{SessionEnd}
use Rattle.alb_session.specs.declared.end.SessionEnd.TheVariants as session
use Rattle.alb_table.specs.End.{End, NoMemory, end_of}
use Rattle.alb_table.specs.RightTable.{rules_view}
use Rattle.alb_table.specs.declared.end.BuildEnd.{BuildEnd}
use Rattle.alb_io.specs.Writes.{Writes}
use Rattle.alb_io.specs.declared.sink.WriteFault.{WriteFault}
use Rattle.alb_host.specs.Report.{Report, report_text, session_end}
use Rattle.alb_host.specs.Words.{HostWords}
use Rattle.alb_host.specs.declared.report.HostReport.{HostReport}
use Rattle.alb_host.specs.declared.report.SessionReport.{SessionReport}

-- two lists are as long, and this holds of the members at each place
abbrev pub AreEach : {A B : Type 0} → (A → B → Type 0) → List A → List B → Type 0
AreEach R [] [] = Unit {0}
AreEach R [] (y ∷ ys) = ⊥
AreEach R (x ∷ xs) [] = ⊥
AreEach R (x ∷ xs) (y ∷ ys) = R x y × AreEach R xs ys

-- ---- how a run ends

abbrev pub status_of_end : End → Status
status_of_end NoMemory = status.NoMemory
status_of_end other = status.Done

-- THE STATUS after a building and its sessions: that of the first session that did not come to its end; else whether memory ran out
-- in the building
unfoldable pub status_after : End → List SessionEnd → Status
status_after e [] = status_of_end e
status_after e (session.Ended ∷ es) = status_after e es
status_after e (session.ReadFault ∷ es) = status.ReadFault
status_after e (session.WriteFault ∷ es) = status.WriteFault
status_after e (session.InputLimit ∷ es) = status.InputLimit

-- the status that is answered: that of the report, unless it could not be written
abbrev pub status_by : Result (Unit {0}) WriteFault → Status → Status
status_by (Ok u) s = s
status_by (Err e) s = status.ReportFault

-- THE REPORT WAS WRITTEN, or a front of it, and this is the status that is answered
pub record Reports {K : Type 0} (sink : sinks.Ghosts K) (old new : K) (report : Report) (answered : Status) : Type 0 where
  pub written : Result (Unit {0}) WriteFault
  pub writes : Writes sink old new (report_text report) written
  pub status_is : answered ≡ status_by written report.status

-- no building
pub record HasNoRun {I K : Type 0} (r : HostReport I K) : Type 0 where
  pub degree : r.degree ≡ 0
  pub board : r.board ≡ None
  pub builder : r.builder ≡ None
  pub sessions : r.sessions.items ≡ []

module _ {I K : Type 0} (source : sources.Ghosts I) (sink : sinks.Ghosts K) (files : Option Files) (sound : Type 0) where
  -- ---- files, of a desk that tells these, and that is sound or not

  -- the files of a session as they were opened: what the first has left is what the desk tells of it, and the second has the name
  -- and has taken nothing; neither has failed
  pub record AreOpened (names : List ℕ × List ℕ) (s : I) (k : K) : Type 0 where
    pub file : HasFile files names.0 (source.left s)
    pub no_read_fault : source.faults s ≡ 0
    pub sound_source : sound → source.is_sound s
    pub no_write_fault : sink.faults k ≡ 0
    pub empty : IsSome files → (sink.taken k ≡ Some []) × (sink.name k ≡ Some names.1)

  -- ---- the problem file

  -- it was opened and read with this result
  pub record ReadsFile (name : List ℕ) (result : Result Problem ProblemStop) (s : I) : Type 0 where
    pub opened : I
    pub file : HasFile files name (source.left opened)
    pub reads : ReadsProblem result (source.left opened) (source.left s)
    pub fault : result ≡ Err stop.ReadFault → 0 < source.faults s
    pub sound_source : sound → result ≢ Err stop.ReadFault

  -- ---- sessions

  -- A SESSION, by a board: its lines are those of the file that its words name, its pass is one of the board, had seen degree 1 and
  -- no end and was given no shot before, and its answers rest on the shots of this pass
  pub record IsSession (b : Board) (letters : List ℕ) (names : List ℕ × List ℕ) (r : SessionReport I K) : Type 0 where
    pub first : I
    pub created : K
    pub opening : PassView
    pub opened : AreOpened names first created
    pub from : opening.seen ≡ 1
    pub unended : opening.end ≡ None
    pub no_shots : opening.shots ≡ []
    pub own : IsPassOf b r.pass
    pub served : Served r.end (rules_view (board_rules b)) letters opening (pass_view r.pass) (2 ^ 40) (source.left first) (source.left r.source) (sink.taken created) (sink.taken r.sink)
    pub read_fault : r.end ≡ session.ReadFault → 0 < source.faults r.source
    pub write_fault : r.end ≡ session.WriteFault → 0 < sink.faults r.sink
    pub sound_source : sound → r.end ≢ session.ReadFault
    pub name : IsSome files → sink.name r.sink ≡ Some names.1

  -- ---- runs

  -- A RUN WITH A BUILDING: of the problem that the problem file states, on one board, which the builder and all sessions used
  pub record HasRun (w : HostWords) (e : BuildEnd) (r : HostReport I K) : Type 0 where
    pub board : Board
    pub builder : Pass
    pub file : I
    pub problem : Problem
    pub board_is : r.board ≡ Some board
    pub builder_is : r.builder ≡ Some builder
    pub problem_is : r.problem ≡ Some file
    pub reads : ReadsFile w.problem (Ok problem) file
    pub accepted : IsAccepted problem
    pub rules : board_rules board ≡ problem.rules
    pub own : IsPassOf board builder
    pub built : HasBuilt (rules_view (board_rules board)) e (pass_view builder)
    pub builds : (pass_view builder).builder ≡ true
    pub degree : r.degree ≡ (pass_view builder).seen
    pub sessions : AreEach (IsSession board problem.letters) w.sessions r.sessions.items
    pub status : r.status ≡ status_after (end_of e) (map session_end r.sessions.items)
    pub refusal : r.refusal ≡ None

  -- the problem file was read, and this is why there is no problem
  pub record StopsAt (w : HostWords) (why : ProblemStop) (r : HostReport I K) : Type 0 where
    pub file : I
    pub problem_is : r.problem ≡ Some file
    pub reads : ReadsFile w.problem (Err why) file

  -- the problem file was opened, and states a problem
  pub record StatesProblem (w : HostWords) (r : HostReport I K) : Type 0 where
    pub file : I
    pub problem : Problem
    pub problem_is : r.problem ≡ Some file
    pub reads : ReadsFile w.problem (Ok problem) file

  -- a file was not opened: the desk failed in this run, and is not sound, or a file is not among its files. It is the problem file,
  -- or one of a session, and the problem file states a problem.
  pub record FailsToOpen (w : HostWords) (before now : ℕ) (r : HostReport I K) : Type 0 where
    pub rose : Rose before now
    pub missing : sound → IsFile files w.problem → All (λ (n : List ℕ × List ℕ). IsFile files n.0) w.sessions → ⊥
    pub problem : (r.problem ≡ None) ⊎ StatesProblem w r

  -- there was no building, for this reason; `before` and `now` count the faults of the desk
  abbrev pub StopsSo : HostWords → ℕ → ℕ → Status → Option (ℕ × ℕ) → HostReport I K → Type 0
  StopsSo w before now status.Refused (Some (line, code)) r = StopsAt w (stop.Refused line code) r
  StopsSo w before now status.ReadFault None r = StopsAt w stop.ReadFault r
  StopsSo w before now status.InputLimit None r = StopsAt w stop.InputLimit r
  StopsSo w before now status.OpenFault None r = FailsToOpen w before now r
  StopsSo w before now status.NoMemory None r = Unit {0}
  StopsSo w before now other refusal r = ⊥

  abbrev pub RunsBy : HostWords → ℕ → ℕ → Option BuildEnd → HostReport I K → Type 0
  RunsBy w before now (Some e) r = HasRun w e r
  RunsBy w before now None r = HasNoRun r × StopsSo w before now r.status r.refusal r

  -- WHAT A RUN CAME TO, by its words. Where they say nothing, nothing is opened; memory may run out while they are read
  abbrev pub Runs : Option HostWords → ℕ → ℕ → HostReport I K → Type 0
  Runs (Some w) before now r = RunsBy w before now r.build r
  Runs None before now r = (r.build ≡ None) × HasNoRun r × (r.problem ≡ None) × (r.refusal ≡ None) × ((r.status ≡ status.Usage) ⊎ (r.status ≡ status.NoMemory))
