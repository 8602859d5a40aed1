-- The jobs of a run. Contracts of private functions alone speak of it.
use Rattle.std.specs.Prelude.{All, map, Vec, vec_capacity, ◌≡◌, ◌≢◌, ℕ, ◌<◌, ◌≤◌, ◌^◌, true, List, [], ◌∷◌, length, slice_index_or, Option, None, Some}
use Rattle.std.specs.Arc.{arc_value}
use Rattle.std.specs.declared.sync.Arc.{Arc}
use Rattle.std.specs.declared.alloc.Global.{Global}
use Rattle.alb_table.specs.declared.tables.Tables.{Tables}
use Rattle.alb_table.specs.declared.end.BuildEnd.{BuildEnd}
use Rattle.alb_board.specs.declared.kept.PassView.{PassView}
use Rattle.alb_board.specs.Passes.{board_rules, IsPassOf, pass_view}
use Rattle.alb_board.specs.declared.rule.Board.{Board}
use Rattle.alb_board.specs.declared.rule.Pass.{Pass}
use Rattle.alb_builder.specs.Building.{HasBuilt}
use Rattle.alb_io.specs.Causes.{Rose}
use Rattle.alb_io.specs.Files.{Files}
use Rattle.alb_io.specs.declared.sink.Sink as sinks
use Rattle.alb_io.specs.declared.source.Source as sources
use Rattle.alb_session.specs.Served.{Served, IsNewReader}
use Rattle.alb_session.specs.declared.end.SessionEnd.TheVariants as session
use Rattle.alb_table.specs.RightTable.{rules_view, AreRules, IsRightFor}
use Rattle.alb_table.specs.Table.{Table}
use Rattle.alb_io.specs.declared.status.Status.{Status}
use Rattle.alb_io.specs.declared.status.Status.TheVariants as status
use Rattle.alb_problem.specs.declared.problem.Problem.{Problem}
use Rattle.alb_problem_file.specs.declared.stop.ProblemStop.{ProblemStop}
use Rattle.alb_problem_file.specs.declared.stop.ProblemStop.TheVariants as stop
use Rattle.alb_table.specs.End.{end_of}
use Rattle.alb_host.specs.Report.{session_end}
use Rattle.alb_host.specs.Runs.{AreOpened, AreEach, status_after}
use Rattle.alb_host.specs.declared.sessions.Ran.{Ran}
use Rattle.alb_host.specs.declared.collect.Built.{Built}
use Rattle.alb_host.specs.declared.files.Opened.{Opened}
use Rattle.alb_host.specs.declared.jobs.Start.{Start}
use Rattle.alb_host.specs.declared.jobs.Job.{Job}
use Rattle.alb_host.specs.declared.jobs.Job.TheVariants as job
use Rattle.alb_host.specs.declared.jobs.Done.{Done}
use Rattle.alb_host.specs.declared.jobs.Done.TheVariants as done
use Rattle.alb_host.specs.declared.report.HostReport.{HostReport}
use Rattle.alb_host.specs.declared.report.SessionReport.{SessionReport}

-- the builder's pass of the board, with which nothing was published, and the table of degree 1
pub record IsReadyBuilder (b : Board) (p : Pass) (t : Table) : Type 0 where
  pub right : IsRightFor (rules_view (board_rules b)) t
  pub first : t.degree ≡ 1
  pub own : IsPassOf b p
  pub builder : (pass_view p).builder ≡ true
  pub unended : (pass_view p).end ≡ None
  pub seen : (pass_view p).seen ≡ 1
  pub known : (pass_view p).known ≡ 1
  pub calls : (pass_view p).calls ≡ 0

-- the pass split off others, and is else as it was
abbrev pub IsSplitFrom : PassView → PassView → Type 0
IsSplitFrom v w = w ≡ record v { passes = w.passes }

abbrev pub built_pair : Built → Pass × BuildEnd
built_pair b = (b.pass, b.end)

module _ {I K : Type 0} where
  -- a new pass of the board, and a new reader
  pub record IsStarted (b : Board) (s : Start I K) : Type 0 where
    pub own : IsPassOf b s.pass
    pub calls : (pass_view s.pass).calls ≡ 0
    pub seen : (pass_view s.pass).seen ≡ 1
    pub unended : (pass_view s.pass).end ≡ None
    pub shots : (pass_view s.pass).shots ≡ []
    pub reader : IsNewReader s.reader
    pub room : s.reader.room ≡ 2 ^ 40

  abbrev pub session_files : Start I K → Opened I K
  session_files s = s.files

  abbrev pub builder_job : Pass → Arc Tables Global → Job I K
  builder_job p t = job.Build p t

  abbrev pub serve_job : Start I K → Job I K
  serve_job s = job.Serve s

  abbrev pub served : SessionReport I K → Done I K
  served r = done.Served r

  -- the sessions among what jobs left, and the builder's pass and the end, in the last place where a builder left them
  abbrev pub sessions_of : List (Done I K) → List (SessionReport I K)
  sessions_of [] = []
  sessions_of (done.Built p e ∷ ds) = sessions_of ds
  sessions_of (done.Served r ∷ ds) = r ∷ sessions_of ds

  abbrev pub built_of : Option (Pass × BuildEnd) → List (Done I K) → Option (Pass × BuildEnd)
  built_of o [] = o
  built_of o (done.Built p e ∷ ds) = built_of (Some (p, e)) ds
  built_of o (done.Served r ∷ ds) = built_of o ds

  abbrev pub IsReady : Board → Job I K → Type 0
  IsReady b (job.Build p t) = IsReadyBuilder b p (arc_value t)
  IsReady b (job.Serve s) = IsStarted b s

module _ {I K : Type 0} (source : sources.Ghosts I) (sink : sinks.Ghosts K) where
  abbrev pub IsOpenedAs : Option Files → Type 0 → List ℕ × List ℕ → Opened I K → Type 0
  IsOpenedAs files sound names o = AreOpened source sink files sound names o.source o.sink

  -- what a session did
  pub record HasServed (b : Board) (letters : List ℕ) (s : Start I K) (r : SessionReport I K) : Type 0 where
    pub own : IsPassOf b r.pass
    pub served : Served r.end (rules_view (board_rules b)) letters (pass_view s.pass) (pass_view r.pass) (2 ^ 40) (source.left s.files.source) (source.left r.source) (sink.taken s.files.sink) (sink.taken r.sink)
    pub read_fault : r.end ≡ session.ReadFault → Rose (source.faults s.files.source) (source.faults r.source)
    pub write_fault : r.end ≡ session.WriteFault → Rose (sink.faults s.files.sink) (sink.faults r.sink)
    pub sound_source : source.is_sound s.files.source → r.end ≢ session.ReadFault
    pub same_name : sink.name r.sink ≡ sink.name s.files.sink

  -- what each job leaves
  abbrev pub IsDone : Board → List ℕ → Job I K → Done I K → Type 0
  IsDone b letters (job.Build p t) (done.Built q e) = IsPassOf b q × HasBuilt (rules_view (board_rules b)) e (pass_view q) × ((pass_view q).builder ≡ true)
  IsDone b letters (job.Serve s) (done.Served r) = HasServed b letters s r
  IsDone b letters (job.Build p t) (done.Served r) = ⊥
  IsDone b letters (job.Serve s) (done.Built q e) = ⊥

-- the rules of the board are fit for tables, each of their generators has a letter, and there are 1 to 16 workers
pub record IsCommon (b : Board) (letters : List ℕ) (workers : ℕ) : Type 0 where
  pub rules : AreRules (rules_view (board_rules b))
  pub letters_fit : length letters ≡ length (board_rules b).target
  pub some_worker : 0 < workers
  pub few_workers : workers ≤ 16

-- as many were done as there were jobs, each at its place
pub record AreDone {I K : Type 0} (source : sources.Ghosts I) (sink : sinks.Ghosts K) (b : Board) (letters : List ℕ) (jobs : List (Job I K)) (dones : List (Done I K)) : Type 0 where
  pub full : length dones ≡ length jobs
  pub each : (i : ℕ) (j : Job I K) (d : Done I K) → i < length jobs → j ≡ slice_index_or jobs i j → IsDone source sink b letters j (slice_index_or dones i d)

-- all is made for the jobs of a problem and these files: on a board of its rules, the builder and a session for each pair of files,
-- and room for what the sessions leave
pub record IsPrepared {I K : Type 0} (q : Problem) (files : List (Opened I K)) (b : Board) (letters : List ℕ) (jobs : List (Job I K)) (left : Vec (SessionReport I K) Global) : Type 0 where
  pub rules : board_rules b ≡ q.rules
  pub letters_are : letters ≡ q.letters
  pub builder : Pass
  pub first : Arc Tables Global
  pub starts : List (Start I K)
  pub jobs_are : jobs ≡ builder_job builder first ∷ map serve_job starts
  pub ready : IsReadyBuilder b builder (arc_value first)
  pub started : All (IsStarted b) starts
  pub files_are : map session_files starts ≡ files
  pub empty : left.items ≡ []
  pub room : length files ≤ vec_capacity left

-- the builder and the sessions ran
pub record HasRunSo {I K : Type 0} (source : sources.Ghosts I) (sink : sinks.Ghosts K) (q : Problem) (files : List (Opened I K)) (r : Ran I K) : Type 0 where
  pub rules : board_rules r.board ≡ q.rules
  pub own : IsPassOf r.board r.builder
  pub built : HasBuilt (rules_view (board_rules r.board)) r.end (pass_view r.builder)
  pub builds : (pass_view r.builder).builder ≡ true
  pub starts : List (Start I K)
  pub started : All (IsStarted r.board) starts
  pub files_are : map session_files starts ≡ files
  pub served : AreEach (HasServed source sink r.board q.letters) starts r.sessions.items

-- the status and the refusal of a problem file that gives no problem
abbrev pub status_of_stop : ProblemStop → Status
status_of_stop (stop.Refused line code) = status.Refused
status_of_stop stop.ReadFault = status.ReadFault
status_of_stop stop.InputLimit = status.InputLimit
status_of_stop stop.NoMemory = status.NoMemory

abbrev pub refusal_of_stop : ProblemStop → Option (ℕ × ℕ)
refusal_of_stop (stop.Refused line code) = Some (line, code)
refusal_of_stop other = None

-- what is left of a building and its sessions is reported, with the problem file
pub record IsReportOf {I K : Type 0} (ran : Ran I K) (file : I) (r : HostReport I K) : Type 0 where
  pub status : r.status ≡ status_after (end_of ran.end) (map session_end ran.sessions.items)
  pub refusal : r.refusal ≡ None
  pub problem : r.problem ≡ Some file
  pub degree : r.degree ≡ (pass_view ran.builder).seen
  pub build : r.build ≡ Some ran.end
  pub board : r.board ≡ Some ran.board
  pub builder : r.builder ≡ Some ran.builder
  pub sessions : r.sessions.items ≡ ran.sessions.items
