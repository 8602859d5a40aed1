-- What a run came to.
use Rattle.std.proofs.Common.{◌≡◌, ◌≢◌, ℕ, ◌<◌, ◌≤◌, List, [], ◌∷◌, length, map, All, Option, None, Some, Result, Ok, Err, IsSome, sym, ap, ◌∙◌, subst, inl, inr, arith}
use Rattle.std.proofs.lemmas.List.{length-map}
use Rattle.std.proofs.lemmas.List.Elements.{All-head, All-tail}
use Rattle.alb_board.specs.Passes.{pass_view}
use Rattle.alb_board.specs.declared.rule.Board.{Board}
use Rattle.alb_io.specs.Causes.{Rose}
use Rattle.alb_io.specs.declared.sink.Sink as sinks
use Rattle.alb_io.specs.declared.source.Source as sources
use Rattle.alb_io.specs.declared.status.Status.{Status}
use Rattle.alb_io.specs.declared.status.Status.TheVariants as status
use Rattle.alb_problem_file.specs.declared.stop.ProblemStop.{ProblemStop}
use Rattle.alb_problem_file.specs.declared.stop.ProblemStop.TheVariants as stop
use Rattle.alb_table.specs.declared.end.BuildEnd.{BuildEnd}
use Rattle.alb_io.specs.Files.{Files, HasFile, IsFile}
use Rattle.alb_problem.specs.Problem.{IsAccepted}
use Rattle.alb_problem.specs.declared.problem.Problem.{Problem}
use Rattle.alb_problem_file.specs.Read.{ReadsProblem}
use Rattle.alb_session.specs.declared.end.SessionEnd.{SessionEnd}
use Rattle.alb_session.specs.declared.end.SessionEnd.TheVariants as session
use Rattle.alb_table.specs.End.{End, Complete, TooWide, TooManyProducts, TooManyCoefficients, NoMemory, end_of}
use Rattle.alb_host.specs.Report.{session_end}
use Rattle.alb_host.specs.declared.files.Opened.{Opened}
use Rattle.alb_host.specs.declared.sessions.Ran.{Ran}
use Rattle.alb_host.specs.Runs.{status_of_end, status_after, ReadsFile, AreEach, IsSession, FailsToOpen, HasNoRun, HasRun, StopsAt, StopsSo, RunsBy, Runs}
use Rattle.alb_host.specs.Steps.{HasRunSo, IsReportOf, IsStarted, IsOpenedAs, HasServed, session_files, status_of_stop, refusal_of_stop}
use Rattle.alb_host.specs.Words.{HostWords, names_view}
use Rattle.alb_host.specs.declared.jobs.Start.{Start}
use Rattle.alb_host.specs.declared.words.Names.{Names}
use Rattle.alb_host.proofs.PreparedLemmas.{each-length}
use Rattle.alb_host.specs.declared.report.HostReport.{HostReport}
use Rattle.alb_host.specs.declared.report.SessionReport.{SessionReport}

-- a count that was 0 is above 0 after a fault
above-none : (before now : ℕ) → before ≡ 0 → Rose before now → 0 < now
above-none before now none rose = omega (arith, none, rose)

-- a count that was not less before rose
pub rose-since : (a b c : ℕ) → a ≤ b → Rose b c → Rose a c
rose-since a b c le rose = omega (arith, le, rose)

-- a run with a building has another status than one whose words say nothing
never-end : (e : End) → status_of_end e ≡ status.Usage → ⊥
never-end Complete h = cc
never-end (TooWide w n) h = cc
never-end (TooManyProducts n) h = cc
never-end (TooManyCoefficients n) h = cc
never-end NoMemory h = cc

never-after : (e : End) (es : List SessionEnd) → status_after e es ≡ status.Usage → ⊥
unfolding status_after
never-after e [] h = never-end e h
never-after e (session.Ended ∷ es) h = never-after e es h
never-after e (session.ReadFault ∷ es) h = cc
never-after e (session.WriteFault ∷ es) h = cc
never-after e (session.InputLimit ∷ es) h = cc

-- the files that are read are among those that a desk tells later
pub files-later : (files later : Option Files) (ns ms : List Names) → later ≡ files → ms ≡ ns → All (λ (n : List ℕ × List ℕ). IsFile files n.0) (map names_view ns)
    → All (λ (n : List ℕ × List ℕ). IsFile later n.0) (map names_view ms)
files-later files later ns ms same are all =
    subst (λ (xs : List Names). All (λ (n : List ℕ × List ℕ). IsFile later n.0) (map names_view xs)) (sym are)
    (subst (λ (fs : Option Files). All (λ (n : List ℕ × List ℕ). IsFile fs n.0) (map names_view ns)) (sym same) all)

-- what a later desk says of opened files, said by the desk before
module _ {I K : Type 0} (source : sources.Ghosts I) (sink : sinks.Ghosts K) (files later : Option Files) (sound still : Type 0) (same : later ≡ files) (stays : sound → still) where
  opened-one : (n : List ℕ × List ℕ) (o : Opened I K) → IsOpenedAs source sink later still n o → IsOpenedAs source sink files sound n o
  opened-one n o h = record {
    file = subst (λ (fs : Option Files). HasFile fs n.0 (source.left o.source)) same h.file;
    no_read_fault = h.no_read_fault;
    sound_source = λ k. h.sound_source (stays k);
    no_write_fault = h.no_write_fault;
    empty = λ told. h.empty (subst (λ (fs : Option Files). IsSome fs) (sym same) told);
  }

  -- as many were opened as there are pairs of names
  pub opened-few : (ns ms : List Names) (os : List (Opened I K)) → ms ≡ ns → length ns ≤ 8 → AreEach (IsOpenedAs source sink later still) (map names_view ms) os → length os ≤ 8
  opened-few ns ms os are few h = omega (arith, few, ap length are, length-map ms names_view, each-length (IsOpenedAs source sink later still) (map names_view ms) os h)

  opened-before : (names : List (List ℕ × List ℕ)) (os : List (Opened I K)) → AreEach (IsOpenedAs source sink later still) names os → AreEach (IsOpenedAs source sink files sound) names os
  opened-before [] [] h = tt
  opened-before [] (o ∷ os) h = absurd h
  opened-before (n ∷ names) [] h = absurd h
  opened-before (n ∷ names) (o ∷ os) h = (opened-one n o h.0, opened-before names os h.1)

  pub opened-at : (ns ms : List Names) (os : List (Opened I K)) → ms ≡ ns → AreEach (IsOpenedAs source sink later still) (map names_view ms) os → AreEach (IsOpenedAs source sink files sound) (map names_view ns) os
  opened-at ns ms os are h = subst (λ (xs : List Names). AreEach (IsOpenedAs source sink files sound) (map names_view xs) os) are (opened-before (map names_view ms) os h)

module _ {I K : Type 0} (source : sources.Ghosts I) (sink : sinks.Ghosts K) (files : Option Files) (sound : Type 0) where
  -- ---- sessions

  session-is : (b : Board) (letters : List ℕ) (names : List ℕ × List ℕ) (s : Start I K) (r : SessionReport I K) → IsOpenedAs source sink files sound names (session_files s) → IsStarted b s
      → HasServed source sink b letters s r → IsSession source sink files sound b letters names r
  session-is b letters names s r o started h = record {
    first = s.files.source;
    created = s.files.sink;
    opening = pass_view s.pass;
    opened = o;
    from = started.seen;
    unended = started.unended;
    no_shots = started.shots;
    own = h.own;
    served = h.served;
    read_fault = λ e. above-none (source.faults s.files.source) (source.faults r.source) o.no_read_fault (h.read_fault e);
    write_fault = λ e. above-none (sink.faults s.files.sink) (sink.faults r.sink) o.no_write_fault (h.write_fault e);
    sound_source = λ k. h.sound_source (o.sound_source k);
    name = λ told. h.same_name ∙ (o.empty told).1;
  }

  pub sessions-are : (b : Board) (letters : List ℕ) (names : List (List ℕ × List ℕ)) (starts : List (Start I K)) (reports : List (SessionReport I K))
      → AreEach (IsOpenedAs source sink files sound) names (map session_files starts) → All (IsStarted b) starts → AreEach (HasServed source sink b letters) starts reports
      → AreEach (IsSession source sink files sound b letters) names reports
  sessions-are b letters [] [] [] o started h = tt
  sessions-are b letters [] [] (r ∷ reports) o started h = absurd h
  sessions-are b letters [] (s ∷ starts) reports o started h = absurd o
  sessions-are b letters (n ∷ names) [] reports o started h = absurd o
  sessions-are b letters (n ∷ names) (s ∷ starts) [] o started h = absurd h
  sessions-are b letters (n ∷ names) (s ∷ starts) (r ∷ reports) o started h =
      (session-is b letters n s r o.0 (All-head (IsStarted b) s starts started) h.0, sessions-are b letters names starts reports o.1 (All-tail (IsStarted b) s starts started) h.1)

  -- ---- runs

  runs-by : (w : HostWords) (before now : ℕ) (r : HostReport I K) → r.build ≡ None → HasNoRun r → StopsSo source sink files sound w before now r.status r.refusal r
      → Runs source sink files sound (Some w) before now r
  runs-by w before now r none empty h = subst (λ (o : Option BuildEnd). RunsBy source sink files sound w before now o r) (sym none) (empty, h)

  -- a file was not opened
  pub stops-open : (w : HostWords) (before now : ℕ) (r : HostReport I K) → r.build ≡ None → HasNoRun r → r.status ≡ status.OpenFault → r.refusal ≡ None
      → FailsToOpen source sink files sound w before now r → Runs source sink files sound (Some w) before now r
  stops-open w before now r none empty is refusal h =
      runs-by w before now r none empty
      (subst (λ (s : Status). StopsSo source sink files sound w before now s r.refusal r) (sym is)
      (subst (λ (o : Option (ℕ × ℕ)). StopsSo source sink files sound w before now status.OpenFault o r) (sym refusal) h))

  -- there was no memory
  pub stops-memory : (w : HostWords) (before now : ℕ) (r : HostReport I K) → r.build ≡ None → HasNoRun r → r.status ≡ status.NoMemory → r.refusal ≡ None
      → Runs source sink files sound (Some w) before now r
  stops-memory w before now r none empty is refusal =
      runs-by w before now r none empty
      (subst (λ (s : Status). StopsSo source sink files sound w before now s r.refusal r) (sym is)
      (subst (λ (o : Option (ℕ × ℕ)). StopsSo source sink files sound w before now status.NoMemory o r) (sym refusal) tt))

  -- the problem file gives no problem
  stops-so : (w : HostWords) (before now : ℕ) (why : ProblemStop) (r : HostReport I K) → StopsAt source sink files sound w why r
      → StopsSo source sink files sound w before now (status_of_stop why) (refusal_of_stop why) r
  stops-so w before now (stop.Refused line code) r h = h
  stops-so w before now stop.ReadFault r h = h
  stops-so w before now stop.InputLimit r h = h
  stops-so w before now stop.NoMemory r h = tt

  pub stops-file : (w : HostWords) (before now : ℕ) (why : ProblemStop) (r : HostReport I K) → r.build ≡ None → HasNoRun r → r.status ≡ status_of_stop why
      → r.refusal ≡ refusal_of_stop why → StopsAt source sink files sound w why r → Runs source sink files sound (Some w) before now r
  stops-file w before now why r none empty is refusal h =
      runs-by w before now r none empty
      (subst (λ (s : Status). StopsSo source sink files sound w before now s r.refusal r) (sym is)
      (subst (λ (o : Option (ℕ × ℕ)). StopsSo source sink files sound w before now (status_of_stop why) o r) (sym refusal) (stops-so w before now why r h)))

  -- ---- a building

  pub reads-file : (name : List ℕ) (result : Result Problem ProblemStop) (opened s : I) → HasFile files name (source.left opened) → source.faults opened ≡ 0 → (sound → source.is_sound opened)
      → ReadsProblem result (source.left opened) (source.left s) → (result ≡ Err stop.ReadFault → Rose (source.faults opened) (source.faults s)) → (source.is_sound opened → result ≢ Err stop.ReadFault)
      → ReadsFile source sink files sound name result s
  reads-file name result opened s file none ready reads fault stays = record {
    opened = opened;
    file = file;
    reads = reads;
    fault = λ e. above-none (source.faults opened) (source.faults s) none (fault e);
    sound_source = λ k. stays (ready k);
  }

  pub has-run : (w : HostWords) (q : Problem) (opened : List (Opened I K)) (ran : Ran I K) (file : I) (r : HostReport I K) → ReadsFile source sink files sound w.problem (Ok q) file → IsAccepted q
      → AreEach (IsOpenedAs source sink files sound) w.sessions opened → HasRunSo source sink q opened ran → IsReportOf ran file r → HasRun source sink files sound w ran.end r
  has-run w q opened ran file r reads accepted are h is = record {
    board = ran.board;
    builder = ran.builder;
    file = file;
    problem = q;
    board_is = is.board;
    builder_is = is.builder;
    problem_is = is.problem;
    reads = reads;
    accepted = accepted;
    rules = h.rules;
    own = h.own;
    built = h.built;
    builds = h.builds;
    degree = is.degree;
    sessions = subst (λ (rs : List (SessionReport I K)). AreEach (IsSession source sink files sound ran.board q.letters) w.sessions rs) (sym is.sessions)
        (sessions-are ran.board q.letters w.sessions h.starts ran.sessions.items
        (subst (λ (os : List (Opened I K)). AreEach (IsOpenedAs source sink files sound) w.sessions os) (sym h.files_are) are) h.started h.served);
    status = is.status ∙ ap (λ (rs : List (SessionReport I K)). status_after (end_of ran.end) (map session_end rs)) (sym is.sessions);
    refusal = is.refusal;
  }

  -- there was a building
  pub runs-built : (w : HostWords) (before now : ℕ) (e : BuildEnd) (r : HostReport I K) → r.build ≡ Some e → HasRun source sink files sound w e r → Runs source sink files sound (Some w) before now r
  runs-built w before now e r is h = subst (λ (o : Option BuildEnd). RunsBy source sink files sound w before now o r) (sym is) h

  -- ---- words

  -- there was no memory, whatever the words say
  pub runs-memory : (o : Option HostWords) (before now : ℕ) (r : HostReport I K) → r.build ≡ None → HasNoRun r → r.problem ≡ None → r.refusal ≡ None → r.status ≡ status.NoMemory
      → Runs source sink files sound o before now r
  runs-memory (Some w) before now r none empty problem refusal is = stops-memory w before now r none empty is refusal
  runs-memory None before now r none empty problem refusal is = (none, empty, problem, refusal, inr is)

  -- the words say nothing
  pub runs-usage : (o : Option HostWords) (before now : ℕ) (r : HostReport I K) → o ≡ None → r.build ≡ None → HasNoRun r → r.problem ≡ None → r.refusal ≡ None → r.status ≡ status.Usage
      → Runs source sink files sound o before now r
  runs-usage o before now r nothing none empty problem refusal is =
      subst (λ (p : Option HostWords). Runs source sink files sound p before now r) (sym nothing) (none, empty, problem, refusal, inl is)

  -- where the words say something, the status is another one than that of words that say nothing
  never-stop : (w : HostWords) (before now : ℕ) (o : Option (ℕ × ℕ)) (r : HostReport I K) → StopsSo source sink files sound w before now status.Usage o r → ⊥
  never-stop w before now None r h = h
  never-stop w before now (Some x) r h = h

  never-usage-by : (w : HostWords) (before now : ℕ) (o : Option BuildEnd) (r : HostReport I K) → RunsBy source sink files sound w before now o r → r.status ≡ status.Usage → ⊥
  never-usage-by w before now None r h is = never-stop w before now r.refusal r (subst (λ (s : Status). StopsSo source sink files sound w before now s r.refusal r) is h.1)
  never-usage-by w before now (Some e) r h is = never-after (end_of e) (map session_end r.sessions.items) (sym h.status ∙ is)

  pub never-usage : (w : HostWords) (before now : ℕ) (r : HostReport I K) → Runs source sink files sound (Some w) before now r → r.status ≡ status.Usage → ⊥
  never-usage w before now r h is = never-usage-by w before now r.build r h is
