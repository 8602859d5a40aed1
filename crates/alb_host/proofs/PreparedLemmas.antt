-- What is made before a job runs, and what has run of it.
use Rattle.std.proofs.Common.{◌≡◌, ℕ, suc, ◌≤◌, List, [], ◌∷◌, length, map, All, Option, None, Some, option_map, Vec, vec_capacity, Global, refl, sym, ap, ◌∙◌, subst, arith}
use Rattle.std.specs.Arc.{arc_value}
use Rattle.std.specs.declared.sync.Arc.{Arc}
use Rattle.std.proofs.lemmas.List.{length-map}
use Rattle.std.proofs.lemmas.List.Elements.{All-nil, All-cons, All-head, All-tail}
use Rattle.alb_board.specs.Passes.{board_rules, IsPassOf, pass_view}
use Rattle.alb_board.specs.Views.{first_view}
use Rattle.alb_board.specs.declared.kept.PassView.{PassView}
use Rattle.alb_board.specs.declared.rule.Board.{Board}
use Rattle.alb_board.specs.declared.rule.Pass.{Pass}
use Rattle.alb_builder.specs.Building.{HasBuilt}
use Rattle.alb_io.specs.declared.sink.Sink as sinks
use Rattle.alb_io.specs.declared.source.Source as sources
use Rattle.alb_poly.specs.declared.rules.Rules.{Rules}
use Rattle.alb_problem.specs.Problem.{IsAccepted}
use Rattle.alb_problem.specs.declared.problem.Problem.{Problem}
use Rattle.alb_table.specs.RightTable.{rules_view, AreRules, IsRightFor}
use Rattle.alb_table.specs.Table.{Table, first_table}
use Rattle.alb_table.specs.declared.end.BuildEnd.{BuildEnd}
use Rattle.alb_table.specs.declared.tables.Tables.{Tables}
use Rattle.alb_table.proofs.AcceptedRules.{accepted-rules}
use Rattle.alb_table.proofs.RightForLemmas.{first-right-for, rules-multilinear}
use Rattle.alb_host.specs.Runs.{AreEach}
use Rattle.alb_host.specs.Steps.{IsReadyBuilder, IsSplitFrom, IsStarted, IsReady, AreDone, IsPrepared, HasServed, HasRunSo, builder_job, serve_job, session_files, sessions_of, built_of, built_pair}
use Rattle.alb_host.specs.declared.collect.Built.{Built}
use Rattle.alb_host.specs.declared.files.Opened.{Opened}
use Rattle.alb_host.specs.declared.jobs.Start.{Start}
use Rattle.alb_host.specs.declared.jobs.Job.{Job}
use Rattle.alb_host.specs.declared.jobs.Done.{Done}
use Rattle.alb_host.specs.declared.report.SessionReport.{SessionReport}
use Rattle.alb_host.specs.declared.sessions.Ran.{Ran}
use Rattle.alb_host.proofs.JobLemmas.{HaveRun, have-run, sessions-are, built-is}

-- ---- before

-- the table of degree 1 is right
pub right-first : (rules shared : Rules) (t : Table) → AreRules (rules_view rules) → shared ≡ rules → t ≡ first_table rules.field rules.target → IsRightFor (rules_view shared) t
right-first rules shared t h same is =
    subst (λ (x : Rules). IsRightFor (rules_view x) t) (sym same)
    (subst (IsRightFor (rules_view rules)) (sym is) (first-right-for (rules_view rules) h.prime h.goal (rules-multilinear (rules_view rules) h) h.high))

-- the pass with which a board was opened, which only split since, and the table of degree 1
pub ready-builder : (b : Board) (rules : Rules) (p q : Pass) (t : Table) → AreRules (rules_view rules) → board_rules b ≡ rules → t ≡ first_table rules.field rules.target
    → pass_view p ≡ first_view rules → IsSplitFrom (pass_view p) (pass_view q) → IsPassOf b q → IsReadyBuilder b q t
ready-builder b rules p q t h same is first split own =
    let e : pass_view q ≡ record (first_view rules) { passes = (pass_view q).passes } = split ∙ ap (λ (v : PassView). record v { passes = (pass_view q).passes }) first in
    record {
      right = right-first rules (board_rules b) t h same is;
      first = ap (λ (x : Table). x.degree) is;
      own = own;
      builder = ap (λ (v : PassView). v.builder) e;
      unended = ap (λ (v : PassView). v.end) e;
      seen = ap (λ (v : PassView). v.seen) e;
      known = ap (λ (v : PassView). v.known) e;
      calls = ap (λ (v : PassView). v.calls) e;
    }

-- the rules of the board of an accepted problem
pub board-rules : (b : Board) (q : Problem) → IsAccepted q → board_rules b ≡ q.rules → AreRules (rules_view (board_rules b))
board-rules b q a same = subst (λ (x : Rules). AreRules (rules_view x)) (sym same) (accepted-rules q a)

pub board-letters : (b : Board) (letters : List ℕ) (q : Problem) → IsAccepted q → board_rules b ≡ q.rules → letters ≡ q.letters → length letters ≡ length (board_rules b).target
board-letters b letters q a same is = ap length is ∙ a.named ∙ ap (λ (x : Rules). length x.target) (sym same)

module _ {I K : Type 0} where
  all-serve : (b : Board) (starts : List (Start I K)) → All (IsStarted b) starts → All (IsReady b) (map serve_job starts)
  all-serve b [] h = All-nil (IsReady b)
  all-serve b (s ∷ starts) h = All-cons (IsReady b) (serve_job s) (map serve_job starts) (All-head (IsStarted b) s starts h) (all-serve b starts (All-tail (IsStarted b) s starts h))

  pub all-ready : (b : Board) (p : Pass) (t : Arc Tables Global) (starts : List (Start I K)) (jobs : List (Job I K)) → jobs ≡ builder_job p t ∷ map serve_job starts
      → IsReadyBuilder b p (arc_value t) → All (IsStarted b) starts → All (IsReady b) jobs
  all-ready b p t starts jobs is ready started =
      subst (All (IsReady b)) (sym is) (All-cons (IsReady b) (builder_job p t) (map serve_job starts) ready (all-serve b starts started))

-- ---- after

pub each-length : {A B : Type 0} (R : A → B → Type 0) (xs : List A) (ys : List B) → AreEach R xs ys → length xs ≡ length ys
each-length R [] [] h = refl
each-length R [] (y ∷ ys) h = absurd h
each-length R (x ∷ xs) [] h = absurd h
each-length R (x ∷ xs) (y ∷ ys) h = ap suc (each-length R xs ys h.1)

module _ {I K : Type 0} (source : sources.Ghosts I) (sink : sinks.Ghosts K) (q : Problem) (files : List (Opened I K)) (b : Board) (letters : List ℕ) (jobs : List (Job I K))
    (left : Vec (SessionReport I K) Global) (dones : List (Done I K)) (p : IsPrepared q files b letters jobs left) (h : AreDone source sink b letters jobs dones) where
  abbrev ran : HaveRun source sink b letters p.starts dones
  ran = have-run source sink b letters p.builder p.first p.starts jobs dones p.jobs_are h

  reports-are : sessions_of dones ≡ ran.reports
  reports-are = ap sessions_of ran.are ∙ sessions-are source sink b letters ran.reports

  pair-is : built_of None dones ≡ Some (ran.pass, ran.end)
  pair-is = ap (built_of None) ran.are ∙ built-is source sink b letters (Some (ran.pass, ran.end)) ran.reports

  -- there is room for what the sessions left
  pub room-there : length (sessions_of dones) ≤ vec_capacity left
  room-there = omega (
    arith,
    ap length reports-are,
    each-length (HasServed source sink b letters) p.starts ran.reports ran.each,
    length-map p.starts session_files,
    ap length p.files_are,
    p.room,
  )

  -- the builder left its pass and the end
  pub built-there : (o : Option Built) → option_map built_pair o ≡ built_of None dones → o ≡ None → ⊥
  built-there o is none = let e : ◌≡◌ {A = Option (Pass × BuildEnd)} None (Some (ran.pass, ran.end)) = ap (option_map built_pair) (sym none) ∙ is ∙ pair-is in cc

  pub has-run-so : (r : Ran I K) → r.board ≡ b → r.sessions.items ≡ sessions_of dones → Some (r.builder, r.end) ≡ built_of None dones → HasRunSo source sink q files r
  has-run-so r board sessions built =
      let both : ◌≡◌ {A = Option (Pass × BuildEnd)} (Some (r.builder, r.end)) (Some (ran.pass, ran.end)) = built ∙ pair-is in
      let same : ◌≡◌ {A = Pass × BuildEnd} (r.builder, r.end) (ran.pass, ran.end) = cc in
      let pass : r.builder ≡ ran.pass = ap (λ s. s.0) same in
      let end : r.end ≡ ran.end = ap (λ s. s.1) same in
      let fits : HasBuilt (rules_view (board_rules b)) r.end (pass_view r.builder) =
      subst (λ (x : Pass). HasBuilt (rules_view (board_rules b)) r.end (pass_view x)) (sym pass)
      (subst (λ (e : BuildEnd). HasBuilt (rules_view (board_rules b)) e (pass_view ran.pass)) (sym end) ran.built) in
      let each : AreEach (HasServed source sink b q.letters) p.starts r.sessions.items =
      subst (λ (rs : List (SessionReport I K)). AreEach (HasServed source sink b q.letters) p.starts rs) (sym (sessions ∙ reports-are))
      (subst (λ (ls : List ℕ). AreEach (HasServed source sink b ls) p.starts ran.reports) p.letters_are ran.each) in
      record {
        rules = ap board_rules board ∙ p.rules;
        own = subst (λ (x : Board). IsPassOf x r.builder) (sym board) (subst (IsPassOf b) (sym pass) ran.own);
        built = subst (λ (x : Board). HasBuilt (rules_view (board_rules x)) r.end (pass_view r.builder)) (sym board) fits;
        builds = ap (λ (x : Pass). (pass_view x).builder) pass ∙ ran.builds;
        starts = p.starts;
        started = subst (λ (x : Board). All (IsStarted x) p.starts) (sym board) p.started;
        files_are = p.files_are;
        served = subst (λ (x : Board). AreEach (HasServed source sink x q.letters) p.starts r.sessions.items) (sym board) each;
      }
