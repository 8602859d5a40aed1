-- What jobs leave, at their places.
use Rattle.std.proofs.Common.{◌≡◌, true, ℕ, suc, ◌<◌, List, [], ◌∷◌, ◌++◌, length, map, Option, Some, refl, ap, ◌∙◌, subst, arith, Global}
use Rattle.std.specs.Prelude.{slice_index_or}
use Rattle.std.proofs.lemmas.List.{length-map}
use Rattle.alb_board.specs.Passes.{board_rules, IsPassOf, pass_view}
use Rattle.alb_board.specs.declared.rule.Board.{Board}
use Rattle.alb_board.specs.declared.rule.Pass.{Pass}
use Rattle.alb_builder.specs.Building.{HasBuilt}
use Rattle.alb_io.specs.declared.sink.Sink as sinks
use Rattle.alb_io.specs.declared.source.Source as sources
use Rattle.alb_table.specs.RightTable.{rules_view}
use Rattle.alb_table.specs.declared.end.BuildEnd.{BuildEnd}
use Rattle.std.specs.declared.sync.Arc.{Arc}
use Rattle.alb_table.specs.declared.tables.Tables.{Tables}
use Rattle.alb_host.specs.Runs.{AreEach}
use Rattle.alb_host.specs.Steps.{IsDone, AreDone, HasServed, builder_job, serve_job, served, sessions_of, built_of}
use Rattle.alb_host.specs.declared.jobs.Start.{Start}
use Rattle.alb_host.specs.declared.jobs.Job.{Job}
use Rattle.alb_host.specs.declared.jobs.Job.TheVariants as job
use Rattle.alb_host.specs.declared.jobs.Done.{Done}
use Rattle.alb_host.specs.declared.jobs.Done.TheVariants as done
use Rattle.alb_host.specs.declared.report.SessionReport.{SessionReport}

-- one pair more
pub each-more : {A B : Type 0} (R : A → B → Type 0) (xs : List A) (ys : List B) (a : A) (b : B) → AreEach R xs ys → R a b → AreEach R (xs ++ a ∷ []) (ys ++ b ∷ [])
each-more R [] [] a b r h = (h, tt)
each-more R [] (y ∷ ys) a b r h = absurd r
each-more R (x ∷ xs) [] a b r h = absurd r
each-more R (x ∷ xs) (y ∷ ys) a b r h = (r.0, each-more R xs ys a b r.1 h)

module _ {I K : Type 0} (source : sources.Ghosts I) (sink : sinks.Ghosts K) (b : Board) (letters : List ℕ) where
  -- what the jobs of sessions leave
  record HaveServed (starts : List (Start I K)) (dones : List (Done I K)) : Type 0 where
    reports : List (SessionReport I K)
    are : dones ≡ map served reports
    each : AreEach (HasServed source sink b letters) starts reports

  one-served : (s : Start I K) (d : Done I K) → IsDone source sink b letters (job.Serve s) d → (r : SessionReport I K) × (d ≡ served r) × HasServed source sink b letters s r
  one-served s (done.Built q e) h = absurd h
  one-served s (done.Served r) h = (r, refl, h)

  have-served : (starts : List (Start I K)) (dones : List (Done I K)) → length dones ≡ length starts
      → ((i : ℕ) (j : Job I K) (d : Done I K) → i < length starts → j ≡ slice_index_or (map serve_job starts) i j → IsDone source sink b letters j (slice_index_or dones i d))
      → HaveServed starts dones
  have-served [] [] full each = record { reports = []; are = refl; each = tt }
  have-served [] (d ∷ dones) full each = absurd (omega (arith, full))
  have-served (s ∷ starts) [] full each = absurd (omega (arith, full))
  have-served (s ∷ starts) (d ∷ dones) full each =
      let first = one-served s d (each 0 (job.Serve s) d (omega arith) refl) in
      let rest = have-served starts dones (omega (arith, full)) (λ i j e less is. each (suc i) j e (omega (arith, less)) is) in
      record {
        reports = first.0 ∷ rest.reports;
        are = ap (λ x. x ∷ dones) first.1 ∙ ap (λ xs. served first.0 ∷ xs) rest.are;
        each = (first.2, rest.each);
      }

  -- what all jobs leave
  pub record HaveRun (starts : List (Start I K)) (dones : List (Done I K)) : Type 0 where
    pub pass : Pass
    pub end : BuildEnd
    pub reports : List (SessionReport I K)
    pub are : dones ≡ done.Built pass end ∷ map served reports
    pub own : IsPassOf b pass
    pub built : HasBuilt (rules_view (board_rules b)) end (pass_view pass)
    pub builds : (pass_view pass).builder ≡ true
    pub each : AreEach (HasServed source sink b letters) starts reports

  one-built : (p : Pass) (t : Arc Tables Global) (d : Done I K) → IsDone source sink b letters (job.Build p t) d
      → (q : Pass) × (e : BuildEnd) × (d ≡ done.Built q e) × IsPassOf b q × HasBuilt (rules_view (board_rules b)) e (pass_view q) × ((pass_view q).builder ≡ true)
  one-built p t (done.Built q e) h = (q, e, refl, h.0, h.1, h.2)
  one-built p t (done.Served r) h = absurd h

  pub have-run : (p : Pass) (t : Arc Tables Global) (starts : List (Start I K)) (jobs : List (Job I K)) (dones : List (Done I K)) → jobs ≡ builder_job p t ∷ map serve_job starts
      → AreDone source sink b letters jobs dones → HaveRun starts dones
  have-run p t starts jobs [] is h =
      let long : length jobs ≡ suc (length (map serve_job starts)) = ap length is in
      absurd (omega (arith, h.full, long))
  have-run p t starts jobs (d ∷ dones) is h =
      let long : length jobs ≡ suc (length (map serve_job starts)) = ap length is in
      let each = subst (λ (js : List (Job I K)). (i : ℕ) (j : Job I K) (e : Done I K) → i < length jobs → j ≡ slice_index_or js i j → IsDone source sink b letters j (slice_index_or (d ∷ dones) i e)) is h.each in
      let first = one-built p t d (each 0 (job.Build p t) d (omega (arith, long)) refl) in
      let same = length-map starts serve_job in
      let rest = have-served starts dones (omega (arith, h.full, long, same)) (λ i j e less at. each (suc i) j e (omega (arith, less, long, same)) at) in
      record {
        pass = first.0;
        end = first.1;
        reports = rest.reports;
        are = ap (λ x. x ∷ dones) first.2 ∙ ap (λ xs. done.Built first.0 first.1 ∷ xs) rest.are;
        own = first.3;
        built = first.4;
        builds = first.5;
        each = rest.each;
      }

  -- what is collected of it
  pub sessions-are : (reports : List (SessionReport I K)) → sessions_of (map served reports) ≡ reports
  sessions-are [] = refl
  sessions-are (r ∷ reports) = ap (λ rs. r ∷ rs) (sessions-are reports)

  pub built-is : (o : Option (Pass × BuildEnd)) (reports : List (SessionReport I K)) → built_of o (map served reports) ≡ o
  built-is o [] = refl
  built-is o (r ∷ reports) = built-is o reports

  pub sessions-snoc : (ds : List (Done I K)) (d : Done I K) → sessions_of (ds ++ d ∷ []) ≡ sessions_of ds ++ sessions_of (d ∷ [])
  sessions-snoc [] d = refl
  sessions-snoc (done.Built p e ∷ ds) d = sessions-snoc ds d
  sessions-snoc (done.Served r ∷ ds) d = ap (λ rs. r ∷ rs) (sessions-snoc ds d)

  pub built-snoc : (o : Option (Pass × BuildEnd)) (ds : List (Done I K)) (d : Done I K) → built_of o (ds ++ d ∷ []) ≡ built_of (built_of o ds) (d ∷ [])
  built-snoc o [] d = refl
  built-snoc o (done.Built p e ∷ ds) d = built-snoc (Some (p, e)) ds d
  built-snoc o (done.Served r ∷ ds) d = built-snoc o ds d
