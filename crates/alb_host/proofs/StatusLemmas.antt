-- The status after sessions, one after the other.
use Rattle.std.proofs.Common.{◌≡◌, ℕ, ◌+◌, ◌<◌, ◌≤◌, List, ◌∷◌, length, map, drop, get_or, ap, ◌∙◌}
use Rattle.std.proofs.Math.ListN.{drop_of_length-le}
use Rattle.std.proofs.lemmas.List.{drop_more}
use Rattle.alb_io.specs.declared.status.Status.{Status}
use Rattle.alb_io.specs.declared.status.Status.TheVariants as status
use Rattle.alb_session.specs.declared.end.SessionEnd.{SessionEnd}
use Rattle.alb_session.specs.declared.end.SessionEnd.TheVariants as session
use Rattle.alb_table.specs.End.{End}
use Rattle.alb_host.specs.Report.{session_end}
use Rattle.alb_host.specs.Runs.{status_after, status_of_end}
use Rattle.alb_host.specs.declared.report.SessionReport.{SessionReport}

module _ {I K : Type 0} (e : End) (rs : List (SessionReport I K)) (i : ℕ) (s : Status) (so_far : s ≡ status_after e (map session_end (drop i rs))) where
  -- the session at a place ended so
  after-at : (d : SessionReport I K) (k : SessionEnd) → i < length rs → (get_or rs i d).end ≡ k → s ≡ status_after e (k ∷ map session_end (drop (i + 1) rs))
  after-at d k less ended =
      so_far ∙ ap (λ ys. status_after e (map session_end ys)) (drop_more rs i d less) ∙ ap (λ x. status_after e (x ∷ map session_end (drop (i + 1) rs))) ended

  pub after-ended : (d : SessionReport I K) → i < length rs → (get_or rs i d).end ≡ session.Ended → s ≡ status_after e (map session_end (drop (i + 1) rs))
  unfolding status_after
  after-ended d less ended = after-at d session.Ended less ended

  pub after-read : (d : SessionReport I K) → i < length rs → (get_or rs i d).end ≡ session.ReadFault → s ≡ status.ReadFault
  unfolding status_after
  after-read d less ended = after-at d session.ReadFault less ended

  pub after-write : (d : SessionReport I K) → i < length rs → (get_or rs i d).end ≡ session.WriteFault → s ≡ status.WriteFault
  unfolding status_after
  after-write d less ended = after-at d session.WriteFault less ended

  pub after-limit : (d : SessionReport I K) → i < length rs → (get_or rs i d).end ≡ session.InputLimit → s ≡ status.InputLimit
  unfolding status_after
  after-limit d less ended = after-at d session.InputLimit less ended

  -- all sessions came to their ends
  pub after-all : length rs ≤ i → s ≡ status_of_end e
  unfolding status_after
  after-all all = so_far ∙ ap (λ ys. status_after e (map session_end ys)) (drop_of_length-le rs all)
