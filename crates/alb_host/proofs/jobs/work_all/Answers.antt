use denote.Exit.{no}
use denote.Param.Send.{IsSync, arg_sync, shr_sync}
use Rattle.std.proofs.Common.{ℕ, ◌-◌, ◌<◌, ◌≡◌, ◌∙◌, sym, ap, subst, arith, slice_index_or, length}
use Rattle.std.proofs.Crossing.{sync}
use Rattle.alb_host.specs.Steps.{IsDone}
use Rattle.alb_host.specs.declared.jobs.Done.{Done}
use Rattle.alb_host.specs.declared.jobs.Job.{Job}
use Rattle.alb_host.proofs.ShareLemmas.{board-sync, letters-sync, u32-sync, six-sync}
use Rattle.alb_host.proofs.jobs.work_all.Lts.{arg-1-4}
use Rattle.alb_host.proofs.jobs.work_all.Goals as goal

pub map_vec-requires-sync-F : goal.map_vec-requires-sync-F
map_vec-requires-sync-F g c κs within =
    let inner : IsSync (arg-1-4 g.row.R g.row.G g.row.I g.row.K g.R.laws g.G.laws g.I.laws g.K.laws g.R.Threads-dict g.R.Wait-dict g.G.Gate-dict g.I.Source-dict g.K.Sink-dict g.I.Destruct-dict g.K.Destruct-dict κs) =
    arg_sync _ no _ (six-sync _ _ _ _ _ _ _ (shr_sync _ _ _ c.type_bounds.sync-R) (shr_sync _ _ _ sync) (shr_sync _ _ _ board-sync) (shr_sync _ _ _ letters-sync) (shr_sync _ _ _ u32-sync)
    (shr_sync _ _ _ c.type_bounds.sync-G)) in
    record { shared = inner.shared }

pub returns : goal.returns
returns g c =
    let board = c.args.board.now in
    let letters = c.args.letters.now in
    let old = c.args.jobs.items in
    let jobs = c.reverse.new.self.items in
    let left = c.in_ok-done.done.items in
    let long : length left ≡ length old = omega (arith, c.in_ok-done.ensures.len, c.in_ok-done.done.ok.0, c.args.jobs.ok.0, c.reverse.ensures.len, c.reverse.new.self.ok.0) in
    record {
      full = omega (arith, long, c.in_ok-done.done.ok.0, c.reverse-2.ensures.len, c.reverse-2.new.self.ok.0);
      each = λ i j d less at.
          let k : ℕ = length old - 1 - i in
          let back : i ≡ c.args.jobs.len - 1 - k = omega (arith, less, c.args.jobs.ok.0) in
          let within : k < length jobs = omega (arith, less, c.args.jobs.ok.0, c.reverse.ensures.len, c.reverse.new.self.ok.0) in
          let given = (c.in_ok-done.ensures.each k d within).1 in
          let same : slice_index_or old i j ≡ slice_index_or jobs k j = ap (λ (n : ℕ). slice_index_or old n j) back ∙ sym (c.reverse.ensures.by_index k j (omega (arith, within, c.args.jobs.ok.0, c.reverse.ensures.len, c.reverse.new.self.ok.0))) in
          let front : c.in_ok-done.done.len - 1 - i ≡ k = omega (arith, long, c.in_ok-done.done.ok.0) in
          let last : slice_index_or c.reverse-2.new.self.items i d ≡ slice_index_or left k d = c.reverse-2.ensures.by_index i d (omega (arith, less, long, c.in_ok-done.done.ok.0)) ∙ ap (λ (n : ℕ). slice_index_or left n d) front in
          subst (λ (y : Done g.row.I.Denot g.row.K.Denot). IsDone g.I.Source g.K.Sink board letters j y) (sym last)
          (subst (λ (x : Job g.row.I.Denot g.row.K.Denot). IsDone g.I.Source g.K.Sink board letters x (slice_index_or left k d)) (sym (at ∙ same ∙ given.job_is j)) given.call.met);
    }
