-- Giving the turn up keeps the rule.
use Rattle.std.proofs.Common.{◌≡◌, ◌≢◌, ℕ, ◌+◌, ◌%◌, ◌^◌, ◌≤◌, true, false, List, [], ◌∷◌, length, set, sym, refl, ap, ◌∙◌, subst, inr, arith, le_refl, length-set, get_or-set_other, get_or-set_same, Option, Some, None}
use mathlib.Core.Option.{some, none}
use Rattle.std.specs.Option.{is_some}
use Rattle.atomic_table.specs.Table.{step, gives, stepped, Allows}
use Rattle.atomic_table.proofs.Lists.{set_here}
use Rattle.alb_poly.specs.declared.rules.Rules.{Rules}
use Rattle.alb_table.specs.declared.end.BuildEnd.{BuildEnd}
use Rattle.alb_board.specs.declared.kept.Shot.{Shot}
use Rattle.alb_board.specs.declared.kept.Published.{Published}
use Rattle.alb_board.specs.declared.kept.PassView.{PassView}
use Rattle.alb_board.specs.Published.{published, published_of, number_of, IsKeepable}
use Rattle.alb_board.specs.Views.{Slot, M}
use Rattle.alb_board.specs.Steps.{no_turn, after_shot, shows, leaves}
use Rattle.alb_board.specs.Turns.{S, shot_number, ticket, serving, count, Sits, Knows, Turns}
use Rattle.alb_board.proofs.Seats.{is_false}
use Rattle.alb_board.proofs.Queue.{each_set, held_set}
use Rattle.alb_board.proofs.RuleLemmas.{Homes, bounded, changed}
use Rattle.alb_board.proofs.Shots.{rise_snoc, number_is}

module _ (rules : Rules) where
  -- what another seat knows, after the seat id gave up its turn with the ticket now
  others_leave : (next now c id : ℕ) (holder : ℕ → ℕ) (kept : Published) (seats j : ℕ) (u : PassView) → j ≢ id → holder now ≡ id → Knows rules next now c holder kept seats j u → Knows rules next (now + 1) c holder kept seats j u
  others_leave next now c id holder kept seats j u other here k = record {
    own = k.own;
    queued = λ m q. let old = k.queued m q in let past : now ≢ m = λ e. other (sym old.2 ∙ (ap holder (sym e) ∙ here)) in (omega arith, old.1, old.2);
    served = λ t. absurd (other (sym (k.queued now (k.served t).0).2 ∙ here));
    bounded = k.bounded;
    builds = k.builds;
    known = k.known;
    counted = λ t. absurd (other (sym (k.queued now (k.served t).0).2 ∙ here));
    seen = k.seen;
    ended = k.ended;
    shown = k.shown;
  }

  -- the seat id gives up its turn and the slot, and has the view w
  gives_up : (s : S) (r : Turns rules s) (id : ℕ) (v w : PassView) (k : Shot) (cs : List (ℕ × Slot)) → Sits s.views id v → v.turn ≡ true → IsKeepable v.rules k → published_of k ≡ v.held → cs ≡ (0, Some k) ∷ []
      → w.ticket ≡ None → w.turn ≡ false → w.calls ≡ v.calls
      → ((n : ℕ) → Knows rules (ticket s) n (count s) r.holder r.kept (length s.views) id w)
      → Turns rules (stepped s 1 ((serving s + 1) % 2 ^ 64) id cs w gives)
  gives_up s r id v w k cs at on good same has none_left off calls mine' =
      let n : ℕ = serving s in let mine = r.each_seat id v at in let place = mine.queued n (mine.served on).0 in let own = (mine.served on).0 in
      let most = bounded rules s r in let next : (n + 1) % 2 ^ 64 ≡ n + 1 = omega arith in let wide = r.wide in let deep' = r.deep in
      let ws : List ℕ = set s.words 1 ((n + 1) % 2 ^ 64) in let hs : Homes = set s.homes 0 (some (Some k)) in
      subst (λ (c : List (ℕ × Slot)). Turns rules (stepped s 1 ((n + 1) % 2 ^ 64) id c w gives)) (sym has)
      (changed rules s r id v w at ws hs (ticket s) (n + 1) (count s) r.holder r.kept (length-set s.words 1 ((n + 1) % 2 ^ 64) ∙ wide)
      (get_or-set_other s.words 1 0 ((n + 1) % 2 ^ 64) 0 (λ e. omega arith), get_or-set_same s.words 1 ((n + 1) % 2 ^ 64) 0 (omega arith) ∙ next, get_or-set_other s.words 1 2 ((n + 1) % 2 ^ 64) 0 (λ e. omega arith))
      (length-set s.homes 0 (some (Some k)) ∙ r.deep) (omega arith)
      (held_set s.views id v w r.holder n (n + 1) (ticket s) at (omega arith) (λ m lo q. let e : n ≡ m = cc in absurd (omega arith)) r.held)
      (ap (λ (x : ℕ). ticket s + x) (sym calls)) r.numbered r.publishable (mine' (n + 1))
      (λ j u other kn. others_leave (ticket s) n (count s) id r.holder r.kept (length s.views) j u other place.2 kn)
      (inr (
        each_set (λ i u. (i ≢ id) → u.turn ≡ false) (λ i u. u.turn ≡ false) s.views id w off (λ i u other _ kn. kn other)
            (λ i u there other. is_false u.turn (λ t. other (sym ((r.each_seat i u there).queued n ((r.each_seat i u there).served t).0).2 ∙ place.2))),
        (k, set_here s.homes 0 (some (Some k)) (omega arith), subst (λ (x : Rules). IsKeepable x k) mine.own good, same ∙ (mine.served on).1),
      )))

  pub leaves_keeps : (slots id : ℕ) (me : M) (k : Shot) → me.0.turn ≡ true → me.1 ≡ (0, Some k) ∷ [] → IsKeepable me.0.rules k → published_of k ≡ me.0.held
      → Allows (Turns rules) slots id me 1 (λ n. (n + 1) % 2 ^ 64) (leaves (step slots 1 1 0 none) me)
  leaves_keeps slots id me k on has good same s r deep at small = let v : PassView = me.0 in let w : PassView = no_turn v in let mine = r.each_seat id v at in (
    w,
    gives,
    tt,
    gives_up s r id v w k me.1 at on good same has refl refl refl
        (λ n. record {
          own = mine.own;
          queued = λ m q. absurd (cc);
          served = λ t. absurd (cc);
          bounded = mine.bounded;
          builds = mine.builds;
          known = mine.known;
          counted = λ t. absurd (cc);
          seen = mine.seen;
          ended = mine.ended;
          shown = mine.shown;
        }),
    (refl, refl),
  )

  pub shows_keeps : (slots id : ℕ) (me : M) (k : Shot) → me.0.turn ≡ true → me.0.counted ≡ true → me.1 ≡ (0, Some k) ∷ [] → IsKeepable me.0.rules k → published_of k ≡ me.0.held
      → Allows (Turns rules) slots id me 1 (λ n. (n + 1) % 2 ^ 64) (shows (step slots 1 1 0 none) me)
  shows_keeps slots id me k on counted has good same s r deep at small = let v : PassView = me.0 in let w : PassView = after_shot v in let mine = r.each_seat id v at in
      let is : v.held ≡ r.kept = (mine.served on).1 in let number : v.known ≡ count s = mine.counted on counted in
      let here : v.known ≡ shot_number (v.held.degree, is_some v.held.end) = number ∙ (r.numbered ∙ (ap number_of (sym is) ∙ sym (number_is v.held.degree v.held.end))) in (
        w,
        gives,
        tt,
        gives_up s r id v w k me.1 at on good same has refl refl refl
            (λ n. record {
              own = mine.own;
              queued = λ m q. absurd (cc);
              served = λ t. absurd (cc);
              bounded = mine.bounded;
              builds = λ b. let t = mine.builds b in (t.0, t.1, t.2, ap (λ (x : Published). x.degree) is, ap (λ (x : Published). x.end) is);
              known = mine.known;
              counted = λ t. absurd (cc);
              seen = subst (λ (x : Published). v.held.degree ≤ x.degree) is (le_refl v.held.degree);
              ended = λ e q. sym is ∙ ap (λ (x : Option BuildEnd). published v.held.degree x) q;
              shown = rise_snoc 0 v.known v.known (v.held.degree, is_some v.held.end) v.shots (omega arith) (omega arith) mine.shown;
            }),
        (refl, refl),
      )
