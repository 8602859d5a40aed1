-- Drawing a ticket, looking which one is served, and loading the number keep the rule.
use Rattle.std.proofs.Common.{◌≡◌, ℕ, ◌+◌, ◌%◌, ◌^◌, ◌<◌, ◌≤◌, true, false, List, length, set, sym, refl, ap, ◌∙◌, subst, inl, arith, le_refl, length-set, get_or-set_other, get_or-set_same, Some, None}
use mathlib.Core.Logic.{dite}
use mathlib.Core.Option.{none}
use native.Mathlib.Decide.{ℕ_discrete}
use lib.Seq.{set-get_or}
use Rattle.atomic_table.specs.Table.{step, keeps, takes, Allows}
use Rattle.atomic_table.proofs.Lists.{set_again, set_here}
use Rattle.alb_poly.specs.declared.rules.Rules.{Rules}
use Rattle.alb_board.specs.declared.kept.Shot.{Shot}
use Rattle.alb_board.specs.declared.kept.Published.{Published}
use Rattle.alb_board.specs.declared.kept.PassView.{PassView}
use Rattle.alb_board.specs.Published.{number_of, IsKeepable}
use Rattle.alb_board.specs.Views.{M}
use Rattle.alb_board.specs.Steps.{draws, in_turn, looks, counts, counts_in_turn}
use Rattle.alb_board.specs.Turns.{ticket, serving, count, Knows, Turns}
use Rattle.alb_board.proofs.Seats.{within}
use Rattle.alb_board.proofs.Queue.{moved, moved_here, moved_else, held_after}
use Rattle.alb_board.proofs.RuleLemmas.{bounded, changed, still, turn_guarded, home_for}
use Rattle.alb_board.proofs.Shots.{rise_more}

module _ (rules : Rules) where
  others_draw : (n now c id : ℕ) (holder : ℕ → ℕ) (kept : Published) (seats j : ℕ) (u : PassView) → Knows rules n now c holder kept seats j u → Knows rules (n + 1) now c (moved n id holder) kept seats j u
  others_draw n now c id holder kept seats j u k = record {
    own = k.own;
    queued = λ m q. let old = k.queued m q in (old.0, omega arith, moved_else n id holder m (λ e. omega arith) ∙ old.2);
    served = k.served;
    bounded = k.bounded;
    builds = k.builds;
    known = k.known;
    counted = k.counted;
    seen = k.seen;
    ended = k.ended;
    shown = k.shown;
  }

  pub draws_keeps : (slots id : ℕ) (me : M) → me.0.ticket ≡ None → me.0.turn ≡ false → me.0.calls < 2 ^ 48
      → Allows (Turns rules) slots id me 0 (λ n. (n + 1) % 2 ^ 64) (draws (step slots 0 1 0 none) me)
  draws_keeps slots id me none_yet off room s r deep at small =
      let v : PassView = me.0 in let n : ℕ = ticket s in let w : PassView = record v { ticket = Some n; calls = v.calls + 1 } in
      let most = bounded rules s r in let next : (n + 1) % 2 ^ 64 ≡ n + 1 = omega arith in let wide = r.wide in let ws : List ℕ = set s.words 0 ((n + 1) % 2 ^ 64) in
      let mine = r.each_seat id v at in let h : ℕ → ℕ = moved n id r.holder in (
        w,
        keeps,
        tt,
        changed rules s r id v w at ws s.homes (n + 1) (serving s) (count s) h r.kept (length-set s.words 0 ((n + 1) % 2 ^ 64) ∙ wide)
            (get_or-set_same s.words 0 ((n + 1) % 2 ^ 64) 0 (omega arith) ∙ next, get_or-set_other s.words 0 1 ((n + 1) % 2 ^ 64) 0 (λ e. omega arith), get_or-set_other s.words 0 2 ((n + 1) % 2 ^ 64) 0 (λ e. omega arith))
            r.deep (omega (arith, r.order)) (held_after s.views n (serving s) id r.holder v w at none_yet refl (within s.views id v at) r.held) (omega arith) r.numbered r.publishable
            record {
              own = mine.own;
              queued = λ m q. let e : n ≡ m = cc in (omega (arith, r.order), omega arith, subst (λ (x : ℕ). h x ≡ id) e (moved_here n id r.holder));
              served = λ t. absurd (cc);
              bounded = omega arith;
              builds = mine.builds;
              known = mine.known;
              counted = mine.counted;
              seen = mine.seen;
              ended = mine.ended;
              shown = mine.shown;
            }
            (λ j u _ k. others_draw n (serving s) (count s) id r.holder r.kept (length s.views) j u k) (turn_guarded rules r.kept s.homes s.views id v w at refl r.guarded),
        (refl, refl),
      )

  pub looks_keeps : (slots id : ℕ) (me : M) (n : ℕ) → me.0.ticket ≡ Some n → me.0.turn ≡ false
      → Allows (Turns rules) slots id me 1 (λ m. m) (looks (step slots 1 0 0 none) me)
  looks_keeps slots id me n waits off s r deep at small = dite (ℕ_discrete n (serving s))
      (λ e. let v : PassView = me.0 in let w : PassView = in_turn v r.kept in let now : v.ticket ≡ Some (serving s) = waits ∙ ap Some e in
      let home = home_for rules s r id v at off now in let mine = r.each_seat id v at in let k : Shot = home.0 in let deep' = r.deep in (
        w,
        takes 0 (Some k),
        home.1,
        still rules s r 1 id v w at (set s.homes 0 none) (length-set s.homes 0 none ∙ r.deep) refl refl
            record {
              own = mine.own;
              queued = mine.queued;
              served = λ _. (now, refl);
              bounded = mine.bounded;
              builds = mine.builds;
              known = mine.known;
              counted = λ _ t. absurd (cc);
              seen = mine.seen;
              ended = mine.ended;
              shown = mine.shown;
            }
            (inl (id, w, set_here s.views id w (within s.views id v at), refl, set_here s.homes 0 none (omega arith))),
        (
          (λ _. (
            r.kept,
            k,
            refl,
            refl,
            record {
              keepable = subst (λ (x : Rules). IsKeepable x k) (sym mine.own) home.2;
              published_is = home.3;
              seen = mine.seen;
              known = subst (λ (x : ℕ). v.known ≤ x) r.numbered mine.known;
              same_end = mine.ended;
              builder = λ b. let t = mine.builds b in (t.2 ∙ r.numbered, t.3, t.4);
            },
          )),
          λ ne. absurd (ne now),
        ),
      ))
      (λ ne. (
        me.0,
        keeps,
        tt,
        subst (Turns rules) (λ i. record { words = sym (set-get_or s.words 1 0) i; homes = s.homes; views = sym (set_again s.views id me.0 at) i }) r,
        ((λ e. absurd (ne (cc))), λ _. refl),
      ))

  pub counts_keeps : (slots id : ℕ) (me : M) → me.0.turn ≡ false → Allows (Turns rules) slots id me 2 (λ m. m) (counts (step slots 2 0 0 none) me)
  counts_keeps slots id me off s r deep at small = let v : PassView = me.0 in let w : PassView = record v { known = count s } in let mine = r.each_seat id v at in (
    w,
    keeps,
    tt,
    still rules s r 2 id v w at s.homes r.deep refl refl
        record {
          own = mine.own;
          queued = mine.queued;
          served = mine.served;
          bounded = mine.bounded;
          builds = λ b. let t = mine.builds b in (t.0, t.1, refl, t.3, t.4);
          known = le_refl (count s);
          counted = λ t. absurd (cc);
          seen = mine.seen;
          ended = mine.ended;
          shown = rise_more 0 v.known (count s) v.shots mine.known mine.shown;
        }
        (turn_guarded rules r.kept s.homes s.views id v w at refl r.guarded),
    (refl, refl, mine.known),
  )

  pub counts_in_turn_keeps : (slots id : ℕ) (me : M) → me.0.turn ≡ true → Allows (Turns rules) slots id me 2 (λ m. m) (counts_in_turn (step slots 2 0 0 none) me)
  counts_in_turn_keeps slots id me on s r deep at small = let v : PassView = me.0 in let w : PassView = record v { known = count s; counted = true } in let mine = r.each_seat id v at in (
    w,
    keeps,
    tt,
    still rules s r 2 id v w at s.homes r.deep refl refl
        record {
          own = mine.own;
          queued = mine.queued;
          served = mine.served;
          bounded = mine.bounded;
          builds = λ b. let t = mine.builds b in (t.0, t.1, refl, t.3, t.4);
          known = le_refl (count s);
          counted = λ _ _. refl;
          seen = mine.seen;
          ended = mine.ended;
          shown = rise_more 0 v.known (count s) v.shots mine.known mine.shown;
        }
        (turn_guarded rules r.kept s.homes s.views id v w at refl r.guarded),
    (refl, refl, mine.known, r.numbered ∙ ap number_of (sym (mine.served on).1)),
  )
