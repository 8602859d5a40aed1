-- Raising the number keeps the rule: the builder keeps a new value.
use Rattle.std.proofs.Common.{◌≡◌, ◌≢◌, ℕ, ◌+◌, ◌%◌, ◌^◌, ◌<◌, ◌≤◌, true, [], ◌∷◌, length, set, sym, refl, ap, ◌∙◌, subst, inl, arith, le_refl, length-set, get_or-set_other, get_or-set_same, Option, Some, None}
use mathlib.Core.Option.{none}
use Rattle.std.specs.Arc.{arc_value}
use Rattle.atomic_table.specs.Table.{step, keeps, Allows}
use Rattle.atomic_table.proofs.Lists.{set_here}
use Rattle.alb_poly.specs.declared.rules.Rules.{Rules}
use Rattle.alb_table.specs.declared.end.BuildEnd.{BuildEnd}
use Rattle.alb_board.specs.declared.kept.Shot.{Shot}
use Rattle.alb_board.specs.declared.kept.Published.{Published}
use Rattle.alb_board.specs.declared.kept.PassView.{PassView}
use Rattle.alb_board.specs.Published.{published, published_of, number_of, IsKeepable, IsPublishable}
use Rattle.alb_board.specs.Views.{M}
use Rattle.alb_board.specs.Steps.{after_raise, raises}
use Rattle.alb_board.specs.Turns.{ticket, serving, count, Knows, Turns}
use Rattle.alb_board.proofs.Seats.{within}
use Rattle.alb_board.proofs.Queue.{held_set}
use Rattle.alb_board.proofs.RuleLemmas.{changed, out_for}
use Rattle.alb_board.proofs.Shots.{shot_or, rise_more}

module _ (rules : Rules) where
  others_raise : (next now c id : ℕ) (holder : ℕ → ℕ) (kept kept' : Published) (seats j : ℕ) (u : PassView) → j ≢ id → id ≡ 0 → holder now ≡ id → kept.end ≡ None → kept.degree ≤ kept'.degree
      → Knows rules next now c holder kept seats j u → Knows rules next now (c + 1) holder kept' seats j u
  others_raise next now c id holder kept kept' seats j u other first here unended more k = let known = k.known in let seen = k.seen in record {
    own = k.own;
    queued = k.queued;
    served = λ t. absurd (other (sym (k.queued now (k.served t).0).2 ∙ here));
    bounded = k.bounded;
    builds = λ b. absurd (other ((k.builds b).0 ∙ sym first));
    known = omega arith;
    counted = λ t. absurd (other (sym (k.queued now (k.served t).0).2 ∙ here));
    seen = omega arith;
    ended = λ e q. let was = k.ended e q in let end : kept.end ≡ Some e = ap (λ (x : Published). x.end) was in absurd (cc);
    shown = k.shown;
  }

  pub raises_keeps : (slots id : ℕ) (me : M) (k : Shot) → me.0.turn ≡ true → me.0.builder ≡ true → me.0.end ≡ None → me.1 ≡ (0, Some k) ∷ [] → IsKeepable me.0.rules k
      → number_of (published_of k) ≡ number_of me.0.held + 1 → me.0.held.degree ≤ (published_of k).degree → number_of (published_of k) < 2 ^ 64
      → Allows (Turns rules) slots id me 2 (λ n. (n + 1) % 2 ^ 64) (raises (step slots 2 1 0 none) me)
  raises_keeps slots id me k on builds unended has good up more fits s r deep at small =
      let v : PassView = me.0 in let h : Published = published_of k in let w : PassView = after_raise v h in let mine = r.each_seat id v at in let own = (mine.served on).0 in let is : v.held ≡ r.kept = (mine.served on).1 in
      let place = mine.queued (serving s) own in let b = mine.builds builds in let c : ℕ = count s in let wide = r.wide in
      let numbered : c ≡ number_of v.held = r.numbered ∙ ap number_of (sym is) in let next : (c + 1) % 2 ^ 64 ≡ c + 1 = omega arith in
      let publishable : IsPublishable v.rules h = record { table = arc_value k.tables; right = good.right; degree_is = refl; end = good.end } in
      let none_kept : r.kept.end ≡ None = sym b.4 ∙ unended in let known : v.known ≡ c = b.2 in (
        w,
        keeps,
        tt,
        changed rules s r id v w at (set s.words 2 ((c + 1) % 2 ^ 64)) s.homes (ticket s) (serving s) (c + 1) r.holder h (length-set s.words 2 ((c + 1) % 2 ^ 64) ∙ wide)
            (get_or-set_other s.words 2 0 ((c + 1) % 2 ^ 64) 0 (λ e. omega arith), get_or-set_other s.words 2 1 ((c + 1) % 2 ^ 64) 0 (λ e. omega arith), get_or-set_same s.words 2 ((c + 1) % 2 ^ 64) 0 (omega arith) ∙ next)
            r.deep r.order (held_set s.views id v w r.holder (serving s) (serving s) (ticket s) at (le_refl (serving s)) (λ m _ q. q) r.held) refl (omega arith)
            (subst (λ (x : Rules). IsPublishable x h) mine.own publishable)
            record {
              own = mine.own;
              queued = mine.queued;
              served = λ _. (own, refl);
              bounded = mine.bounded;
              builds = λ _. (b.0, b.1, ap (λ (x : ℕ). x + 1) known, refl, refl);
              known = omega arith;
              counted = λ _ _. ap (λ (x : ℕ). x + 1) known;
              seen = le_refl h.degree;
              ended = λ e q. ap (λ (x : Option BuildEnd). published h.degree x) q;
              shown = rise_more 0 v.known (v.known + 1) v.shots (omega arith) mine.shown;
            }
            (λ j u other kn. others_raise (ticket s) (serving s) c id r.holder r.kept h (length s.views) j u other b.0 place.2 none_kept (subst (λ (x : Published). x.degree ≤ h.degree) is more) kn)
            (inl (id, w, set_here s.views id w (within s.views id v at), on, out_for rules s r id v at on)),
        λ k' has'. let same : k ≡ k' = ap (shot_or k) (sym has ∙ has') in (ap (λ (x : Shot). after_raise v (published_of x)) same, refl),
      )
