-- A board begins by the rule, and one more pass keeps it.
use Rattle.std.proofs.Common.{◌≡◌, ℕ, ◌+◌, ◌<◌, true, false, List, [], ◌∷◌, ◌++◌, length, set, sym, refl, ap, ◌∙◌, subst, inl, inr, ⊎_elim, arith, le_refl, length-set, length-append, Some, None}
use Rattle.std.specs.Arc.{arc_value}
use Rattle.std.proofs.lemmas.List.Sums.{sum_by-append}
use Rattle.atomic_table.specs.Table.{opening, Splits}
use Rattle.atomic_table.proofs.Lists.{at_longer, at_snoc}
use Rattle.alb_poly.specs.declared.rules.Rules.{Rules}
use Rattle.alb_board.specs.declared.kept.Shot.{Shot}
use Rattle.alb_board.specs.declared.kept.Published.{Published}
use Rattle.alb_board.specs.declared.kept.PassView.{PassView}
use Rattle.alb_board.specs.Published.{published, published_of, IsKeepable}
use Rattle.alb_board.specs.Views.{first_view, split_view}
use Rattle.alb_board.specs.Turns.{ticket, serving, count, Sits, Knows, Guarded, Turns}
use Rattle.alb_board.proofs.Seats.{sum_set, alone, is_false}
use Rattle.alb_board.proofs.Queue.{each_set, held_set}
use Rattle.alb_board.proofs.RuleLemmas.{Homes, turn_guarded}

module _ (rules : Rules) where
  split_knows : (next now c : ℕ) (holder : ℕ → ℕ) (kept : Published) (seats seats' i j : ℕ) (v : PassView) → Knows rules next now c holder kept seats i v → Knows rules next now c holder kept seats' j (split_view v)
  split_knows next now c holder kept seats seats' i j v k = record {
    own = k.own;
    queued = λ n q. absurd (cc);
    served = λ t. absurd (cc);
    bounded = omega arith;
    builds = λ t. absurd (cc);
    known = k.known;
    counted = λ t. absurd (cc);
    seen = k.seen;
    ended = k.ended;
    shown = omega arith;
  }

  more_seats : (next now c : ℕ) (holder : ℕ → ℕ) (kept : Published) (seats j : ℕ) (u : PassView) → u.builder ≡ false → Knows rules next now c holder kept seats j u → Knows rules next now c holder kept (seats + 1) j u
  more_seats next now c holder kept seats j u not k = record {
    own = k.own;
    queued = k.queued;
    served = k.served;
    bounded = k.bounded;
    builds = λ t. absurd (cc);
    known = k.known;
    counted = k.counted;
    seen = k.seen;
    ended = k.ended;
    shown = k.shown;
  }

  longer_guarded : (kept : Published) (hs : Homes) (vs : List PassView) (x : PassView) → x.turn ≡ false → Guarded rules kept hs vs → Guarded rules kept hs (vs ++ x ∷ [])
  longer_guarded kept hs vs x off (inl t) = inl (t.0, t.1, at_longer vs (x ∷ []) t.0 t.1 t.2, t.3, t.4)
  longer_guarded kept hs vs x off (inr t) = inr ((λ i u e. ⊎_elim (t.0 i u) (λ (o : x ≡ u). subst (λ (y : PassView). y.turn ≡ false) o off) (at_snoc vs x u i e)), t.1)

  pub copies_keeps : (id : ℕ) (v : PassView) → v.builder ≡ true → v.passes < 16 → Splits (Turns rules) id v (record v { passes = v.passes + 1 }) (split_view v)
  copies_keeps id v builds room s r at =
      let w : PassView = record v { passes = v.passes + 1 } in let x : PassView = split_view v in let vs : List PassView = set s.views id w in let mine = r.each_seat id v at in
      let first = mine.builds builds in let long : length (vs ++ x ∷ []) ≡ length s.views + 1 = omega (arith, length-append vs (x ∷ []), length-set s.views id w) in
      let sums = sum_set (λ (u : PassView). u.calls) s.views id v w at in let called = r.called in
      let K = Knows rules (ticket s) (serving s) (count s) r.holder r.kept (length s.views + 1) in record {
        holder = r.holder;
        kept = r.kept;
        wide = r.wide;
        deep = r.deep;
        order = r.order;
        held = λ m lo hi. let old = held_set s.views id v w r.holder (serving s) (serving s) (ticket s) at (le_refl (serving s)) (λ m _ q. q) r.held m lo hi in (old.0, at_longer vs (x ∷ []) (r.holder m) old.0 old.1, old.2);
        called = omega (arith, sum_by-append (λ (u : PassView). u.calls) vs (x ∷ []));
        few = omega arith;
        numbered = r.numbered;
        publishable = r.publishable;
        each_seat = subst (λ (n : ℕ). (i : ℕ) (u : PassView) → Sits (vs ++ x ∷ []) i u → Knows rules (ticket s) (serving s) (count s) r.holder r.kept n i u) (sym long)
            (λ i u e. ⊎_elim (λ (o : Sits vs i u). each_set (Knows rules (ticket s) (serving s) (count s) r.holder r.kept (length s.views)) K s.views id w
            record {
              own = mine.own;
              queued = mine.queued;
              served = mine.served;
              bounded = mine.bounded;
              builds = λ _. (first.0, ap (λ (n : ℕ). n + 1) first.1, first.2, first.3, first.4);
              known = mine.known;
              counted = mine.counted;
              seen = mine.seen;
              ended = mine.ended;
              shown = mine.shown;
            }
            (λ i u other _ kn. more_seats (ticket s) (serving s) (count s) r.holder r.kept (length s.views) i u (is_false u.builder (λ t. other ((kn.builds t).0 ∙ sym first.0))) kn) r.each_seat i u o)
            (λ (o : x ≡ u). subst (K i) o (split_knows (ticket s) (serving s) (count s) r.holder r.kept (length s.views) (length s.views + 1) id i v mine)) (at_snoc vs x u i e));
        guarded = longer_guarded r.kept s.homes vs x refl (turn_guarded rules r.kept s.homes s.views id v w at refl r.guarded);
      }

  first_knows : (i : ℕ) (v : PassView) → (i ≡ 0) × (first_view rules ≡ v) → Knows rules 0 0 1 (λ n. 0) (published 1 None) 1 i v
  first_knows i v e = subst (Knows rules 0 0 1 (λ n. 0) (published 1 None) 1 i) e.1 record {
    own = refl;
    queued = λ n q. absurd (cc);
    served = λ t. absurd (cc);
    bounded = omega arith;
    builds = λ _. (e.0, refl, refl, refl, refl);
    known = omega arith;
    counted = λ t. absurd (cc);
    seen = omega arith;
    ended = λ e q. absurd (cc);
    shown = omega arith;
  }

  pub starts : (k : Shot) → IsKeepable rules k → published_of k ≡ published 1 None → Turns rules (opening (0 ∷ 0 ∷ 1 ∷ []) (Some k ∷ []) (first_view rules))
  starts k good is = record {
    holder = λ n. 0;
    kept = published 1 None;
    wide = refl;
    deep = refl;
    order = omega arith;
    held = λ n a b. absurd (omega arith);
    called = refl;
    few = omega arith;
    numbered = refl;
    publishable = record { table = arc_value k.tables; right = good.right; degree_is = ap (λ (x : Published). x.degree) is; end = tt };
    each_seat = λ i v e. first_knows i v (alone (first_view rules) i v e);
    guarded = inr ((λ i v e. sym (ap (λ (u : PassView). u.turn) (alone (first_view rules) i v e).1)), (k, refl, good, is));
  }
