-- The rule after a step of one pass.
use Rattle.std.proofs.Common.{◌≡◌, ◌≢◌, ℕ, ◌+◌, ◌*◌, ◌^◌, ◌<◌, ◌≤◌, true, false, List, length, get_or, set, sym, refl, ap, ◌∙◌, subst, inl, inr, ⊎_elim, arith, le_refl, length-set, Some}
use mathlib.Core.Logic.{dite}
use mathlib.Core.Option.{some, none, some-injective}
use native.Mathlib.Decide.{ℕ_discrete}
use lib.ListN.{get_elem?}
use lib.Seq.{set-get_or}
use Rattle.atomic_table.proofs.Lists.{set_here, set_else}
use Rattle.alb_poly.specs.declared.rules.Rules.{Rules}
use Rattle.alb_board.specs.declared.kept.Shot.{Shot}
use Rattle.alb_board.specs.declared.kept.Published.{Published}
use Rattle.alb_board.specs.declared.kept.PassView.{PassView}
use Rattle.alb_board.specs.Published.{published_of, number_of, IsKeepable, IsPublishable}
use Rattle.alb_board.specs.Views.{Slot}
use Rattle.alb_board.specs.Turns.{S, ticket, serving, count, Sits, Knows, IsOut, IsHome, Guarded, Turns}
use Rattle.alb_board.proofs.Seats.{sum_set, sum_most, within}
use Rattle.alb_board.proofs.Queue.{same_view, each_set, held_set}

abbrev pub Homes : Type 0
Homes = List (mathlib.Core.Option.Option Slot)

module _ (rules : Rules) where
  pub bounded : (s : S) (r : Turns rules s) → ticket s ≤ 16 * 2 ^ 48
  bounded s r = let all = sum_most (λ (v : PassView). v.calls) s.views (2 ^ 48) (λ i v at. (r.each_seat i v at).bounded) in let n = r.called in let few = r.few in omega arith

  -- the rule after a step by which the seat id goes from the view v to w, and the words to t, n and c
  pub changed : (s : S) (r : Turns rules s) (id : ℕ) (v w : PassView) → Sits s.views id v → (ws : List ℕ) (hs : Homes) (t n c : ℕ) (holder : ℕ → ℕ) (kept : Published)
      → length ws ≡ 3 → (get_or ws 0 0 ≡ t) × (get_or ws 1 0 ≡ n) × (get_or ws 2 0 ≡ c) → length hs ≡ 1 → n ≤ t
      → ((m : ℕ) → n ≤ m → m < t → (u : PassView) × Sits (set s.views id w) (holder m) u × (u.ticket ≡ Some m))
      → t + v.calls ≡ ticket s + w.calls → c ≡ number_of kept → IsPublishable rules kept
      → Knows rules t n c holder kept (length s.views) id w
      → ((j : ℕ) (u : PassView) → j ≢ id → Knows rules (ticket s) (serving s) (count s) r.holder r.kept (length s.views) j u → Knows rules t n c holder kept (length s.views) j u)
      → Guarded rules kept hs (set s.views id w)
      → Turns rules record { words = ws; homes = hs; views = set s.views id w }
  changed s r id v w at ws hs t n c holder kept wide words deep order held called numbered publishable mine others guarded =
      let e0 = words.0 in let e1 = words.1 in let e2 = words.2 in
      let long : length (set s.views id w) ≡ length s.views = length-set s.views id w in let sums = sum_set (λ (u : PassView). u.calls) s.views id v w at in let was = r.called in record {
        holder = holder;
        kept = kept;
        wide = wide;
        deep = deep;
        order = omega arith;
        held = subst (λ (x : ℕ × ℕ). (m : ℕ) → x.1 ≤ m → m < x.0 → (u : PassView) × Sits (set s.views id w) (holder m) u × (u.ticket ≡ Some m)) (λ i. (sym e0 i, sym e1 i)) held;
        called = omega arith;
        few = omega (arith, r.few);
        numbered = e2 ∙ numbered;
        publishable = publishable;
        each_seat = subst (λ (x : ℕ × ℕ × ℕ × ℕ). (i : ℕ) (u : PassView) → Sits (set s.views id w) i u → Knows rules x.0 x.1 x.2 holder kept x.3 i u) (λ i. (sym e0 i, sym e1 i, sym e2 i, sym long i))
            (each_set (Knows rules (ticket s) (serving s) (count s) r.holder r.kept (length s.views)) (Knows rules t n c holder kept (length s.views)) s.views id w mine (λ j u other _ k. others j u other k) r.each_seat);
        guarded = guarded;
      }

  -- a step that changes no word
  pub still : (s : S) (r : Turns rules s) (i : ℕ) (id : ℕ) (v w : PassView) → Sits s.views id v → (hs : Homes) → length hs ≡ 1 → w.ticket ≡ v.ticket → w.calls ≡ v.calls
      → Knows rules (ticket s) (serving s) (count s) r.holder r.kept (length s.views) id w → Guarded rules r.kept hs (set s.views id w)
      → Turns rules record { words = set s.words i (get_or s.words i 0); homes = hs; views = set s.views id w }
  still s r i id v w at hs deep same calls mine guarded = subst (λ (ws : List ℕ). Turns rules record { words = ws; homes = hs; views = set s.views id w }) (sym (set-get_or s.words i 0))
      (changed s r id v w at s.words hs (ticket s) (serving s) (count s) r.holder r.kept r.wide (refl, refl, refl) deep r.order
      (held_set s.views id v w r.holder (serving s) (serving s) (ticket s) at (le_refl (serving s)) (λ m _ q. same ∙ q) r.held)
      (ap (λ (k : ℕ). ticket s + k) (sym calls)) r.numbered r.publishable mine (λ j u _ k. k) guarded)

  -- the slot stays as it was where a seat keeps its turn, or has none before and after
  pub turn_guarded : (kept : Published) (hs : Homes) (vs : List PassView) (id : ℕ) (v w : PassView) → Sits vs id v → w.turn ≡ v.turn → Guarded rules kept hs vs → Guarded rules kept hs (set vs id w)
  turn_guarded kept hs vs id v w at same (inl t) = dite (ℕ_discrete t.0 id)
      (λ e. let is : v ≡ t.1 = same_view vs id v t.1 at (subst (λ (i : ℕ). Sits vs i t.1) e t.2) in inl (id, w, set_here vs id w (within vs id v at), same ∙ (ap (λ (u : PassView). u.turn) is ∙ t.3), t.4))
      (λ ne. inl (t.0, t.1, set_else vs id t.0 w ne ∙ t.2, t.3, t.4))
  turn_guarded kept hs vs id v w at same (inr t) = inr (each_set (λ i u. u.turn ≡ false) (λ i u. u.turn ≡ false) vs id w (same ∙ t.0 id v at) (λ i u _ _ k. k) t.0, t.1)

  -- a seat with the turn finds the slot out
  pub out_for : (s : S) (r : Turns rules s) (id : ℕ) (v : PassView) → Sits s.views id v → v.turn ≡ true → get_elem? s.homes 0 ≡ some none
  out_for s r id v at on = ⊎_elim
      (λ (t : IsOut s.homes s.views). t.4)
      (λ (t : IsHome rules r.kept s.homes s.views).
      let off = t.0 id v at in absurd (cc)) r.guarded

  -- a seat with no turn whose ticket is served finds it at home
  pub home_for : (s : S) (r : Turns rules s) (id : ℕ) (v : PassView) → Sits s.views id v → v.turn ≡ false → v.ticket ≡ Some (serving s)
      → (k : Shot) × (get_elem? s.homes 0 ≡ some (some (Some k))) × IsKeepable rules k × (published_of k ≡ r.kept)
  home_for s r id v at off mine = ⊎_elim
      (λ (t : IsOut s.homes s.views).
      let there = ((r.each_seat t.0 t.1 t.2).queued (serving s) ((r.each_seat t.0 t.1 t.2).served t.3).0).2 in let here = ((r.each_seat id v at).queued (serving s) mine).2 in
      let same : v ≡ t.1 = same_view s.views id v t.1 at (subst (λ (i : ℕ). Sits s.views i t.1) (sym there ∙ here) t.2) in let on = t.3 in absurd (cc))
      (λ (t : IsHome rules r.kept s.homes s.views). t.1) r.guarded
