-- Lists of what passes know after one of them changes, and who holds which ticket.
use Rattle.std.proofs.Common.{◌≡◌, ◌≢◌, ℕ, ◌+◌, ◌<◌, ◌≤◌, eqb, eq-eqb, ne_eqb, Bool, cond, List, length, set, sym, refl, ap, ◌∙◌, subst, ⊎_elim, arith, Some, None}
use mathlib.Core.Logic.{dite}
use mathlib.Core.Option.{some-injective}
use native.Mathlib.Decide.{ℕ_discrete}
use Rattle.atomic_table.proofs.Lists.{at_set, set_here, set_else}
use Rattle.alb_board.specs.declared.kept.PassView.{PassView}
use Rattle.alb_board.specs.Turns.{Sits}
use Rattle.alb_board.proofs.Seats.{within}

pub same_view : (vs : List PassView) (i : ℕ) (v w : PassView) → Sits vs i v → Sits vs i w → v ≡ w
same_view vs i v w a b = some-injective v w (sym a ∙ b)

pub each_set : (K K' : ℕ → PassView → Type 0) (vs : List PassView) (id : ℕ) (w : PassView) → K' id w → ((i : ℕ) (v : PassView) → i ≢ id → Sits vs i v → K i v → K' i v)
    → ((i : ℕ) (v : PassView) → Sits vs i v → K i v) → (i : ℕ) (v : PassView) → Sits (set vs id w) i v → K' i v
each_set K K' vs id w mine others all i v e = ⊎_elim (λ (t : (i ≡ id) × (w ≡ v)). subst (λ (x : ℕ × PassView). K' x.0 x.1) (λ k. (sym t.0 k, t.1 k)) mine)
    (λ (t : (i ≢ id) × Sits vs i v). others i v t.0 t.1 (all i v t.1)) (at_set vs id i w v e)

abbrev pub moved : ℕ → ℕ → (ℕ → ℕ) → ℕ → ℕ
moved n id holder m = cond (eqb m n) id (holder m)

pub moved_here : (n id : ℕ) (holder : ℕ → ℕ) → moved n id holder n ≡ id
moved_here n id holder = ap (λ (b : Bool). cond b id (holder n)) (eq-eqb n n refl)

pub moved_else : (n id : ℕ) (holder : ℕ → ℕ) (m : ℕ) → m ≢ n → moved n id holder m ≡ holder m
moved_else n id holder m ne = ap (λ (b : Bool). cond b id (holder m)) (ne_eqb m n ne)

pub held_after : (vs : List PassView) (n now id : ℕ) (holder : ℕ → ℕ) (v w : PassView) → Sits vs id v → v.ticket ≡ None → w.ticket ≡ Some n → id < length vs
    → ((m : ℕ) → now ≤ m → m < n → (u : PassView) × Sits vs (holder m) u × (u.ticket ≡ Some m))
    → (m : ℕ) → now ≤ m → m < n + 1 → (u : PassView) × Sits (set vs id w) (moved n id holder m) u × (u.ticket ≡ Some m)
held_after vs n now id holder v w at empty mine inside held m low high = dite (ℕ_discrete m n)
    (λ e. subst (λ (x : ℕ). (u : PassView) × Sits (set vs id w) (moved n id holder x) u × (u.ticket ≡ Some x)) (sym e)
    (w, subst (λ (i : ℕ). Sits (set vs id w) i w) (sym (moved_here n id holder)) (set_here vs id w inside), mine))
    (λ ne. let old = held m low (omega arith) in let u : PassView = old.0 in
    let other : holder m ≢ id = λ e. (let same : v ≡ u = same_view vs id v u at (subst (λ (i : ℕ). Sits vs i u) e old.1) in let t = old.2 in absurd (cc)) in
    (u, subst (λ (i : ℕ). Sits (set vs id w) i u) (sym (moved_else n id holder m ne)) (set_else vs id (holder m) w other ∙ old.1), old.2))

pub held_set : (vs : List PassView) (id : ℕ) (v w : PassView) (holder : ℕ → ℕ) (low low' next : ℕ) → Sits vs id v → low ≤ low' → ((m : ℕ) → low' ≤ m → v.ticket ≡ Some m → w.ticket ≡ Some m)
    → ((m : ℕ) → low ≤ m → m < next → (u : PassView) × Sits vs (holder m) u × (u.ticket ≡ Some m))
    → (m : ℕ) → low' ≤ m → m < next → (u : PassView) × Sits (set vs id w) (holder m) u × (u.ticket ≡ Some m)
held_set vs id v w holder low low' next at more keeps_it held m lo hi = let old = held m (omega arith) hi in let u : PassView = old.0 in dite (ℕ_discrete (holder m) id)
    (λ e. let same : v ≡ u = same_view vs id v u at (subst (λ (i : ℕ). Sits vs i u) e old.1) in let t = old.2 in
    (w, subst (λ (i : ℕ). Sits (set vs id w) i w) (sym e) (set_here vs id w (within vs id v at)), keeps_it m lo (cc)))
    (λ ne. (u, set_else vs id (holder m) w ne ∙ old.1, old.2))
