-- The laws of runs, by induction over the events.
use Rattle.std.proofs.Common.{◌≡◌, ◌≢◌, ℕ, Bool, true, false, ◌+◌, ◌<◌, ◌≤◌, ◌&&◌, zero, suc, eqb, eqb-true, eq-eqb, ne_eqb, nat_lt, set, slice_get, slice_index, replicate, Option, Some, None, List, [], ◌∷◌, ◌++◌, length, cond, refl, sym, ap, ◌∙◌, subst, arith, le_refl}
use mathlib.Core.Logic.{dite}
use native.Mathlib.Decide.{ℕ_discrete}
use Rattle.alb_mono.proofs.Both.{both_tests}
use Rattle.alb_core.specs.declared.event.Cell.{Cell}
use Rattle.alb_core.specs.declared.event.Cell.TheVariants.{Free, Taken, Done}
use Rattle.alb_core.specs.declared.event.Ended.{Ended}
use Rattle.alb_core.specs.declared.event.Ended.TheVariants.{Running, Complete, Stopped}
use Rattle.alb_core.specs.declared.event.Event.{Event}
use Rattle.alb_core.specs.declared.event.Event.TheVariants.{Take, Give, Publish, End, Ask}
use Rattle.alb_core.specs.Machine.{Machine, opened, is_enabled, is_running, is_free, is_taken_by, all_done, after}
use Rattle.alb_core.specs.declared.event.Reply.TheVariants.{Seen}
use Rattle.alb_core.specs.Runs.{IsRun, run, takers, givers}
use Rattle.alb_core.specs.Laws.{EachBlockOnce, RepliesRise, EndIsFinal}

pub run-append : (m : Machine) (a b : List Event) → run m (a ++ b) ≡ run (run m a) b
run-append m [] b = refl
run-append m (e ∷ es) b = run-append (after m e) es b

pub later_run : (m : Machine) (a b : List Event) → IsRun m (a ++ b) → IsRun (run m a) b
later_run m [] b r = r
later_run m (e ∷ es) b r = later_run (after m e) es b r.1

abbrev Later : Machine → Machine → Type 0
Later m n = (m.degree ≤ n.degree) × (is_running m.ended ≡ false → (n.degree ≡ m.degree) × (n.ended ≡ m.ended))

step_later : (m : Machine) (e : Event) → is_enabled m e ≡ true → Later m (after m e)
step_later m (Take w k) on = (le_refl m.degree, λ _. (refl, refl))
step_later m (Give w k) on = (le_refl m.degree, λ _. (refl, refl))
step_later m Publish on = (omega arith, λ off. let t = (both_tests (is_running m.ended) (nat_lt m.degree (length m.counts)) (both_tests (is_running m.ended && nat_lt m.degree (length m.counts)) (all_done m.cells) on).0).0 in absurd (cc))
step_later m (End end) on = (le_refl m.degree, λ off. let t = (both_tests (is_running m.ended) _ on).0 in absurd (cc))
step_later m (Ask s) on = (le_refl m.degree, λ _. (refl, refl))

later_later : (m n o : Machine) → Later m n → Later n o → Later m o
later_later m n o a b = (omega arith, λ off. let s = a.1 off in let t = b.1 (ap is_running s.1 ∙ off) in (t.0 ∙ s.0, t.1 ∙ s.1))

runs_later : (m : Machine) (es : List Event) → IsRun m es → Later m (run m es)
runs_later m [] r = (le_refl m.degree, λ _. (refl, refl))
runs_later m (e ∷ es) r = later_later m (after m e) (run (after m e) es) (step_later m e r.0) (runs_later (after m e) es r.1)

-- the state after more events of a run
later_state : (counts : List ℕ) (before later : List Event) → IsRun (opened counts) (before ++ later) → Later (run (opened counts) before) (run (opened counts) (before ++ later))
later_state counts before later r = subst (Later (run (opened counts) before)) (sym (run-append (opened counts) before later)) (runs_later (run (opened counts) before) later (later_run (opened counts) before later r))

pub replies_rise : (counts : List ℕ) → RepliesRise counts
replies_rise counts before later s t r = (later_state counts before later r).0

-- an end that may be kept is one
is_end : (m : Machine) (e : Ended) → is_enabled m (End e) ≡ true → is_running e ≡ false
is_end m Running on = let t = (both_tests (is_running m.ended) false on).1 in absurd (cc)
is_end m Complete on = refl
is_end m Stopped on = refl

pub end_is_final : (counts : List ℕ) → EndIsFinal counts
end_is_final counts before later e s r = let m : Machine = run (opened counts) before in
    let on = later_run (opened counts) before (End e ∷ later) r in
    let same = (runs_later (after m (End e)) later on.1).1 (is_end m e on.0) in
    subst (λ (n : Machine). Seen n.degree n.ended ≡ Seen m.degree e) (sym (run-append (opened counts) before (End e ∷ later))) (λ i. Seen (same.0 i) (same.1 i))

-- the lists of those who took and gave the block, as its cell tells
abbrev Fits : Option Cell → List ℕ → List ℕ → Type 0
Fits None ws gs = Unit {0}
Fits (Some Free) ws gs = (ws ≡ []) × (gs ≡ [])
Fits (Some (Taken w)) ws gs = (ws ≡ w ∷ []) × (gs ≡ [])
Fits (Some Done) ws gs = (w : ℕ) × (ws ≡ w ∷ []) × (gs ≡ w ∷ [])

get_set_same : (xs : List Cell) (i : ℕ) (x y : Cell) → slice_get xs i ≡ Some y → slice_get (set xs i x) i ≡ Some x
get_set_same [] i x y e = absurd (cc)
get_set_same (z ∷ zs) zero x y e = refl
get_set_same (z ∷ zs) (suc i) x y e = get_set_same zs i x y e

get_set_other : (xs : List Cell) (i j : ℕ) (x : Cell) → i ≢ j → slice_get (set xs i x) j ≡ slice_get xs j
get_set_other [] i j x ne = refl
get_set_other (z ∷ zs) zero zero x ne = absurd (ne refl)
get_set_other (z ∷ zs) zero (suc j) x ne = refl
get_set_other (z ∷ zs) (suc i) zero x ne = refl
get_set_other (z ∷ zs) (suc i) (suc j) x ne = get_set_other zs i j x (λ e. ne (ap suc e))

all_free : (n k : ℕ) → Fits (slice_get (replicate n Free) k) [] []
all_free zero k = tt
all_free (suc n) zero = (refl, refl)
all_free (suc n) (suc k) = all_free n k

free_is : (o : Option Cell) → is_free o ≡ true → o ≡ Some Free
free_is None e = absurd (cc)
free_is (Some Free) e = refl
free_is (Some (Taken w)) e = absurd (cc)
free_is (Some Done) e = absurd (cc)

taken_is : (w : ℕ) (o : Option Cell) → is_taken_by w o ≡ true → o ≡ Some (Taken w)
taken_is w None e = absurd (cc)
taken_is w (Some Free) e = absurd (cc)
taken_is w (Some (Taken v)) e = ap (λ (x : ℕ). Some (Taken x)) (eqb-true v w e)
taken_is w (Some Done) e = absurd (cc)

done_at : (xs : List Cell) (k : ℕ) → all_done xs ≡ true → k < length xs → slice_get xs k ≡ Some Done
done_at [] k all inside = absurd (omega arith)
done_at (Free ∷ xs) k all inside = absurd (cc)
done_at (Taken w ∷ xs) k all inside = absurd (cc)
done_at (Done ∷ xs) zero all inside = refl
done_at (Done ∷ xs) (suc k) all inside = done_at xs k all (omega arith)

-- one list after an event of the block b
listed : (b k : ℕ) (ws ws' : List ℕ) (P : List ℕ → Type 0) → (b ≡ k → P ws') → (b ≢ k → P ws) → P (cond (eqb b k) ws' ws)
listed b k ws ws' P here else_ = dite (ℕ_discrete b k) (λ e. subst (λ (t : Bool). P (cond t ws' ws)) (sym (eq-eqb b k e)) (here e)) (λ ne. subst (λ (t : Bool). P (cond t ws' ws)) (sym (ne_eqb b k ne)) (else_ ne))

block_fits : (k : ℕ) (m : Machine) (ws gs : List ℕ) (es : List Event) → Fits (slice_get m.cells k) ws gs → IsRun m es → Fits (slice_get (run m es).cells k) (takers k ws es) (givers k gs es)
block_fits k m ws gs [] fits r = fits
block_fits k m ws gs (Take w b ∷ es) fits r =
    let free = free_is (slice_get m.cells b) (both_tests (is_running m.ended) (is_free (slice_get m.cells b)) r.0).1 in
    block_fits k (after m (Take w b)) (cond (eqb b k) (ws ++ w ∷ []) ws) gs es
    (listed b k ws (ws ++ w ∷ []) (λ l. Fits (slice_get (set m.cells b (Taken w)) k) l gs)
    (λ e. let was : slice_get m.cells k ≡ Some Free = subst (λ (j : ℕ). slice_get m.cells j ≡ Some Free) e free in let f : Fits (Some Free) ws gs = subst (λ o. Fits o ws gs) was fits in
    subst (λ (o : Option Cell). Fits o (ws ++ w ∷ []) gs) (sym (subst (λ (j : ℕ). slice_get (set m.cells j (Taken w)) k ≡ Some (Taken w)) (sym e) (get_set_same m.cells k (Taken w) Free was))) (ap (λ (l : List ℕ). l ++ w ∷ []) f.0, f.1))
    (λ ne. subst (λ (o : Option Cell). Fits o ws gs) (sym (get_set_other m.cells b k (Taken w) ne)) fits)) r.1
block_fits k m ws gs (Give w b ∷ es) fits r =
    let taken = taken_is w (slice_get m.cells b) (both_tests (is_running m.ended) (is_taken_by w (slice_get m.cells b)) r.0).1 in
    block_fits k (after m (Give w b)) ws (cond (eqb b k) (gs ++ w ∷ []) gs) es
    (listed b k gs (gs ++ w ∷ []) (λ l. Fits (slice_get (set m.cells b Done) k) ws l)
    (λ e. let was : slice_get m.cells k ≡ Some (Taken w) = subst (λ (j : ℕ). slice_get m.cells j ≡ Some (Taken w)) e taken in let f : Fits (Some (Taken w)) ws gs = subst (λ o. Fits o ws gs) was fits in
    subst (λ (o : Option Cell). Fits o ws (gs ++ w ∷ [])) (sym (subst (λ (j : ℕ). slice_get (set m.cells j Done) k ≡ Some Done) (sym e) (get_set_same m.cells k Done (Taken w) was))) (w, f.0, ap (λ (l : List ℕ). l ++ w ∷ []) f.1))
    (λ ne. subst (λ (o : Option Cell). Fits o ws gs) (sym (get_set_other m.cells b k Done ne)) fits)) r.1
block_fits k m ws gs (Publish ∷ es) fits r = block_fits k (after m Publish) [] [] es (all_free (slice_index m.counts (m.degree + 1)) k) r.1
block_fits k m ws gs (End end ∷ es) fits r = block_fits k (after m (End end)) ws gs es fits r.1
block_fits k m ws gs (Ask t ∷ es) fits r = block_fits k m ws gs es fits r.1

earlier_run : (m : Machine) (a b : List Event) → IsRun m (a ++ b) → IsRun m a
earlier_run m [] b r = tt
earlier_run m (e ∷ es) b r = (r.0, earlier_run (after m e) es b r.1)

pub each_block_once : (counts : List ℕ) → EachBlockOnce counts
each_block_once counts before later k r inside = let m : Machine = run (opened counts) before in
    let all = (both_tests (is_running m.ended && nat_lt m.degree (length m.counts)) (all_done m.cells) (later_run (opened counts) before (Publish ∷ later) r).0).1 in
    let fits = subst (λ (o : Option Cell). Fits o (takers k [] before) (givers k [] before)) (done_at m.cells k all inside)
    (block_fits k (opened counts) [] [] before (all_free (slice_index counts 1) k) (earlier_run (opened counts) before (Publish ∷ later) r)) in
    record { worker = fits.0; taken = fits.1; given = fits.2 }
