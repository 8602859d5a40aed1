-- What is kept after a step.
use Rattle.std.proofs.Common.{◌≡◌, ℕ, ◌+◌, ◌%◌, ◌<◌, List, [], ◌∷◌, ◌++◌, refl, arith, subst, sym, ap, ◌∙◌, length, get_or, set, map, replicate}
use Rattle.std.specs.List.{All}
use Rattle.std.proofs.lemmas.List.{length_push, get_or_append_left, length-replicate, get_or-replicate}
use Rattle.std.proofs.Math.Nat.{mod-mod}
use Rattle.gf_sums.specs.Sums.{scale}
use Rattle.alb_rows.specs.Row.{Cells, comb, AreSameVector, IsRowOver}
use Rattle.alb_rows.specs.Span.{Ascending}
use Rattle.alb_reduce.specs.declared.kept.Kept.{Kept}
use Rattle.alb_reduce.specs.Index.{IsIndex}
use Rattle.alb_reduce.specs.Lanes.{lane_cells, lane_rows, AreZero, Covers}
use Rattle.alb_reduce.specs.Echelon.{kept_rows, Agrees, AllAgree, HasSameRows, IsCleared, IsEchelon, IsHeld, IsReady, IsSpread, KeepsAll, KeepsPivot, RecipesFollow}
use Rattle.alb_reduce.proofs.LaneLemmas.{entry-lanes, lane_times, rows-length, rows-push, zero_cells}
use Rattle.alb_reduce.proofs.PivotLemmas.{IsPivotStep, pivot_row, pivot_entries, step_laid, step_one, step_pivot}
use Rattle.alb_reduce.proofs.RecipeLemmas.{agrees_times, all_agree_push}
use Rattle.alb_reduce.proofs.SpreadLemmas.{agrees_same, spread_cleared, vector_times}

-- the new rows, as they are kept
pub record IsKeptStep (p i lane : ℕ) (old new : Kept) (cleared : List (List ℕ)) (w by : List ℕ) (row : Cells) : Type 0 where
  pub step : IsPivotStep p i lane old.live.items old.slots.items old.pivots.items (map (λ v. v.items) old.lanes.items) cleared w by row
  pub live : new.live ≡ old.live
  pub slots : new.slots ≡ old.slots
  pub pivots : new.pivots.items ≡ old.pivots.items ++ get_or old.live.items lane 0 ∷ []
  pub lanes : map (λ v. v.items) new.lanes.items ≡ cleared ++ set by lane 0 ∷ []
  pub long : length new.recipes.items ≡ length new.pivots.items
  pub residues : All (IsRowOver p) new.recipes.items

pub kept_held : (p i lane : ℕ) (old new : Kept) (cleared : List (List ℕ)) (w by : List ℕ) (row : Cells) → IsKeptStep p i lane old new cleared w by row
    → IsIndex new.pivots.items new.places.items → IsHeld p new
kept_held p i lane old new cleared w by row k index = record {
  echelon = rw (k.live, k.pivots, k.lanes) (step_pivot p i lane _ _ _ _ cleared w by row k.step).echelon;
  index = index;
  laid = rw (k.live, k.slots, k.pivots, k.lanes) (step_laid p i lane _ _ _ _ cleared w by row k.step);
  long = k.long;
  residues = k.residues;
}

-- the recipes were changed in the same way
kept_agree : (p i lane : ℕ) (old new : Kept) (cleared : List (List ℕ)) (w by : List ℕ) (row first q q' : Cells) (recipes : List Cells)
    → IsKeptStep p i lane old new cleared w by row → new.recipes.items ≡ recipes ++ q' ∷ [] → length recipes ≡ length cleared → AreSameVector p (comb q') (scale i (comb q))
    → RecipesFollow p q' (lane_cells old.live.items by) old.recipes.items (kept_rows old) recipes (lane_rows old.live.items old.pivots.items cleared)
    → (v u : ℕ → ℕ) → AllAgree p v u old.recipes.items (kept_rows old) → Agrees p v u q (lane_cells old.live.items w)
    → AllAgree p v u new.recipes.items (kept_rows new)
kept_agree p i lane old new cleared w by row first q q' recipes k is long vector follow v u all agrees =
    let live : List ℕ = old.live.items in
    let pivots : List ℕ = old.pivots.items in
    let s = k.step in
    let by_long : length by ≡ length live = s.times.long ∙ s.spread.long in
    let new_long : length cleared ≡ length pivots = s.cleared.long ∙ s.laid.long in
    let times : Agrees p v u q' (lane_cells live by) =
    agrees_times p i v u (lane_cells live w) (lane_cells live by) q q'
    (vector_times p i (lane_cells live w) (lane_cells live by)
    (λ j. rw (entry-lanes live by j, entry-lanes live w j)
    (lane_times p i live w by j s.spread.long by_long (λ n l. ap (λ m. m % p) (s.times.value n (omega (arith, s.spread.long))) ∙ mod-mod _ p))))
    vector agrees in
    let last : Agrees p v u q' (pivot_row live lane by) =
    agrees_same p v u q' (lane_cells live by) (pivot_row live lane by)
    (λ j. ap (λ m. m % p) (entry-lanes live by j ∙ sym (pivot_entries live by lane j by_long (omega (arith, s.first.within, s.spread.long)) (step_one p i lane _ _ _ _ cleared w by row s))))
    times in
    let pushed : AllAgree p v u (recipes ++ q' ∷ []) (lane_rows live pivots cleared ++ pivot_row live lane by ∷ []) =
    all_agree_push p v u recipes (lane_rows live pivots cleared) q' (pivot_row live lane by) (long ∙ new_long ∙ sym (rows-length live pivots cleared new_long))
    (follow.agree v u times all) last in
    rw (k.live, k.pivots, k.lanes, is, rows-push live pivots cleared (get_or live lane 0) (set by lane 0) new_long) pushed

pub kept_keeps : (p i lane : ℕ) (old new : Kept) (cleared : List (List ℕ)) (w by : List ℕ) (row first q q' : Cells) (recipes : List Cells)
    → IsKeptStep p i lane old new cleared w by row → new.recipes.items ≡ recipes ++ q' ∷ [] → length recipes ≡ length cleared → AreSameVector p (comb q') (scale i (comb q))
    → RecipesFollow p q' (lane_cells old.live.items by) old.recipes.items (kept_rows old) recipes (lane_rows old.live.items old.pivots.items cleared)
    → ((v u : ℕ → ℕ) → AllAgree p v u old.recipes.items (kept_rows old) → Agrees p v u first row → Agrees p v u q (lane_cells old.live.items w))
    → KeepsPivot p old new row first (get_or old.live.items lane 0)
kept_keeps p i lane old new cleared w by row first q q' recipes k is long vector follow agrees =
    let rows_long : length (kept_rows new) ≡ length new.pivots.items =
    rows-length new.live.items new.pivots.items (map (λ v. v.items) new.lanes.items)
    (rw (k.lanes, k.pivots) (length_push cleared (set by lane 0) ∙ ap (λ n. n + 1) (k.step.cleared.long ∙ k.step.laid.long) ∙ sym (length_push old.pivots.items (get_or old.live.items lane 0)))) in
    record {
      pivots = k.pivots;
      rows = rw (k.live, k.pivots, k.lanes) (step_pivot p i lane _ _ _ _ cleared w by row k.step);
      long = k.long ∙ sym rows_long;
      residues = k.residues;
      agree = λ v u all by_first. kept_agree p i lane old new cleared w by row first q q' recipes k is long vector follow v u all (agrees v u all by_first);
    }

-- ---- lanes for all columns

pub numbers_ascend : (n : ℕ) (live : List ℕ) → length live ≡ n → ((i : ℕ) → i < n → get_or live i 0 ≡ i) → Ascending live
numbers_ascend n live long h i j l m = omega (arith, h i (omega arith), h j (omega arith))

pub numbers_cover : (n : ℕ) (live pivots : List ℕ) → length live ≡ n → ((i : ℕ) → i < n → get_or live i 0 ≡ i) → Covers n live pivots
numbers_cover n live pivots long h c l none = (c, omega arith, h c l)

no_rows : (kept : Kept) → kept.pivots.items ≡ [] → kept_rows kept ≡ []
no_rows kept e = rw e refl

pub opened : (p columns : ℕ) (old new : Kept) (scratch zeros : List ℕ) → IsReady p columns old scratch → old.pivots.items ≡ [] → new.pivots ≡ old.pivots → new.lanes ≡ old.lanes
    → new.recipes ≡ old.recipes → new.places ≡ old.places → length new.live.items ≡ columns → ((i : ℕ) → i < columns → get_or new.live.items i 0 ≡ i)
    → IsIndex new.live.items new.slots.items → zeros ≡ replicate (length new.live.items) 0 → IsReady p columns new zeros
opened p columns old new scratch zeros r none ep el er ek long value index ez = record {
  held = record {
    echelon = subst (λ (rows : List Cells). IsEchelon p new.pivots.items rows) (sym new_rows)
        (subst (λ (ps : List ℕ). IsEchelon p ps []) (sym (ap (λ v. v.items) ep)) (subst (λ (rows : List Cells). IsEchelon p old.pivots.items rows) (no_rows old none) r.held.echelon));
    index = rw (ep, ek) r.held.index;
    laid = record {
      ascending = numbers_ascend columns new.live.items long value;
      index = index;
      long = rw (ep, el) r.held.laid.long;
      each = λ k l. absurd (omega (arith, l, ap length new_none));
    };
    long = rw (er, ep) r.held.long;
    residues = rw er r.held.residues;
  };
  covers = λ l. numbers_cover columns new.live.items new.pivots.items long value;
  long = ap length ez ∙ length-replicate (length new.live.items) 0;
  zero = λ i l. rw ez (get_or-replicate (length new.live.items) i 0 0 (omega (arith, l, ap length ez, length-replicate {A = ℕ} (length new.live.items) 0)));
}
  where
    new_none : new.pivots.items ≡ []
    new_none = ap (λ v. v.items) ep ∙ none

    new_rows : kept_rows new ≡ []
    new_rows = no_rows new (ap (λ v. v.items) ep ∙ none)

pub opened_rows : (old new : Kept) → old.pivots.items ≡ [] → new.pivots ≡ old.pivots → new.recipes ≡ old.recipes → HasSameRows old new
opened_rows old new none ep er = record {
  pivots = ap (λ v. v.items) ep;
  rows = no_rows new (ap (λ v. v.items) ep ∙ none) ∙ sym (no_rows old none);
  recipes = ap (λ v. v.items) er;
}

-- ---- what a row leaves

-- the columns that are no pivots still have their lanes
pub covers_more : (columns : ℕ) (old new : Kept) (c : ℕ) → Covers columns old.live.items old.pivots.items → new.live ≡ old.live → new.pivots.items ≡ old.pivots.items ++ c ∷ []
    → Covers columns new.live.items new.pivots.items
covers_more columns old new c h el ep d l none =
    rw el
    (h d l (λ k lk e. none k (omega (arith, lk, ap length ep, length_push old.pivots.items c))
    (ap (λ (ps : List ℕ). get_or ps k 0) ep ∙ get_or_append_left old.pivots.items (c ∷ []) 0 k lk ∙ e)))

pub keeps_none : (p : ℕ) (kept : Kept) (row : Cells) (lanes : List ℕ) → IsHeld p kept → IsSpread p kept.live.items kept.pivots.items (kept_rows kept) row lanes [] → AreZero lanes
    → KeepsAll p kept kept row
keeps_none p kept row lanes h s none = record {
  same = record { pivots = refl; rows = refl; recipes = refl };
  cleared = subst (λ (w : Cells). IsCleared p kept.pivots.items (kept_rows kept) row w) (zero_cells kept.live.items lanes none)
      (spread_cleared p kept.live.items kept.pivots.items (kept_rows kept) row lanes h.laid.ascending s);
}
