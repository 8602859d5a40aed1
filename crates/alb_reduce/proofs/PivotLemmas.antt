-- A cleared row in lanes becomes the row of a new pivot.
use Rattle.std.proofs.Common.{◌≡◌, ◌≢◌, ℕ, ◌+◌, ◌*◌, ◌%◌, ◌<◌, inl, inr, List, [], ◌∷◌, ◌++◌, refl, arith, subst, sym, ap, ◌∙◌, length, get_or, set}
use Rattle.std.proofs.lemmas.Bool.{cases_eq, cases_lt, cases_order}
use Rattle.std.proofs.lemmas.Nat.{mod_below}
use Rattle.std.proofs.lemmas.List.{length_push, get_or_push, get_or_append_left, get_or_past, length-set, get_or-set_same, get_or-set_other, get_or_default}
use Rattle.std.proofs.Math.Nat.{mod-mod, mod-eq_of_lt}
use Rattle.gf_sums.specs.Sums.{scale}
use Rattle.alb_rows.specs.Row.{Cells, comb, entry, AreSameVector, IsRowOver, RowLeadsWith}
use Rattle.alb_rows.specs.Merge.{at_column}
use Rattle.alb_rows.specs.Span.{Ascending}
use Rattle.alb_rows.proofs.RowLemmas.{at_column-same, at_column-other, entry_residue}
use Rattle.alb_rows.proofs.SpanLemmas.{mod_add}
use Rattle.alb_reduce.specs.Lanes.{lane_cells, lane_rows, AreAdded, AreLanesCleared, AreResidues, AreTimes, IsFirstLane, IsLaid, IsLaneCleared, IsLaneRow}
use Rattle.alb_reduce.specs.Echelon.{Agrees, AreClearedAt, IsClearedAt, IsEchelon, IsSpread, NewPivot, RecipesFollow}
use Rattle.alb_reduce.proofs.DiagonalLemmas.{zero_mod}
use Rattle.alb_reduce.proofs.EchelonLemmas.{new_pivot}
use Rattle.alb_reduce.proofs.PlaceLemmas.{lead_fresh}
use Rattle.alb_reduce.proofs.LaneLemmas.{lane_entry, entry-lanes, lane_zero, lane_at, lane_sum, lane_times, lane_moved, ascending_le, rows-at, rows-length, rows-push, rows-set, row_entry, lane_row_over}
use Rattle.alb_reduce.proofs.RecipeLemmas.{agrees_sum, follow_more}
use Rattle.alb_reduce.proofs.SpreadLemmas.{spread_cleared, vector_sum}

-- a row in the lanes w was multiplied by i, so that its first lane is 1, and was taken off the kept rows
pub record IsPivotStep (p i lane : ℕ) (live slots pivots : List ℕ) (old new : List (List ℕ)) (w by : List ℕ) (row : Cells) : Type 0 where
  pub echelon : IsEchelon p pivots (lane_rows live pivots old)
  pub laid : IsLaid p live slots pivots old
  pub spread : IsSpread p live pivots (lane_rows live pivots old) row w []
  pub first : IsFirstLane w lane
  pub small : get_or w lane 0 < p
  pub times : AreTimes p i w by
  pub inverse : (get_or w lane 0 * i) % p ≡ 1
  pub cleared : AreLanesCleared p lane by old new (length old)

-- the new row
abbrev pub pivot_row : List ℕ → ℕ → List ℕ → Cells
pivot_row live lane by = (get_or live lane 0, 1) ∷ lane_cells live (set by lane 0)

-- ---- one row

at_zero : (c j : ℕ) → at_column c 0 j ≡ 0
at_zero c j = elim (cases_eq c j) [ inl e ↦ rw (← e) (at_column-same c 0) | inr ne ↦ at_column-other c 0 j ne ]

pub pivot_entries : (live by : List ℕ) (lane j : ℕ) → length by ≡ length live → lane < length live → get_or by lane 0 ≡ 1 → entry (pivot_row live lane by) j ≡ lane_entry live by j
pivot_entries live by lane j long l one =
    let c : ℕ = get_or live lane 0 in
    let moved : lane_entry live (set by lane 0) j + at_column c 1 j ≡ lane_entry live by j + at_column c 0 j =
    subst (λ (n : ℕ). lane_entry live (set by lane 0) j + at_column c n j ≡ lane_entry live by j + at_column c 0 j) one (lane_moved live by lane 0 j long l) in
    row_entry live (set by lane 0) c j ∙ joined (at_column c 1 j) (lane_entry live (set by lane 0) j) (lane_entry live by j) (at_column c 0 j) moved (at_zero c j)
  where
    joined : (a b d z : ℕ) → b + a ≡ d + z → z ≡ 0 → a + b ≡ d
    joined a b d z e h = omega arith

-- a multiple of other lanes was added to those of a row
pub added_entries : (p f k : ℕ) (live by old new : List ℕ) (j : ℕ) → length old ≡ length live → length by ≡ length live → AreAdded p f by old new
    → entry ((k, 1) ∷ lane_cells live new) j % p ≡ (entry ((k, 1) ∷ lane_cells live old) j + f * lane_entry live by j) % p
added_entries p f k live by old new j lo lb h =
    rw (row_entry live new k j, row_entry live old k j)
    (mod_add p (at_column k 1 j) (at_column k 1 j) _ _ refl
    (lane_sum p f live old by new j lo lb (h.long ∙ lo) (λ i li. ap (λ n. n % p) (h.value i (omega arith)) ∙ mod-mod _ p))
    ∙ ap (λ n. n % p) (regroup (at_column k 1 j) (lane_entry live old j) (lane_entry live by j)))
  where
    regroup : (x y z : ℕ) → x + (y + f * z) ≡ x + y + f * z
    regroup x y z = omega arith

-- a kept row that was cleared at a lane
cleared_row : (p lane c k : ℕ) (live by old new : List ℕ) (r : Cells) → Ascending live → length old ≡ length live → length by ≡ length live → lane < length live
    → get_or live lane 0 ≡ c → k ≢ c → IsLaneCleared p lane by old new → ((j : ℕ) → entry r j ≡ lane_entry live by j)
    → IsClearedAt p c (entry r) (entry ((k, 1) ∷ lane_cells live old)) (entry ((k, 1) ∷ lane_cells live new))
cleared_row p lane c k live by old new r a lo lb l is ne h e = record {
  factor = h.factor;
  cancels =
      ap (λ n. (n + h.factor) % p)
      (row_entry live old k c ∙ ap (λ n. n + lane_entry live old c) (at_column-other k 1 c ne) ∙ none (lane_entry live old c)
      ∙ ap (λ n. lane_entry live old n) (sym is) ∙ lane_at live old lane a lo l)
      ∙ h.cancels;
  entries = λ j. rw (e j) (added_entries p h.factor k live by old new j lo lb h.added);
}
  where
    none : (n : ℕ) → 0 + n ≡ n
    none n = omega arith

-- it is 0 before its pivot as before
cleared_lanes : (p lane k : ℕ) (live by old new : List ℕ) → 0 < p → Ascending live → length by ≡ length live → lane < length live → ((i : ℕ) → i < lane → get_or by i 0 ≡ 0)
    → IsLaneCleared p lane by old new → IsLaneRow p live k old → IsLaneRow p live k new
cleared_lanes p lane k live by old new pos a lb l first h row = record {
  long = h.added.long ∙ row.long;
  residues = λ i li. rw (h.added.value i (omega (arith, h.added.long))) (mod_below (get_or old i 0 + h.factor * get_or by i 0) p pos);
  before = λ i li le.
      rw (h.added.value i (omega (arith, row.long)), row.before i li le)
      (elim (cases_lt i lane) [
        | inl lt ↦ rw (first i lt) (ap (λ n. n % p) (times_none h.factor) ∙ zero_mod p)
        | inr ge ↦ (let z : h.factor ≡ 0 = h.none (row.before lane l (omega (arith, ascending_le live lane i a ge li, le))) in
            rw z (ap (λ n. n % p) (none_times (get_or by i 0)) ∙ zero_mod p))
      ]);
}
  where
    times_none : (m : ℕ) → 0 + m * 0 ≡ 0
    times_none m = omega arith

    none_times : (m : ℕ) → 0 + 0 * m ≡ 0
    none_times m = omega arith

-- ---- all rows

by_before : (p i lane : ℕ) (w by : List ℕ) → IsFirstLane w lane → AreTimes p i w by → (k : ℕ) → k < lane → get_or by k 0 ≡ 0
by_before p i lane w by first times k l =
    times.value k (omega (arith, first.within)) ∙ ap (λ n. (i * n) % p) (first.before k l) ∙ ap (λ n. n % p) (none i) ∙ zero_mod p
  where
    none : (m : ℕ) → m * 0 ≡ 0
    none m = omega arith

by_one : (p i lane : ℕ) (w by : List ℕ) → IsFirstLane w lane → AreTimes p i w by → (get_or w lane 0 * i) % p ≡ 1 → get_or by lane 0 ≡ 1
by_one p i lane w by first times inverse =
    times.value lane first.within ∙ ap (λ n. n % p) (turned i (get_or w lane 0)) ∙ inverse
  where
    turned : (a b : ℕ) → a * b ≡ b * a
    turned a b = omega arith

-- the lead of the row
pub lanes_lead : (live w : List ℕ) (lane : ℕ) → Ascending live → length w ≡ length live → IsFirstLane w lane
    → RowLeadsWith (lane_cells live w) (get_or live lane 0, get_or w lane 0)
lanes_lead live w lane a long first = record {
  entry_is = entry-lanes live w (get_or live lane 0) ∙ lane_at live w lane a long (omega (arith, first.within));
  nonzero = first.nonzero;
  before = λ j lj. entry-lanes live w j ∙ lane_zero live w j (λ i li e. elim (cases_lt i lane) [
    | inl lt ↦ first.before i lt
    | inr ge ↦ absurd (omega (arith, ascending_le live lane i a ge li, e, lj))
  ]);
}

pub times_residues : (p i : ℕ) (w by : List ℕ) → 0 < p → AreTimes p i w by → AreResidues p by
times_residues p i w by pos h k l = rw (h.value k (omega (arith, h.long))) (mod_below (i * get_or w k 0) p pos)

-- the lanes of the new row
pub pivot_lanes : (p i lane : ℕ) (live slots pivots : List ℕ) (old new : List (List ℕ)) (w by : List ℕ) (row : Cells) → IsPivotStep p i lane live slots pivots old new w by row
    → IsLaneRow p live (get_or live lane 0) (set by lane 0)
pivot_lanes p i lane live slots pivots old new w by row s = record {
  long = length-set by lane 0 ∙ s.times.long ∙ s.spread.long;
  residues = λ k l. elim (cases_eq k lane) [
    | inl e ↦ rw (e, get_or-set_same by lane 0 0 within) (omega (arith, s.echelon.above))
    | inr ne ↦ rw (get_or-set_other by lane k 0 0 ne) (times_residues p i w by (omega (arith, s.echelon.above)) s.times k (omega (arith, length-set by lane 0)))
  ];
  before = λ k lk le. elim (cases_order k lane) [
    | inl e ↦ rw (e, get_or-set_same by lane 0 0 within) refl
    | inr (inl lt) ↦ rw (get_or-set_other by lane k 0 0 (λ e. absurd (omega arith))) (by_before p i lane w by s.first s.times k lt)
    | inr (inr gt) ↦ absurd (omega (arith, s.laid.ascending lane k gt lk, le))
  ];
}
  where
    within : lane < length by
    within = omega (arith, s.first.within, s.times.long)

-- the lanes of a kept row
pub kept_lanes : (p i lane : ℕ) (live slots pivots : List ℕ) (old new : List (List ℕ)) (w by : List ℕ) (row : Cells) → IsPivotStep p i lane live slots pivots old new w by row
    → (k : ℕ) → k < length pivots → IsLaneRow p live (get_or pivots k 0) (get_or new k [])
kept_lanes p i lane live slots pivots old new w by row s k l =
    cleared_lanes p lane (get_or pivots k 0) live by (get_or old k []) (get_or new k []) (omega (arith, s.echelon.above)) s.laid.ascending (s.times.long ∙ s.spread.long)
    (omega (arith, s.first.within, s.spread.long)) (by_before p i lane w by s.first s.times) (s.cleared.cleared k (omega (arith, s.laid.long))) (s.laid.each k l)

-- the column of the first lane is no pivot
pub step_fresh : (p i lane : ℕ) (live slots pivots : List ℕ) (old new : List (List ℕ)) (w by : List ℕ) (row : Cells) → IsPivotStep p i lane live slots pivots old new w by row
    → (k : ℕ) → k < length pivots → get_or pivots k 0 ≢ get_or live lane 0
step_fresh p i lane live slots pivots old new w by row s =
    lead_fresh p pivots (lane_rows live pivots old) row (lane_cells live w) (get_or live lane 0, get_or w lane 0)
    (spread_cleared p live pivots (lane_rows live pivots old) row w s.laid.ascending s.spread)
    (lanes_lead live w lane s.laid.ascending s.spread.long s.first) s.small

-- the kept rows were cleared at its column
pub step_cleared : (p i lane : ℕ) (live slots pivots : List ℕ) (old new : List (List ℕ)) (w by : List ℕ) (row : Cells) → IsPivotStep p i lane live slots pivots old new w by row
    → AreClearedAt p (get_or live lane 0) (pivot_row live lane by) (lane_rows live pivots old) (lane_rows live pivots new) (length (lane_rows live pivots old))
step_cleared p i lane live slots pivots old new w by row s = record {
  long = long_new ∙ sym long_old;
  residues = λ k d l.
      let lk : k < length pivots = omega (arith, long_new) in
      rw (get_or_default (lane_rows live pivots new) k d [] l, rows-at live pivots new k new_long lk)
      (lane_row_over p live (get_or pivots k 0) (get_or new k []) s.echelon.above s.laid.ascending (kept_lanes p i lane live slots pivots old new w by row s k lk));
  cleared = λ k l.
      let lk : k < length pivots = omega (arith, long_old) in
      rw (rows-at live pivots old k s.laid.long lk, rows-at live pivots new k new_long lk)
      (cleared_row p lane (get_or live lane 0) (get_or pivots k 0) live by (get_or old k []) (get_or new k []) (pivot_row live lane by) s.laid.ascending
      (s.laid.each k lk).long by_long within refl (step_fresh p i lane live slots pivots old new w by row s k lk) (s.cleared.cleared k (omega (arith, s.laid.long)))
      (λ j. pivot_entries live by lane j by_long within (by_one p i lane w by s.first s.times s.inverse)));
  rest = λ k le. rw (get_or_past (lane_rows live pivots new) k [] (omega (arith, long_new, long_old)), get_or_past (lane_rows live pivots old) k [] le) refl;
}
  where
    new_long : length new ≡ length pivots
    new_long = s.cleared.long ∙ s.laid.long

    long_old : length (lane_rows live pivots old) ≡ length pivots
    long_old = rows-length live pivots old s.laid.long

    long_new : length (lane_rows live pivots new) ≡ length pivots
    long_new = rows-length live pivots new new_long

    by_long : length by ≡ length live
    by_long = s.times.long ∙ s.spread.long

    within : lane < length live
    within = omega (arith, s.first.within, s.spread.long)

-- so it is a new pivot
pub step_pivot : (p i lane : ℕ) (live slots pivots : List ℕ) (old new : List (List ℕ)) (w by : List ℕ) (row : Cells) → IsPivotStep p i lane live slots pivots old new w by row
    → NewPivot p pivots (lane_rows live pivots old) row (get_or live lane 0) (lane_rows live (pivots ++ get_or live lane 0 ∷ []) (new ++ set by lane 0 ∷ []))
step_pivot p i lane live slots pivots old new w by row s =
    let r : Cells = pivot_row live lane by in
    let over : IsRowOver p r =
    lane_row_over p live (get_or live lane 0) (set by lane 0) s.echelon.above s.laid.ascending (pivot_lanes p i lane live slots pivots old new w by row s) in
    let scaled : (j : ℕ) → entry r j ≡ (i * entry (lane_cells live w) j) % p = λ j.
    sym (mod-eq_of_lt (entry_residue p r j (omega (arith, s.echelon.above)) over.row over.residues))
    ∙ ap (λ n. n % p) (pivot_entries live by lane j (s.times.long ∙ s.spread.long) (omega (arith, s.first.within, s.spread.long)) (by_one p i lane w by s.first s.times s.inverse))
    ∙ lane_times p i live w by j s.spread.long (s.times.long ∙ s.spread.long) (λ k l. ap (λ n. n % p) (s.times.value k (omega (arith, s.spread.long))) ∙ mod-mod _ p)
    ∙ ap (λ n. (i * n) % p) (sym (entry-lanes live w j)) in
    rw (rows-push live pivots new (get_or live lane 0) (set by lane 0) (s.cleared.long ∙ s.laid.long))
    (new_pivot p pivots (lane_rows live pivots old) row (lane_cells live w) r (get_or live lane 0) (get_or w lane 0) i (lane_rows live pivots new) s.echelon
    (spread_cleared p live pivots (lane_rows live pivots old) row w s.laid.ascending s.spread)
    (lanes_lead live w lane s.laid.ascending s.spread.long s.first) s.inverse scaled over (step_cleared p i lane live slots pivots old new w by row s))

-- and the lanes are laid as before
pub step_laid : (p i lane : ℕ) (live slots pivots : List ℕ) (old new : List (List ℕ)) (w by : List ℕ) (row : Cells) → IsPivotStep p i lane live slots pivots old new w by row
    → IsLaid p live slots (pivots ++ get_or live lane 0 ∷ []) (new ++ set by lane 0 ∷ [])
step_laid p i lane live slots pivots old new w by row s = record {
  ascending = s.laid.ascending;
  index = s.laid.index;
  long = length_push new (set by lane 0) ∙ ap (λ n. n + 1) new_long ∙ sym (length_push pivots (get_or live lane 0));
  each = λ k l. elim (cases_eq k (length pivots)) [
    | inl e ↦ rw (e, get_or_push pivots (get_or live lane 0) 0 (length pivots) refl, get_or_push new (set by lane 0) [] (length pivots) new_long)
        (pivot_lanes p i lane live slots pivots old new w by row s)
    | inr ne ↦
        let lk : k < length pivots = omega (arith, length_push pivots (get_or live lane 0)) in
        rw (get_or_append_left pivots (get_or live lane 0 ∷ []) 0 k lk, get_or_append_left new (set by lane 0 ∷ []) [] k (omega arith))
        (kept_lanes p i lane live slots pivots old new w by row s k lk)
  ];
}
  where
    new_long : length new ≡ length pivots
    new_long = s.cleared.long ∙ s.laid.long

-- ---- the loop over the kept rows

pub lane_uncleared : (p lane : ℕ) (by old : List ℕ) → AreResidues p old → get_or old lane 0 ≡ 0 → IsLaneCleared p lane by old old
lane_uncleared p lane by old r z = record {
  factor = 0;
  cancels = rw z (zero_mod p);
  none = λ e. refl;
  added = record { long = refl; value = λ i l. sym (ap (λ n. n % p) (none (get_or old i 0) (get_or by i 0)) ∙ mod-eq_of_lt (r i l)) };
}
  where
    none : (a b : ℕ) → a + 0 * b ≡ a
    none a b = omega arith

pub added_agrees : (p f k : ℕ) (w u : ℕ → ℕ) (live by old new : List ℕ) (recipe by_recipe recipe' : Cells) → length old ≡ length live → length by ≡ length live
    → AreAdded p f by old new → AreSameVector p (comb recipe') (comb recipe ++ scale f (comb by_recipe)) → Agrees p w u by_recipe (lane_cells live by)
    → Agrees p w u recipe ((k, 1) ∷ lane_cells live old) → Agrees p w u recipe' ((k, 1) ∷ lane_cells live new)
added_agrees p f k w u live by old new recipe by_recipe recipe' lo lb h v b a =
    agrees_sum p f w u ((k, 1) ∷ lane_cells live old) (lane_cells live by) ((k, 1) ∷ lane_cells live new) recipe by_recipe recipe'
    (vector_sum p f ((k, 1) ∷ lane_cells live old) (lane_cells live by) ((k, 1) ∷ lane_cells live new)
    (λ j. rw (entry-lanes live by j) (added_entries p f k live by old new j lo lb h)))
    v b a

pub cleared_none : (p lane : ℕ) (by : List ℕ) (rows : List (List ℕ)) → AreLanesCleared p lane by rows rows 0
cleared_none p lane by rows = record { long = refl; cleared = λ l h. absurd (omega arith); rest = λ l h. refl }

pub cleared_more : (p lane : ℕ) (by : List ℕ) (old new : List (List ℕ)) (k : ℕ) (r : List ℕ) → AreLanesCleared p lane by old new k → k < length new
    → IsLaneCleared p lane by (get_or new k []) r → AreLanesCleared p lane by old (set new k r) (k + 1)
cleared_more p lane by old new k r a lt h = record {
  long = length-set new k r ∙ a.long;
  cleared = λ l ll. elim (cases_eq l k) [
    | inl e ↦ rw (e, get_or-set_same new k r [] lt) (subst (λ (xs : List ℕ). IsLaneCleared p lane by xs r) (a.rest k (omega arith)) h)
    | inr ne ↦ rw (get_or-set_other new k l r [] ne) (a.cleared l (omega arith))
  ];
  rest = λ l le. rw (get_or-set_other new k l r [] (λ e. absurd (omega arith))) (a.rest l (omega arith));
}

pub follow_lanes : (p : ℕ) (d b : Cells) (recipes0 rows0 recipes : List Cells) (live pivots : List ℕ) (lanes : List (List ℕ)) (k : ℕ) (y q : Cells) (xs ys : List ℕ)
    → length lanes ≡ length pivots → k < length pivots → k < length recipes → y ≡ get_or recipes k y → xs ≡ get_or lanes k [] → IsRowOver p q
    → RecipesFollow p d b recipes0 rows0 recipes (lane_rows live pivots lanes)
    → ((w u : ℕ → ℕ) → Agrees p w u d b → Agrees p w u y ((get_or pivots k 0, 1) ∷ lane_cells live xs) → Agrees p w u q ((get_or pivots k 0, 1) ∷ lane_cells live ys))
    → RecipesFollow p d b recipes0 rows0 (set recipes k q) (lane_rows live pivots (set lanes k ys))
follow_lanes p d b recipes0 rows0 recipes live pivots lanes k y q xs ys long lk lq ry rx over f step =
    let x : Cells = (get_or pivots k 0, 1) ∷ lane_cells live xs in
    let lr : k < length (lane_rows live pivots lanes) = omega (arith, rows-length live pivots lanes long) in
    let read : x ≡ get_or (lane_rows live pivots lanes) k x =
    rw (get_or_default (lane_rows live pivots lanes) k x [] lr, rows-at live pivots lanes k long lk, rx) refl in
    rw (rows-set live pivots lanes k ys long lk)
    (follow_more p d b recipes0 rows0 recipes (lane_rows live pivots lanes) k y x q ((get_or pivots k 0, 1) ∷ lane_cells live ys) f lq lr ry read over step)

pub step_one : (p i lane : ℕ) (live slots pivots : List ℕ) (old new : List (List ℕ)) (w by : List ℕ) (row : Cells) → IsPivotStep p i lane live slots pivots old new w by row
    → get_or by lane 0 ≡ 1
step_one p i lane live slots pivots old new w by row s = by_one p i lane w by s.first s.times s.inverse
