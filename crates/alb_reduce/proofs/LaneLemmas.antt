-- Rows in lanes as vectors.
use Rattle.std.proofs.Common.{◌≡◌, ◌≢◌, ℕ, zero, suc, ◌+◌, ◌*◌, ◌%◌, ◌<◌, ◌≤◌, inl, inr, List, [], ◌∷◌, ◌++◌, refl, arith, subst, sym, ap, ◌∙◌, length, get_or, set, take, drop, map}
use Rattle.std.specs.List.{All, AllPairs}
use Rattle.std.proofs.lemmas.Bool.{cases_eq, cases_lt, cases_order, ne_eqb}
use Rattle.std.proofs.lemmas.List.{get_or_default, same_lists, take_more, length-take-le, get_or-take, drop_more, append_assoc, get_or-map}
use Rattle.std.proofs.Math.Nat.{mod-mod}
use Rattle.alb_rows.specs.Row.{Cells, AreCellResidues, IsRow, IsRowOver, entry}
use Rattle.alb_rows.specs.Merge.{at_column}
use Rattle.alb_rows.specs.Span.{Ascending}
use Rattle.alb_rows.proofs.RowLemmas.{at_column-same, at_column-other}
use Rattle.alb_rows.proofs.SpanLemmas.{mod_add}
use Rattle.alb_reduce.specs.Index.{IsIndex, PutsAt}
use Rattle.alb_reduce.specs.Lanes.{lane_cells, lane_rows, AreResidues, AreZero, IsLaneRow}
use Rattle.alb_reduce.proofs.PlaceLemmas.{index_push}

-- ---- the vector of lanes

-- the sum of the lanes at a column
abbrev pub lane_entry : List ℕ → List ℕ → ℕ → ℕ
lane_entry [] lanes j = 0
lane_entry (c ∷ live) [] j = 0
lane_entry (c ∷ live) (x ∷ lanes) j = at_column c x j + lane_entry live lanes j

at_column-zero : (c j : ℕ) → at_column c 0 j ≡ 0
at_column-zero c j = elim (cases_eq c j) [ inl e ↦ rw (← e) (at_column-same c 0) | inr ne ↦ at_column-other c 0 j ne ]

pub entry-lanes : (live lanes : List ℕ) (j : ℕ) → entry (lane_cells live lanes) j ≡ lane_entry live lanes j
entry-lanes [] lanes j = refl
entry-lanes (c ∷ live) [] j = refl
entry-lanes (c ∷ live) (x ∷ lanes) j = elim (cases_eq x 0) [
  | inl e ↦ rw e (omega (arith, at_column-zero c j, entry-lanes live lanes j))
  | inr ne ↦ rw (ne_eqb x 0 ne) (omega (arith, entry-lanes live lanes j))
]

-- where each lane of a column is 0, so is the entry
pub lane_zero : (live lanes : List ℕ) (j : ℕ) → ((i : ℕ) → i < length live → get_or live i 0 ≡ j → get_or lanes i 0 ≡ 0) → lane_entry live lanes j ≡ 0
lane_zero [] lanes j h = refl
lane_zero (c ∷ live) [] j h = refl
lane_zero (c ∷ live) (x ∷ lanes) j h =
    let rest : lane_entry live lanes j ≡ 0 = lane_zero live lanes j (λ i l e. h (suc i) (omega arith) e) in
    elim (cases_eq c j) [
      | inl e ↦ (let z : x ≡ 0 = h 0 (omega arith) e in rw z (omega (arith, at_column-zero c j, rest)))
      | inr ne ↦ omega (arith, at_column-other c x j ne, rest)
    ]

ascending_tail : (c : ℕ) (live : List ℕ) → Ascending (c ∷ live) → Ascending live
ascending_tail c live a i j l m = a (suc i) (suc j) (omega arith) (omega arith)

-- of a column that has a lane the entry is the lane
pub lane_at : (live lanes : List ℕ) (i : ℕ) → Ascending live → length lanes ≡ length live → i < length live → lane_entry live lanes (get_or live i 0) ≡ get_or lanes i 0
lane_at [] lanes i a long l = absurd (omega arith)
lane_at (c ∷ live) [] i a long l = absurd (omega arith)
lane_at (c ∷ live) (x ∷ lanes) zero a long l =
    let rest : lane_entry live lanes c ≡ 0 =
    lane_zero live lanes c (λ k lk e. absurd (omega (arith, a 0 (suc k) (omega arith) (omega arith), e))) in
    omega (arith, at_column-same c x, rest)
lane_at (c ∷ live) (x ∷ lanes) (suc i) a long l =
    let above : c < get_or live i 0 = a 0 (suc i) (omega arith) (omega arith) in
    omega (arith, at_column-other c x (get_or live i 0) (omega arith), lane_at live lanes i (ascending_tail c live a) (omega arith) (omega arith))

-- a column has one lane
pub ascending_once : (live : List ℕ) (i k : ℕ) → Ascending live → i < length live → k < length live → get_or live i 0 ≡ get_or live k 0 → i ≡ k
ascending_once live i k a li lk e = elim (cases_order i k) [
  | inl same ↦ same
  | inr (inl lt) ↦ absurd (omega (arith, a i k lt lk, e))
  | inr (inr gt) ↦ absurd (omega (arith, a k i gt li, e))
]

pub ascending_le : (live : List ℕ) (i k : ℕ) → Ascending live → i ≤ k → k < length live → get_or live i 0 ≤ get_or live k 0
ascending_le live i k a le l = elim (cases_eq i k) [
  | inl e ↦ rw e (omega arith)
  | inr ne ↦ omega (arith, a i k (omega arith) l)
]

-- ---- sums

column_sum : (p f c x y z j : ℕ) → z % p ≡ (x + f * y) % p → at_column c z j % p ≡ (at_column c x j + f * at_column c y j) % p
column_sum p f c x y z j e = elim (cases_eq c j) [
  | inl same ↦ rw (← same, at_column-same c x, at_column-same c y, at_column-same c z) e
  | inr ne ↦ rw (at_column-other c x j ne, at_column-other c y j ne, at_column-other c z j ne) (ap (λ n. n % p) (omega arith))
]

pub lane_sum : (p f : ℕ) (live old by new : List ℕ) (j : ℕ) → length old ≡ length live → length by ≡ length live → length new ≡ length live
    → ((i : ℕ) → i < length live → get_or new i 0 % p ≡ (get_or old i 0 + f * get_or by i 0) % p)
    → lane_entry live new j % p ≡ (lane_entry live old j + f * lane_entry live by j) % p
lane_sum p f [] old by new j lo lb ln h = ap (λ n. n % p) (omega arith)
lane_sum p f (c ∷ live) [] by new j lo lb ln h = absurd (omega arith)
lane_sum p f (c ∷ live) (x ∷ old) [] new j lo lb ln h = absurd (omega arith)
lane_sum p f (c ∷ live) (x ∷ old) (y ∷ by) [] j lo lb ln h = absurd (omega arith)
lane_sum p f (c ∷ live) (x ∷ old) (y ∷ by) (z ∷ new) j lo lb ln h =
    mod_add p _ _ _ _ (column_sum p f c x y z j (h 0 (omega arith)))
    (lane_sum p f live old by new j (omega arith) (omega arith) (omega arith) (λ i l. h (suc i) (omega arith)))
    ∙ ap (λ n. n % p) (regroup (at_column c x j) (at_column c y j) (lane_entry live old j) (lane_entry live by j))
  where
    regroup : (a b s t : ℕ) → (a + f * b) + (s + f * t) ≡ (a + s) + f * (b + t)
    regroup a b s t = omega arith

pub lane_times : (p f : ℕ) (live old new : List ℕ) (j : ℕ) → length old ≡ length live → length new ≡ length live
    → ((i : ℕ) → i < length live → get_or new i 0 % p ≡ (f * get_or old i 0) % p) → lane_entry live new j % p ≡ (f * lane_entry live old j) % p
lane_times p f [] old new j lo ln h = ap (λ n. n % p) (omega arith)
lane_times p f (c ∷ live) [] new j lo ln h = absurd (omega arith)
lane_times p f (c ∷ live) (x ∷ old) [] j lo ln h = absurd (omega arith)
lane_times p f (c ∷ live) (x ∷ old) (z ∷ new) j lo ln h =
    mod_add p _ _ _ _ here (lane_times p f live old new j (omega arith) (omega arith) (λ i l. h (suc i) (omega arith)))
    ∙ ap (λ n. n % p) (regroup (at_column c x j) (lane_entry live old j))
  where
    here : at_column c z j % p ≡ (f * at_column c x j) % p
    here = elim (cases_eq c j) [
      | inl same ↦ rw (← same, at_column-same c x, at_column-same c z) (h 0 (omega arith))
      | inr ne ↦ rw (at_column-other c x j ne, at_column-other c z j ne) (ap (λ n. n % p) (omega arith))
    ]

    regroup : (a s : ℕ) → f * a + f * s ≡ f * (a + s)
    regroup a s = omega arith

-- another value stands in one lane
pub lane_moved : (live lanes : List ℕ) (i y j : ℕ) → length lanes ≡ length live → i < length live
    → lane_entry live (set lanes i y) j + at_column (get_or live i 0) (get_or lanes i 0) j ≡ lane_entry live lanes j + at_column (get_or live i 0) y j
lane_moved [] lanes i y j long l = absurd (omega arith)
lane_moved (c ∷ live) [] i y j long l = absurd (omega arith)
lane_moved (c ∷ live) (x ∷ lanes) zero y j long l = omega arith
lane_moved (c ∷ live) (x ∷ lanes) (suc i) y j long l = omega (arith, lane_moved live lanes i y j (omega arith) (omega arith))

same_lanes : (live old new : List ℕ) (j : ℕ) → length old ≡ length live → length new ≡ length live → ((i : ℕ) → get_or new i 0 ≡ get_or old i 0)
    → lane_entry live new j ≡ lane_entry live old j
same_lanes live old new j lo ln h =
    let e : new ≡ old = same_lists new old (ln ∙ sym lo) (λ k d l. get_or_default new k d 0 l ∙ h k ∙ get_or_default old k 0 d (omega (arith, l, lo, ln))) in
    ap (λ (xs : List ℕ). lane_entry live xs j) e

-- a number was added in one lane
pub lane_put : (p : ℕ) (live old new : List ℕ) (lane x j : ℕ) → length old ≡ length live → length new ≡ length live → lane < length live
    → PutsAt old new lane ((get_or old lane 0 + x) % p) → lane_entry live new j % p ≡ (lane_entry live old j + at_column (get_or live lane 0) x j) % p
lane_put p [] old new lane x j lo ln l h = absurd (omega arith)
lane_put p (c ∷ live) [] new lane x j lo ln l h = absurd (omega arith)
lane_put p (c ∷ live) (y ∷ old) [] lane x j lo ln l h = absurd (omega arith)
lane_put p (c ∷ live) (y ∷ old) (z ∷ new) zero x j lo ln l h =
    mod_add p _ _ _ _ here (ap (λ n. n % p) same_rest) ∙ ap (λ n. n % p) (omega arith)
  where
    here : at_column c z j % p ≡ (at_column c y j + at_column c x j) % p
    here = elim (cases_eq c j) [
      | inl same ↦ rw (← same, at_column-same c x, at_column-same c y, at_column-same c z) (ap (λ n. n % p) h.here ∙ mod-mod (y + x) p)
      | inr ne ↦ rw (at_column-other c x j ne, at_column-other c y j ne, at_column-other c z j ne) (ap (λ n. n % p) (omega arith))
    ]

    same_rest : lane_entry live new j ≡ lane_entry live old j
    same_rest = same_lanes live old new j (omega arith) (omega arith) (λ i. h.others (suc i) (omega arith))
lane_put p (c ∷ live) (y ∷ old) (z ∷ new) (suc lane) x j lo ln l h =
    let first : z ≡ y = h.others 0 (omega arith) in
    let rest = lane_put p live old new lane x j (omega arith) (omega arith) (omega arith)
    (record { here = h.here; others = λ i ne. h.others (suc i) (omega arith) }) in
    rw first (mod_add p (at_column c y j) (at_column c y j) _ _ refl rest ∙ ap (λ n. n % p) (omega arith))

-- ---- the places of lanes

-- one more place of ascending columns
pub index_next : (live slots slots' : List ℕ) (i : ℕ) → Ascending live → i < length live → IsIndex (take i live) slots → PutsAt slots slots' (get_or live i 0) (i + 1)
    → IsIndex (take (i + 1) live) slots'
index_next live slots slots' i a l x puts =
    let long : length (take i live) ≡ i = length-take-le i live (omega arith) in
    rw (take_more live i 0 l)
    (index_push (take i live) slots slots' (get_or live i 0) x
    (λ k lk e. let lt : k < i = omega (arith, lk, long) in
    absurd (omega (arith, a k i lt l, sym (get_or-take i live k 0 lt), e)))
    (subst (λ (n : ℕ). PutsAt slots slots' (get_or live i 0) (n + 1)) (sym long) puts))

-- ---- loops

pub cells_skip : (live lanes : List ℕ) (cells : Cells) (i : ℕ) → i < length live → i < length lanes → get_or lanes i 0 ≡ 0
    → cells ++ lane_cells (drop (i + 1) live) (drop (i + 1) lanes) ≡ cells ++ lane_cells (drop i live) (drop i lanes)
cells_skip live lanes cells i l m z = rw (drop_more live i 0 l, drop_more lanes i 0 m, z) refl

pub cells_more : (live lanes : List ℕ) (cells : Cells) (i : ℕ) → i < length live → i < length lanes → get_or lanes i 0 ≢ 0
    → (cells ++ (get_or live i 0, get_or lanes i 0) ∷ []) ++ lane_cells (drop (i + 1) live) (drop (i + 1) lanes) ≡ cells ++ lane_cells (drop i live) (drop i lanes)
cells_more live lanes cells i l m ne =
    rw (drop_more live i 0 l, drop_more lanes i 0 m, ne_eqb (get_or lanes i 0) 0 ne)
    (append_assoc cells ((get_or live i 0, get_or lanes i 0) ∷ []) (lane_cells (drop (i + 1) live) (drop (i + 1) lanes)))

-- ---- rows of pivots

-- what is read from a list of vectors, in the list of their items
pub items_read : {V X : Type 0} (items : V → List X) (vs : List V) (k : ℕ) (v : V) (x : List X) → k < length vs → x ≡ items v → v ≡ get_or vs k v →
    x ≡ get_or (map items vs) k []
items_read items vs k v x l e read = e ∙ ap items read ∙ sym (get_or-map items vs k v [] l)

pub rows-length : (live pivots : List ℕ) (rows : List (List ℕ)) → length rows ≡ length pivots → length (lane_rows live pivots rows) ≡ length pivots
rows-length live [] rows e = refl
rows-length live (c ∷ pivots) [] e = absurd (omega arith)
rows-length live (c ∷ pivots) (r ∷ rows) e = omega (arith, rows-length live pivots rows (omega arith))

pub rows-at : (live pivots : List ℕ) (rows : List (List ℕ)) (k : ℕ) → length rows ≡ length pivots → k < length pivots
    → get_or (lane_rows live pivots rows) k [] ≡ (get_or pivots k 0, 1) ∷ lane_cells live (get_or rows k [])
rows-at live [] rows k e l = absurd (omega arith)
rows-at live (c ∷ pivots) [] k e l = absurd (omega arith)
rows-at live (c ∷ pivots) (r ∷ rows) zero e l = refl
rows-at live (c ∷ pivots) (r ∷ rows) (suc k) e l = rows-at live pivots rows k (omega arith) (omega arith)

pub rows-push : (live pivots : List ℕ) (rows : List (List ℕ)) (c : ℕ) (r : List ℕ) → length rows ≡ length pivots
    → lane_rows live (pivots ++ c ∷ []) (rows ++ r ∷ []) ≡ lane_rows live pivots rows ++ ((c, 1) ∷ lane_cells live r) ∷ []
rows-push live [] [] c r e = refl
rows-push live [] (x ∷ rows) c r e = absurd (omega arith)
rows-push live (d ∷ pivots) [] c r e = absurd (omega arith)
rows-push live (d ∷ pivots) (x ∷ rows) c r e = ap (λ (xs : List Cells). ((d, 1) ∷ lane_cells live x) ∷ xs) (rows-push live pivots rows c r (omega arith))

pub rows-set : (live pivots : List ℕ) (rows : List (List ℕ)) (k : ℕ) (r : List ℕ) → length rows ≡ length pivots → k < length pivots
    → lane_rows live pivots (set rows k r) ≡ set (lane_rows live pivots rows) k ((get_or pivots k 0, 1) ∷ lane_cells live r)
rows-set live [] rows k r e l = absurd (omega arith)
rows-set live (c ∷ pivots) [] k r e l = absurd (omega arith)
rows-set live (c ∷ pivots) (x ∷ rows) zero r e l = refl
rows-set live (c ∷ pivots) (x ∷ rows) (suc k) r e l =
    ap (λ (xs : List Cells). ((c, 1) ∷ lane_cells live x) ∷ xs) (rows-set live pivots rows k r (omega arith) (omega arith))

pub rows_more : (live pivots : List ℕ) (rows : List (List ℕ)) (k : ℕ) (x : Cells) (done : List Cells) → length rows ≡ length pivots → k < length pivots
    → done ≡ take k (lane_rows live pivots rows) → x ≡ (get_or pivots k 0, 1) ∷ lane_cells live (get_or rows k []) → done ++ x ∷ [] ≡ take (k + 1) (lane_rows live pivots rows)
rows_more live pivots rows k x done e l d is =
    rw (d, is, ← rows-at live pivots rows k e l) (sym (take_more (lane_rows live pivots rows) k [] (omega (arith, l, rows-length live pivots rows e))))

pub row_entry : (live lanes : List ℕ) (c j : ℕ) → entry ((c, 1) ∷ lane_cells live lanes) j ≡ at_column c 1 j + lane_entry live lanes j
row_entry live lanes c j = omega (arith, entry-lanes live lanes j)

-- ---- lanes give rows

pub all_cons : {X : Type 0} (P : X → Type 0) (x : X) (xs : List X) → P x → All P xs → All P (x ∷ xs)
all_cons P x xs here h zero d l = here
all_cons P x xs here h (suc k) d l = h k d (omega arith)

cells_above : (b : ℕ) (live lanes : List ℕ) → ((i : ℕ) → i < length live → get_or lanes i 0 ≢ 0 → b < get_or live i 0) → All (λ cell. b < cell.0) (lane_cells live lanes)
cells_above b [] lanes h = λ k d l. absurd (omega arith)
cells_above b (c ∷ live) [] h = λ k d l. absurd (omega arith)
cells_above b (c ∷ live) (x ∷ lanes) h =
    let rest : All (λ cell. b < cell.0) (lane_cells live lanes) = cells_above b live lanes (λ i l ne. h (suc i) (omega arith) ne) in
    elim (cases_eq x 0) [
      | inl e ↦ rw e rest
      | inr ne ↦ rw (ne_eqb x 0 ne) (all_cons (λ (cell : ℕ × ℕ). b < cell.0) (c, x) (lane_cells live lanes) (h 0 (omega arith) ne) rest)
    ]

ascending_cons : (c x : ℕ) (xs : Cells) → All (λ cell. c < cell.0) xs → AllPairs (λ a b. a.0 < b.0) xs → AllPairs (λ a b. a.0 < b.0) ((c, x) ∷ xs)
ascending_cons c x xs above h zero zero d l m = absurd (omega arith)
ascending_cons c x xs above h zero (suc j) d l m = above j d (omega arith)
ascending_cons c x xs above h (suc i) zero d l m = absurd (omega arith)
ascending_cons c x xs above h (suc i) (suc j) d l m = h i j d (omega arith) (omega arith)

row_cons : (c x : ℕ) (xs : Cells) → x ≢ 0 → All (λ cell. c < cell.0) xs → IsRow xs → IsRow ((c, x) ∷ xs)
row_cons c x xs ne above h = record {
  ascending = ascending_cons c x xs above h.ascending;
  nonzero = all_cons (λ (cell : ℕ × ℕ). cell.1 ≢ 0) (c, x) xs ne h.nonzero;
}

no_row : IsRow []
no_row = record { ascending = λ i j d l m. absurd (omega arith); nonzero = λ k d l. absurd (omega arith) }

pub cells_row : (live lanes : List ℕ) → Ascending live → IsRow (lane_cells live lanes)
cells_row [] lanes a = no_row
cells_row (c ∷ live) [] a = no_row
cells_row (c ∷ live) (x ∷ lanes) a =
    let rest : IsRow (lane_cells live lanes) = cells_row live lanes (ascending_tail c live a) in
    elim (cases_eq x 0) [
      | inl e ↦ rw e rest
      | inr ne ↦ rw (ne_eqb x 0 ne)
          (row_cons c x (lane_cells live lanes) ne (cells_above c live lanes (λ i l ni. a 0 (suc i) (omega arith) (omega arith))) rest)
    ]

cells_residues : (p : ℕ) (live lanes : List ℕ) → AreResidues p lanes → AreCellResidues p (lane_cells live lanes)
cells_residues p [] lanes h = λ k d l. absurd (omega arith)
cells_residues p (c ∷ live) [] h = λ k d l. absurd (omega arith)
cells_residues p (c ∷ live) (x ∷ lanes) h =
    let rest : AreCellResidues p (lane_cells live lanes) = cells_residues p live lanes (λ i l. h (suc i) (omega arith)) in
    elim (cases_eq x 0) [
      | inl e ↦ rw e rest
      | inr ne ↦ rw (ne_eqb x 0 ne) (all_cons (λ (cell : ℕ × ℕ). cell.1 < p) (c, x) (lane_cells live lanes) (h 0 (omega arith)) rest)
    ]

pub cells_over : (p : ℕ) (live lanes : List ℕ) → Ascending live → AreResidues p lanes → IsRowOver p (lane_cells live lanes)
cells_over p live lanes a r = record { row = cells_row live lanes a; residues = cells_residues p live lanes r }

pub lane_row_over : (p : ℕ) (live : List ℕ) (c : ℕ) (lanes : List ℕ) → 1 < p → Ascending live → IsLaneRow p live c lanes → IsRowOver p ((c, 1) ∷ lane_cells live lanes)
lane_row_over p live c lanes above a h = record {
  row = row_cons c 1 (lane_cells live lanes) one (cells_above c live lanes later) (cells_row live lanes a);
  residues = all_cons (λ (cell : ℕ × ℕ). cell.1 < p) (c, 1) (lane_cells live lanes) above (cells_residues p live lanes h.residues);
}
  where
    one : ◌≢◌ {A = ℕ} 1 0
    one e = omega arith

    later : (i : ℕ) → i < length live → get_or lanes i 0 ≢ 0 → c < get_or live i 0
    later i l ne = elim (cases_lt c (get_or live i 0)) [ inl lt ↦ lt | inr le ↦ absurd (ne (h.before i l le)) ]

pub zero_cells : (live lanes : List ℕ) → AreZero lanes → lane_cells live lanes ≡ []
zero_cells [] lanes h = refl
zero_cells (c ∷ live) [] h = refl
zero_cells (c ∷ live) (x ∷ lanes) h =
    let z : x ≡ 0 = h 0 (omega arith) in rw z (zero_cells live lanes (λ i l. h (suc i) (omega arith)))
