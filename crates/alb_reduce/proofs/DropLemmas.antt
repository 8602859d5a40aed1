-- Rows without the lanes of pivots.
use Rattle.std.proofs.Common.{◌≡◌, ◌≢◌, ℕ, suc, zero, ◌+◌, ◌<◌, ◌⊎◌, inl, inr, List, [], ◌∷◌, ◌++◌, refl, arith, subst, sym, ap, ◌∙◌, length, get_or, map, take, replicate, set, false}
use Rattle.std.proofs.lemmas.Bool.{cases_eq}
use Rattle.std.proofs.lemmas.List.{length-map, get_or-map, length_push, get_or_append_left, take_more, map_push, length-replicate, get_or-replicate, length-set}
use Rattle.std.specs.Prelude.{Option, Some, None, MatchOption}
use Rattle.std.specs.Option.{is_none}
use Rattle.alb_rows.specs.Span.{Ascending}
use Rattle.alb_rows.proofs.RowLemmas.{row_is_its_entries}
use Rattle.alb_reduce.specs.declared.kept.Kept.{Kept}
use Rattle.alb_reduce.specs.Index.{IsIndex}
use Rattle.alb_reduce.specs.Lanes.{gather, lane_cells, lane_rows, AreFreeLanes, AreGathered, Covers, IsFree, IsLaid, IsLaneRow}
use Rattle.alb_reduce.specs.Echelon.{kept_rows, HasSameRows, IsHeld, IsReady}
use Rattle.alb_reduce.proofs.LaneLemmas.{cells_row, entry-lanes, lane_at, lane_entry, lane_zero}
use Rattle.alb_reduce.proofs.SpreadLemmas.{rows_zero_at}

-- ---- places

pub gather-at : (places xs : List ℕ) (k : ℕ) → k < length places → get_or (gather places xs) k 0 ≡ get_or xs (get_or places k 0) 0
gather-at places xs k l = get_or-map (λ i. get_or xs i 0) places k 0 0 l

pub gather-length : (places xs : List ℕ) → length (gather places xs) ≡ length places
gather-length places xs = length-map places (λ i. get_or xs i 0)

-- a number stands somewhere in a list, or nowhere
place-in : (xs : List ℕ) (j : ℕ) → ((k : ℕ) × (k < length xs) × (get_or xs k 0 ≡ j)) ⊎ ((k : ℕ) → k < length xs → get_or xs k 0 ≢ j)
place-in [] j = inr (λ k l. absurd (omega arith))
place-in (x ∷ xs) j = elim (cases_eq x j) [
  | inl e ↦ inl (0, omega arith, e)
  | inr ne ↦ elim (place-in xs j) [
    | inl found ↦ inl (suc found.0, omega (arith, found.1), found.2)
    | inr none ↦ inr (not-later ne none)
  ]
]
  where
    not-later : x ≢ j → ((k : ℕ) → k < length xs → get_or xs k 0 ≢ j) → (k : ℕ) → k < length (x ∷ xs) → get_or (x ∷ xs) k 0 ≢ j
    not-later ne none zero l = ne
    not-later ne none (suc k) l = none k (omega arith)

-- ---- one row

-- lanes that are 0 but at these places
abbrev pub IsZeroOutside : List ℕ → List ℕ → List ℕ → Type 0
IsZeroOutside live places lanes = (i : ℕ) → i < length live → ((k : ℕ) → k < length places → get_or places k 0 ≢ i) → get_or lanes i 0 ≡ 0

pub gather-ascending : (places live : List ℕ) → Ascending live → Ascending places → ((k : ℕ) → k < length places → get_or places k 0 < length live) → Ascending (gather places live)
gather-ascending places live al asc below i j l m =
    let lj : j < length places = omega (arith, m, gather-length places live) in
    let li : i < length places = omega (arith, l, lj) in
    let step : get_or live (get_or places i 0) 0 < get_or live (get_or places j 0) 0 = al (get_or places i 0) (get_or places j 0) (asc i j l lj) (below j lj) in
    omega (arith, step, gather-at places live i li, gather-at places live j lj)

same-entry : (places live lanes : List ℕ) (j : ℕ) → Ascending live → Ascending places → ((k : ℕ) → k < length places → get_or places k 0 < length live) → length lanes ≡ length live
    → IsZeroOutside live places lanes → lane_entry (gather places live) (gather places lanes) j ≡ lane_entry live lanes j
same-entry places live lanes j al asc below long zeros = elim (place-in (gather places live) j) [
  | inl found ↦ at-place found.0 (omega (arith, found.1, gather-length places live)) found.2
  | inr none ↦
      lane_zero (gather places live) (gather places lanes) j (λ i l e. absurd (none i l e))
      ∙ sym (lane_zero live lanes j (λ i l e. zeros i l (λ k lk is. none k (omega (arith, lk, gather-length places live)) (gather-at places live k lk ∙ ap_live k i is ∙ e))))
]
  where
    ap_live : (k i : ℕ) → get_or places k 0 ≡ i → get_or live (get_or places k 0) 0 ≡ get_or live i 0
    ap_live k i is = cc

    ap_entry : (m n : ℕ) → m ≡ n → lane_entry live lanes m ≡ lane_entry live lanes n
    ap_entry m n e = cc

    at-place : (k : ℕ) → k < length places → get_or (gather places live) k 0 ≡ j → lane_entry (gather places live) (gather places lanes) j ≡ lane_entry live lanes j
    at-place k lk is =
        let left : lane_entry (gather places live) (gather places lanes) (get_or (gather places live) k 0) ≡ get_or (gather places lanes) k 0 =
        lane_at (gather places live) (gather places lanes) k (gather-ascending places live al asc below) (gather-length places lanes ∙ sym (gather-length places live))
        (omega (arith, lk, gather-length places live)) in
        let right : lane_entry live lanes (get_or live (get_or places k 0) 0) ≡ get_or lanes (get_or places k 0) 0 = lane_at live lanes (get_or places k 0) al long (below k lk) in
        let columns : get_or (gather places live) k 0 ≡ get_or live (get_or places k 0) 0 = gather-at places live k lk in
        let values : get_or (gather places lanes) k 0 ≡ get_or lanes (get_or places k 0) 0 = gather-at places lanes k lk in
        subst (λ (n : ℕ). lane_entry (gather places live) (gather places lanes) n ≡ lane_entry live lanes n) is
        (left ∙ values ∙ sym right ∙ ap_entry (get_or live (get_or places k 0) 0) (get_or (gather places live) k 0) (sym columns))

-- the cells are the same
pub same-cells : (places live lanes : List ℕ) → Ascending live → Ascending places → ((k : ℕ) → k < length places → get_or places k 0 < length live) → length lanes ≡ length live
    → IsZeroOutside live places lanes → lane_cells (gather places live) (gather places lanes) ≡ lane_cells live lanes
same-cells places live lanes al asc below long zeros =
    row_is_its_entries (lane_cells (gather places live) (gather places lanes)) (lane_cells live lanes) (cells_row (gather places live) (gather places lanes) (gather-ascending places live al asc below))
    (cells_row live lanes al)
    (λ j. entry-lanes (gather places live) (gather places lanes) j ∙ same-entry places live lanes j al asc below long zeros ∙ sym (entry-lanes live lanes j))

-- ---- all rows

pub same-rows : (live live' pivots : List ℕ) (rows rows' : List (List ℕ)) → length rows ≡ length pivots → length rows' ≡ length pivots
    → ((l : ℕ) → l < length pivots → lane_cells live' (get_or rows' l []) ≡ lane_cells live (get_or rows l [])) → lane_rows live' pivots rows' ≡ lane_rows live pivots rows
same-rows live live' [] rows rows' e e' h = refl
same-rows live live' (c ∷ pivots) [] rows' e e' h = absurd (omega arith)
same-rows live live' (c ∷ pivots) (r ∷ rows) [] e e' h = absurd (omega arith)
same-rows live live' (c ∷ pivots) (r ∷ rows) (r' ∷ rows') e e' h =
    let first : lane_cells live' r' ≡ lane_cells live r = h 0 (omega arith) in
    let rest : lane_rows live' pivots rows' ≡ lane_rows live pivots rows = same-rows live live' pivots rows rows' (omega arith) (omega arith) (λ l lt. h (suc l) (omega arith)) in
    cc

-- ---- loops

pub free-none : (live pivots : List ℕ) → AreFreeLanes live pivots 0 []
free-none live pivots = record { ascending = λ i j l h. absurd (omega arith); below = λ k h. absurd (omega arith); all = λ i h f. absurd (omega arith) }

pub free-skip : (live pivots : List ℕ) (n : ℕ) (ps : List ℕ) → AreFreeLanes live pivots n ps → (IsFree pivots (get_or live n 0) → ⊥) → AreFreeLanes live pivots (n + 1) ps
free-skip live pivots n ps a none = record {
  ascending = a.ascending;
  below = λ k l. less (a.below k l);
  all = λ i h f. elim (cases_eq i n) [
    | inl e ↦ absurd (none (subst (λ (m : ℕ). IsFree pivots (get_or live m 0)) e f))
    | inr ne ↦ a.all i (omega arith) f
  ];
}
  where
    less : {x y : ℕ} → x < y → x < y + 1
    less h = omega arith

pub free-more : (live pivots : List ℕ) (n : ℕ) (ps : List ℕ) → AreFreeLanes live pivots n ps → AreFreeLanes live pivots (n + 1) (ps ++ n ∷ [])
free-more live pivots n ps a = record {
  ascending = λ i j l h. elim (cases_eq j (length ps)) [
    | inl e ↦ rw (e, last, old i (omega arith)) (a.below i (omega arith))
    | inr ne ↦ let hj : j < length ps = omega (arith, long, h) in
        rw (old i (omega arith), old j hj) (a.ascending i j l hj)
  ];
  below = λ k h. elim (cases_eq k (length ps)) [
    | inl e ↦ rw (e, last) (omega arith)
    | inr ne ↦ let hk : k < length ps = omega (arith, long, h) in rw (old k hk) (less (a.below k hk))
  ];
  all = λ i h f. elim (cases_eq i n) [
    | inl e ↦ (length ps, omega (arith, long), last ∙ sym e)
    | inr ne ↦ let k = a.all i (omega arith) f in (k.0, omega (arith, long, k.1), old k.0 k.1 ∙ k.2)
  ];
}
  where
    less : {x y : ℕ} → x < y → x < y + 1
    less h = omega arith

    long : length (ps ++ n ∷ []) ≡ length ps + 1
    long = length_push ps n

    last-at : (xs : List ℕ) → get_or (xs ++ n ∷ []) (length xs) 0 ≡ n
    last-at [] = refl
    last-at (x ∷ xs) = last-at xs

    last : get_or (ps ++ n ∷ []) (length ps) 0 ≡ n
    last = last-at ps

    old : (k : ℕ) → k < length ps → get_or (ps ++ n ∷ []) k 0 ≡ get_or ps k 0
    old k l = get_or_append_left ps (n ∷ []) 0 k l

-- where a pivot is found, the column is not free
pub place-taken : (pivots : List ℕ) (c : ℕ) (o : Option ℕ) → MatchOption o (IsFree pivots c) (λ k. (k < length pivots) × (get_or pivots k 0 ≡ c)) → is_none o ≡ false → IsFree pivots c → ⊥
place-taken pivots c None h e f = absurd (cc)
place-taken pivots c (Some k) h e f = f k h.0 h.1

-- one more is gathered
pub gather-more : (places xs done : List ℕ) (k x : ℕ) → k < length places → done ≡ gather (take k places) xs → x ≡ get_or xs (get_or places k 0) 0
    → done ++ x ∷ [] ≡ gather (take (k + 1) places) xs
gather-more places xs done k x l d is =
    rw (d, is, take_more places k 0 l) (sym (map_push (λ i. get_or xs i 0) (take k places) (get_or places k 0)))

-- one row more
pub gathered-more : (places : List ℕ) (first old : List (List ℕ)) (k : ℕ) (r : List ℕ) → AreGathered places first old k → k < length old → r ≡ gather places (get_or old k [])
    → AreGathered places first (set old k r) (k + 1)
gathered-more places first old k r a l is = record {
  long = length-set old k r ∙ a.long;
  gathered = λ m lm. elim (cases_eq m k) [
    | inl e ↦ rw (e, here) (is ∙ ap (λ (xs : List ℕ). gather places xs) (a.rest k (omega arith)))
    | inr ne ↦ there m ne ∙ a.gathered m (omega arith)
  ];
  rest = λ m lm. there m (omega arith) ∙ a.rest m (omega arith);
}
  where
    set-here : (xs : List (List ℕ)) (n : ℕ) → n < length xs → get_or (set xs n r) n [] ≡ r
    set-here [] n l = absurd (omega arith)
    set-here (x ∷ xs) zero l = refl
    set-here (x ∷ xs) (suc n) l = set-here xs n (omega arith)

    here : get_or (set old k r) k [] ≡ r
    here = set-here old k l

    set-there : (xs : List (List ℕ)) (n m : ℕ) → m ≢ n → get_or (set xs n r) m [] ≡ get_or xs m []
    set-there [] n m ne = refl
    set-there (x ∷ xs) zero zero ne = absurd (ne refl)
    set-there (x ∷ xs) zero (suc m) ne = refl
    set-there (x ∷ xs) (suc n) zero ne = refl
    set-there (x ∷ xs) (suc n) (suc m) ne = set-there xs n m (λ e. ne (ap suc e))

    there : (m : ℕ) → m ≢ k → get_or (set old k r) m [] ≡ get_or old m []
    there m ne = set-there old k m ne

-- ---- what is kept

-- the lanes that are dropped, and what is kept then
pub record IsDrop (places : List ℕ) (old new : Kept) : Type 0 where
  pub free : AreFreeLanes old.live.items old.pivots.items (length old.live.items) places
  pub gathered : AreGathered places (map (λ v. v.items) old.lanes.items) (map (λ v. v.items) new.lanes.items) (length old.lanes.items)
  pub live : new.live.items ≡ gather places old.live.items
  pub slots : IsIndex new.live.items new.slots.items
  pub pivots : new.pivots ≡ old.pivots
  pub recipes : new.recipes ≡ old.recipes
  pub kept_places : new.places ≡ old.places

-- a column either is a pivot or is none
pivot-or-free : (pivots : List ℕ) (c : ℕ) → ((k : ℕ) × (k < length pivots) × (get_or pivots k 0 ≡ c)) ⊎ IsFree pivots c
pivot-or-free pivots c = place-in pivots c

-- each row is 0 in the lanes that are dropped
zero-outside : (p : ℕ) (places : List ℕ) (old new : Kept) → IsHeld p old → IsDrop places old new → (l : ℕ) → l < length old.pivots.items
    → IsZeroOutside old.live.items places (get_or (map (λ v. v.items) old.lanes.items) l [])
zero-outside p places old new h d l lt i li none = elim (pivot-or-free old.pivots.items (get_or old.live.items i 0)) [
  | inl found ↦
      rows_zero_at p old.live.items old.slots.items old.pivots.items (map (λ v. v.items) old.lanes.items) l found.0 i h.echelon h.laid lt found.1 li (sym found.2)
  | inr free ↦ (let k = d.free.all i li free in absurd (none k.0 k.1 k.2))
]

row-cells : (p : ℕ) (places : List ℕ) (old new : Kept) → IsHeld p old → IsDrop places old new → (l : ℕ) → l < length old.pivots.items
    → lane_cells new.live.items (get_or (map (λ v. v.items) new.lanes.items) l []) ≡ lane_cells old.live.items (get_or (map (λ v. v.items) old.lanes.items) l [])
row-cells p places old new h d l lt =
    let gathered = d.gathered.gathered l (omega (arith, lt, h.laid.long, length-map old.lanes.items (λ v. v.items))) in
    let each = h.laid.each l lt in
    rw (d.live, gathered)
    (same-cells places old.live.items (get_or (map (λ v. v.items) old.lanes.items) l []) h.laid.ascending d.free.ascending d.free.below each.long (zero-outside p places old new h d l lt))

pub drop-rows : (p : ℕ) (places : List ℕ) (old new : Kept) → IsHeld p old → IsDrop places old new → kept_rows new ≡ kept_rows old
drop-rows p places old new h d =
    rw d.pivots
    (same-rows old.live.items new.live.items old.pivots.items (map (λ v. v.items) old.lanes.items) (map (λ v. v.items) new.lanes.items) h.laid.long (d.gathered.long ∙ h.laid.long)
    (row-cells p places old new h d))

pub drop-same : (p : ℕ) (places : List ℕ) (old new : Kept) → IsHeld p old → IsDrop places old new → HasSameRows old new
drop-same p places old new h d = record { pivots = ap (λ v. v.items) d.pivots; rows = drop-rows p places old new h d; recipes = ap (λ v. v.items) d.recipes }

drop-laid : (p : ℕ) (places : List ℕ) (old new : Kept) → IsHeld p old → IsDrop places old new → IsLaid p new.live.items new.slots.items new.pivots.items (map (λ v. v.items) new.lanes.items)
drop-laid p places old new h d = record {
  ascending = rw d.live (gather-ascending places old.live.items h.laid.ascending d.free.ascending d.free.below);
  index = d.slots;
  long = d.gathered.long ∙ h.laid.long ∙ ap (λ v. length v.items) (sym d.pivots);
  each = λ l lt. each l (subst (λ v. l < length v.items) d.pivots lt);
}
  where
    gathered-row : (l : ℕ) → IsLaneRow p old.live.items (get_or old.pivots.items l 0) (get_or (map (λ v. v.items) old.lanes.items) l [])
        → IsLaneRow p (gather places old.live.items) (get_or old.pivots.items l 0) (gather places (get_or (map (λ v. v.items) old.lanes.items) l []))
    gathered-row l row = record {
      long = gather-length places _ ∙ sym (gather-length places old.live.items);
      residues = λ i li.
          let lp : i < length places = omega (arith, li, gather-length places (get_or (map (λ v. v.items) old.lanes.items) l [])) in
          rw (gather-at places (get_or (map (λ v. v.items) old.lanes.items) l []) i lp)
          (row.residues (get_or places i 0) (omega (arith, d.free.below i lp, row.long)));
      before = λ i li le.
          let lp : i < length places = omega (arith, li, gather-length places old.live.items) in
          gather-at places (get_or (map (λ v. v.items) old.lanes.items) l []) i lp
          ∙ row.before (get_or places i 0) (d.free.below i lp) (omega (arith, le, gather-at places old.live.items i lp));
    }

    each : (l : ℕ) → l < length old.pivots.items → IsLaneRow p new.live.items (get_or new.pivots.items l 0) (get_or (map (λ v. v.items) new.lanes.items) l [])
    each l lt =
        let is : get_or (map (λ v. v.items) new.lanes.items) l [] ≡ gather places (get_or (map (λ v. v.items) old.lanes.items) l []) =
        d.gathered.gathered l (omega (arith, lt, h.laid.long, length-map old.lanes.items (λ v. v.items))) in
        rw (d.live, d.pivots, is) (gathered-row l (h.laid.each l lt))

pub drop-held : (p : ℕ) (places : List ℕ) (old new : Kept) → IsHeld p old → IsDrop places old new → IsHeld p new
drop-held p places old new h d = record {
  echelon = rw (drop-rows p places old new h d, d.pivots) h.echelon;
  index = rw (d.pivots, d.kept_places) h.index;
  laid = drop-laid p places old new h d;
  long = rw (d.recipes, d.pivots) h.long;
  residues = rw d.recipes h.residues;
}

pub drop-covers : (columns : ℕ) (places : List ℕ) (old new : Kept) → IsDrop places old new → Covers columns old.live.items old.pivots.items → Covers columns new.live.items new.pivots.items
drop-covers columns places old new d h c l none =
    let free : IsFree old.pivots.items c = subst (λ v. IsFree v.items c) d.pivots none in
    let i = h c l free in
    let k = d.free.all i.0 i.1 (subst (λ (n : ℕ). IsFree old.pivots.items n) (sym i.2) free) in
    (k.0, omega (arith, k.1, ap length d.live, gather-length places old.live.items), rw d.live (gather-at places old.live.items k.0 k.1 ∙ at k.0 i.0 k.2 ∙ i.2))
  where
    at : (k i : ℕ) → get_or places k 0 ≡ i → get_or old.live.items (get_or places k 0) 0 ≡ get_or old.live.items i 0
    at k i is = cc

pub drop-ready : (p columns : ℕ) (places : List ℕ) (old new : Kept) (scratch zeros : List ℕ) → IsReady p columns old scratch → IsDrop places old new
    → zeros ≡ replicate (length new.live.items) 0 → IsReady p columns new zeros
drop-ready p columns places old new scratch zeros r d ez = record {
  held = drop-held p places old new r.held d;
  covers = λ l. drop-covers columns places old new d (r.covers (before l));
  long = ap length ez ∙ length-replicate (length new.live.items) 0;
  zero = λ i l. rw ez (get_or-replicate (length new.live.items) i 0 0 (omega (arith, l, ap length ez, length-replicate {A = ℕ} (length new.live.items) 0)));
}
  where
    some-place : (ps : List ℕ) → 0 < length ps → ((k : ℕ) → k < length ps → get_or ps k 0 < length old.live.items) → 0 < length old.live.items
    some-place ps l below = omega (arith, below 0 l)

    before : 0 < length new.live.items + length new.pivots.items → 0 < length old.live.items + length old.pivots.items
    before l = elim (cases_eq (length places) 0) [
      | inl e ↦ omega (arith, l, e, ap length d.live, gather-length places old.live.items, ap (λ v. length v.items) d.pivots)
      | inr ne ↦ omega (arith, some-place places (omega arith) d.free.below)
    ]

pub same-through : (old mid new : Kept) → HasSameRows old mid → HasSameRows mid new → HasSameRows old new
same-through old mid new a b = record { pivots = b.pivots ∙ a.pivots; rows = b.rows ∙ a.rows; recipes = b.recipes ∙ a.recipes }
