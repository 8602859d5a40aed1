-- Rows that are taken into lanes, and kept rows that are taken off them.
use Rattle.std.proofs.Common.{◌≡◌, ◌≢◌, ℕ, ◌+◌, ◌*◌, ◌%◌, ◌<◌, inl, inr, List, [], ◌∷◌, ◌++◌, refl, arith, subst, sym, ap, ◌∙◌, length, get_or, nat_eq}
use Rattle.std.proofs.lemmas.Bool.{cases_eq}
use Rattle.std.proofs.lemmas.Nat.{mod_below}
use Rattle.std.proofs.lemmas.List.{append-nil}
use Rattle.std.proofs.Math.Nat.{mod-mod, mod-eq_of_lt}
use Rattle.gf_field.specs.Modular.{IsSameMod}
use Rattle.gf_field.proofs.Mod.{◌⊙◌}
use Rattle.gf_sums.specs.Sums.{Comb, coefficient, scale}
use Rattle.gf_sums.proofs.Totals.{numbers-tell, total-append, weigh-same, weigh-scale, coefficient-weigh}
use Rattle.alb_rows.specs.Row.{Cells, comb, entry, AreSameVector}
use Rattle.alb_rows.specs.Merge.{at_column}
use Rattle.alb_rows.specs.Span.{rows_of, Ascending, DiffersBySpan}
use Rattle.alb_rows.proofs.RowLemmas.{at_column-same, at_column-other, entry-append}
use Rattle.alb_rows.proofs.SpanLemmas.{mod_add}
use Rattle.alb_reduce.specs.Lanes.{lane_cells, lane_rows, AreAdded, AreZero, IsLaid, PutsLane}
use Rattle.alb_reduce.specs.Echelon.{Agrees, IsCleared, IsEchelon, IsSpread}
use Rattle.alb_reduce.proofs.DiagonalLemmas.{zero_mod, add_zero_left}
use Rattle.alb_reduce.proofs.EchelonLemmas.{differs_none, differs_more}
use Rattle.alb_reduce.proofs.LaneLemmas.{lane_entry, entry-lanes, lane_zero, lane_at, lane_sum, lane_put, rows-at, row_entry, cells_over, zero_cells}

-- ---- vectors by their entries

pub vector_same : (p : ℕ) (xs ys : Cells) → ((j : ℕ) → entry xs j % p ≡ entry ys j % p) → AreSameVector p (comb xs) (comb ys)
vector_same p xs ys e j = record { same = e j }

coefficient-scale : (c : ℕ) (f : Comb ℕ) (j : ℕ) → coefficient nat_eq (scale c f) j ≡ c * coefficient nat_eq f j
coefficient-scale c f j = coefficient-weigh nat_eq numbers-tell (scale c f) j ∙ weigh-scale _ c f ∙ ap (λ n. c * n) (sym (coefficient-weigh nat_eq numbers-tell f j))

pub vector_sum : (p c : ℕ) (xs ys out : Cells) → ((j : ℕ) → entry out j % p ≡ (entry xs j + c * entry ys j) % p) → AreSameVector p (comb out) (comb xs ++ scale c (comb ys))
vector_sum p c xs ys out e j =
    next_same (e j)
    (sym (total-append _ (comb xs) (scale c (comb ys)) ∙ ap (λ n. entry xs j + n) (coefficient-scale c (comb ys) j)))
  where
    next_same : {a b d : ℕ} → a % p ≡ b % p → b ≡ d → IsSameMod p a d
    next_same h g = record { same = h ∙ ap (λ n. n % p) g }

pub vector_times : (p c : ℕ) (xs out : Cells) → ((j : ℕ) → entry out j % p ≡ (c * entry xs j) % p) → AreSameVector p (comb out) (scale c (comb xs))
vector_times p c xs out e j = record { same = e j ∙ ap (λ n. n % p) (sym (coefficient-scale c (comb xs) j)) }

-- a recipe of a row is one of the same vector
pub agrees_same : (p : ℕ) (w u : ℕ → ℕ) (recipe xs ys : Cells) → ((j : ℕ) → entry xs j % p ≡ entry ys j % p) → Agrees p w u recipe xs → Agrees p w u recipe ys
agrees_same p w u recipe xs ys e h = h ⊙ weigh-same nat_eq numbers-tell (comb xs) (comb ys) (vector_same p xs ys e) u

-- ---- what is spread

entry_spread : (live lanes : List ℕ) (rest : Cells) (j : ℕ) → entry (lane_cells live lanes ++ rest) j ≡ lane_entry live lanes j + entry rest j
entry_spread live lanes rest j = entry-append (lane_cells live lanes) rest j ∙ ap (λ n. n + entry rest j) (entry-lanes live lanes j)

pub spread_none : (p : ℕ) (live pivots : List ℕ) (rows : List Cells) (row : Cells) (lanes : List ℕ) → 0 < p → length lanes ≡ length live → AreZero lanes
    → IsSpread p live pivots rows row lanes row
spread_none p live pivots rows row lanes pos long none = record {
  long = long;
  residues = λ i l. rw (none i l) pos;
  differs = rw (zero_cells live lanes none) (differs_none p (rows_of rows) (entry row));
  zero_at = λ i k li lk e. none i (omega arith);
}

pub put_entries : (p : ℕ) (live lanes lanes' : List ℕ) (column x : ℕ) (rest : Cells) (j : ℕ) → length lanes ≡ length live → PutsLane p live column x lanes lanes'
    → entry (lane_cells live lanes ++ (column, x) ∷ rest) j % p ≡ entry (lane_cells live lanes' ++ rest) j % p
put_entries p live lanes lanes' column x rest j long h =
    let put : lane_entry live lanes' j % p ≡ (lane_entry live lanes j + at_column column x j) % p =
    rw (← h.at) (lane_put p live lanes lanes' h.lane x j long (h.long ∙ long) h.within h.puts) in
    rw (entry_spread live lanes ((column, x) ∷ rest) j, entry_spread live lanes' rest j)
    (ap (λ n. n % p) (regroup (lane_entry live lanes j) (at_column column x j) (entry rest j))
    ∙ mod_add p _ _ (entry rest j) (entry rest j) (sym put) refl)
  where
    regroup : (a b c : ℕ) → a + (b + c) ≡ a + b + c
    regroup a b c = omega arith

pub spread_put : (p : ℕ) (live pivots : List ℕ) (rows : List Cells) (row : Cells) (lanes lanes' : List ℕ) (column x : ℕ) (rest : Cells) → 0 < p
    → ((k : ℕ) → k < length pivots → get_or pivots k 0 ≢ column) → PutsLane p live column x lanes lanes'
    → IsSpread p live pivots rows row lanes ((column, x) ∷ rest) → IsSpread p live pivots rows row lanes' rest
spread_put p live pivots rows row lanes lanes' column x rest pos none h s = record {
  long = h.long ∙ s.long;
  residues = λ i l. elim (cases_eq i h.lane) [
    | inl e ↦ rw (e, h.puts.here) (mod_below (get_or lanes h.lane 0 + x) p pos)
    | inr ne ↦ rw (h.puts.others i ne) (s.residues i (omega (arith, h.long)))
  ];
  differs = record {
    difference = s.differs.difference;
    in_span = s.differs.in_span;
    sum = λ j. s.differs.sum j ∙ mod_add p _ _ _ _ (put_entries p live lanes lanes' column x rest j s.long h) refl;
  };
  zero_at = λ i k li lk e. elim (cases_eq i h.lane) [
    | inl same_lane ↦ absurd (none k lk (sym e ∙ ap (λ n. get_or live n 0) same_lane ∙ h.at))
    | inr ne ↦ h.puts.others i ne ∙ s.zero_at i k li lk e
  ];
}

-- the kept rows are 0 at the lanes of pivots
pub rows_zero_at : (p : ℕ) (live slots pivots : List ℕ) (lrows : List (List ℕ)) (k l i : ℕ) → IsEchelon p pivots (lane_rows live pivots lrows) → IsLaid p live slots pivots lrows
    → k < length pivots → l < length pivots → i < length live → get_or live i 0 ≡ get_or pivots l 0 → get_or (get_or lrows k []) i 0 ≡ 0
rows_zero_at p live slots pivots lrows k l i h laid lk ll li e =
    let each = laid.each k lk in
    elim (cases_eq (get_or pivots k 0) (get_or pivots l 0)) [
      | inl same_pivot ↦ each.before i li (omega (arith, e, same_pivot))
      | inr ne ↦
          let other : entry (get_or (lane_rows live pivots lrows) k []) (get_or pivots l 0) % p ≡ 0 =
          h.diagonal.others k l lk ll (λ q. ne (ap (λ n. get_or pivots n 0) q)) in
          let read : entry (get_or (lane_rows live pivots lrows) k []) (get_or pivots l 0) ≡ get_or (get_or lrows k []) i 0 =
          ap (λ (xs : Cells). entry xs (get_or pivots l 0)) (rows-at live pivots lrows k laid.long lk)
          ∙ row_entry live (get_or lrows k []) (get_or pivots k 0) (get_or pivots l 0)
          ∙ ap (λ n. n + lane_entry live (get_or lrows k []) (get_or pivots l 0)) (at_column-other (get_or pivots k 0) 1 (get_or pivots l 0) ne)
          ∙ add_none (lane_entry live (get_or lrows k []) (get_or pivots l 0))
          ∙ ap (λ n. lane_entry live (get_or lrows k []) n) (sym e)
          ∙ lane_at live (get_or lrows k []) i laid.ascending each.long li in
          sym (mod-eq_of_lt (each.residues i (omega (arith, each.long)))) ∙ ap (λ n. n % p) (sym read) ∙ other
    ]
  where
    add_none : (n : ℕ) → 0 + n ≡ n
    add_none n = omega arith

-- x e_c, where x + f is 0, goes with f e_c
cancelled : (p f x c j a b s : ℕ) → (x + f) % p ≡ 0 → (a + f * b + s) % p ≡ (a + (at_column c x j + s) + f * (at_column c 1 j + b)) % p
cancelled p f x c j a b s z = elim (cases_eq c j) [
  | inl e ↦ rw (← e, at_column-same c x, at_column-same c 1)
      (sym (ap (λ n. n % p) (regroup a b s) ∙ add_zero_left p (x + f) (a + f * b + s) z))
  | inr ne ↦ rw (at_column-other c x j ne, at_column-other c 1 j ne) (ap (λ n. n % p) (none a b s))
]
  where
    regroup : (a b s : ℕ) → a + (x + s) + f * (1 + b) ≡ (x + f) + (a + f * b + s)
    regroup a b s = omega arith

    none : (a b s : ℕ) → a + f * b + s ≡ a + (0 + s) + f * (0 + b)
    none a b s = omega arith

-- the lanes of a kept row were taken off, beside a cell at its pivot
pub off_entries : (p : ℕ) (live slots pivots : List ℕ) (lrows : List (List ℕ)) (lanes lanes' : List ℕ) (k x f : ℕ) (rest : Cells) (j : ℕ)
    → IsLaid p live slots pivots lrows → k < length pivots → length lanes ≡ length live → (x + f) % p ≡ 0 → AreAdded p f (get_or lrows k []) lanes lanes'
    → entry (lane_cells live lanes' ++ rest) j % p
    ≡ (entry (lane_cells live lanes ++ (get_or pivots k 0, x) ∷ rest) j + f * entry (get_or (lane_rows live pivots lrows) k []) j) % p
off_entries p live slots pivots lrows lanes lanes' k x f rest j laid lk long z h =
    let each = laid.each k lk in
    let c : ℕ = get_or pivots k 0 in
    let by : List ℕ = get_or lrows k [] in
    let sum : lane_entry live lanes' j % p ≡ (lane_entry live lanes j + f * lane_entry live by j) % p =
    lane_sum p f live lanes by lanes' j long each.long (h.long ∙ long) (λ i l. ap (λ n. n % p) (h.value i (omega (arith, long))) ∙ mod-mod _ p) in
    rw (entry_spread live lanes' rest j, entry_spread live lanes ((c, x) ∷ rest) j, rows-at live pivots lrows k laid.long lk, row_entry live by c j)
    (mod_add p _ _ (entry rest j) (entry rest j) sum refl
    ∙ cancelled p f x c j (lane_entry live lanes j) (lane_entry live by j) (entry rest j) z)

pub spread_off : (p : ℕ) (live slots pivots : List ℕ) (lrows : List (List ℕ)) (row : Cells) (lanes lanes' : List ℕ) (k x f : ℕ) (rest : Cells)
    → IsEchelon p pivots (lane_rows live pivots lrows) → IsLaid p live slots pivots lrows → k < length pivots → (x + f) % p ≡ 0
    → AreAdded p f (get_or lrows k []) lanes lanes' → IsSpread p live pivots (lane_rows live pivots lrows) row lanes ((get_or pivots k 0, x) ∷ rest)
    → IsSpread p live pivots (lane_rows live pivots lrows) row lanes' rest
spread_off p live slots pivots lrows row lanes lanes' k x f rest h laid lk z a s = record {
  long = a.long ∙ s.long;
  residues = λ i l. rw (a.value i (omega (arith, a.long))) (mod_below (get_or lanes i 0 + f * get_or (get_or lrows k []) i 0) p (omega (arith, h.above)));
  differs = differs_more p (rows_of (lane_rows live pivots lrows)) (entry row) _ _ k f x s.differs z
      (λ j. off_entries p live slots pivots lrows lanes lanes' k x f rest j laid lk s.long z a);
  zero_at = λ i l li ll e.
      rw (a.value i (omega (arith, s.long)), s.zero_at i l li ll e, rows_zero_at p live slots pivots lrows k l i h laid lk ll li e)
      (zero_times f);
}
  where
    zero_times : (m : ℕ) → (0 + m * 0) % p ≡ 0
    zero_times m = ap (λ n. n % p) (omega arith) ∙ zero_mod p

pub spread_cleared : (p : ℕ) (live pivots : List ℕ) (rows : List Cells) (row : Cells) (lanes : List ℕ) → Ascending live → IsSpread p live pivots rows row lanes []
    → IsCleared p pivots rows row (lane_cells live lanes)
spread_cleared p live pivots rows row lanes a s = record {
  residues = cells_over p live lanes a s.residues;
  differs = subst (λ (w : Cells). DiffersBySpan p (rows_of rows) (entry row) (entry w)) (append-nil (lane_cells live lanes)) s.differs;
  zero_at = λ l ll.
      ap (λ n. n % p) (entry-lanes live lanes (get_or pivots l 0) ∙ lane_zero live lanes (get_or pivots l 0) (λ i li e. s.zero_at i l li ll e))
      ∙ zero_mod p;
}
