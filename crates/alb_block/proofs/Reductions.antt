-- Rows can always be reduced: what the span has of one more row.
use Rattle.std.proofs.Common.{◌≡◌, ◌≢◌, ℕ, zero, suc, ◌+◌, ◌*◌, ◌-◌, ◌%◌, ◌<◌, ◌≤◌, ◌⊎◌, inl, inr, List, [], ◌∷◌, ◌++◌, map, length, get_or, refl, arith, subst, sym, ap, ◌∙◌}
use Rattle.std.specs.Prelude.{Some}
use Rattle.std.specs.List.{Contains}
use Rattle.std.proofs.Math.Nat.{mod-eq_of_lt}
use Rattle.std.proofs.lemmas.Bool.{cases_eq}
use Rattle.std.proofs.lemmas.List.{get_or-map, get_or_past, get_or_append_left, get_or_push, length-map, length_push}
use Rattle.gf_field.specs.Modular.{IsInTable}
use Rattle.gf_field.proofs.Table.{IsPrime-from_table, IsUnit-below_prime}
use Rattle.alb_rows.specs.Row.{Cells, ColumnsBelow, entry, IsRowOver, RowLeadsWith}
use Rattle.alb_rows.specs.Span.{InSpan, ArePivots, rows_of}
use Rattle.alb_rows.proofs.RowLemmas.{entry_past, leads_first}
use Rattle.alb_rows.proofs.SpanLemmas.{difference_zero}
use Rattle.alb_reduce.specs.Echelon.{IsCleared, IsClearedAt, AreClearedAt, NewPivot, IsAscendingBelow, AreKeptRows}
use Rattle.alb_reduce.proofs.DiagonalLemmas.{zero_mod, add_zeros, mul_zero_right}
use Rattle.alb_reduce.proofs.StateLemmas.{row_below}
use Rattle.alb_reduce.proofs.PlaceLemmas.{AreTakenOff, taken_none, taken_more}
use Rattle.alb_reduce.proofs.EchelonLemmas.{cleared_at, dependent, new_pivot, positive, ascending_none, ascending_skip, ascending_more, form_pivots}
use Rattle.alb_block.proofs.Vectors.{cells_of, entry-cells, cells-over, cells-below}

-- w plus c times v
abbrev added : ℕ → ℕ → ℕ → Cells → Cells → Cells
added p n c w v = cells_of p n (λ j. entry w j + c * entry v j)

past-zero : (p n : ℕ) (w : Cells) → ColumnsBelow n w → (j : ℕ) → n ≤ j → entry w j % p ≡ 0
past-zero p n w b j l = ap (λ x. x % p) (entry_past w n j b l) ∙ zero_mod p

entry-added : (p n c : ℕ) (w v : Cells) → ColumnsBelow n w → ColumnsBelow n v → (j : ℕ) → entry (added p n c w v) j ≡ (entry w j + c * entry v j) % p
entry-added p n c w v a b j =
    entry-cells p n (λ i. entry w i + c * entry v i) (λ i l. add_zeros p (entry w i) (c * entry v i) (past-zero p n w a i l) (mul_zero_right p c (entry v i) (past-zero p n v b i l))) j

-- the multiple that makes a number zero
cancels : (p x : ℕ) → 0 < p → (x + (p - 1) * x) % p ≡ 0
cancels p x pos = difference_zero p (p - 1) x x (omega arith) refl

-- the places 0 to k - 1
abbrev first_places : ℕ → List ℕ
first_places zero = []
first_places (suc k) = first_places k ++ k ∷ []

length-first_places : (k : ℕ) → length (first_places k) ≡ k
length-first_places zero = refl
length-first_places (suc k) = let e = length_push (first_places k) k in omega (arith, e, length-first_places k)

place-first_places : (k m : ℕ) → m < k → get_or (first_places k) m 0 ≡ m
place-first_places zero m l = absurd (omega arith)
place-first_places (suc k) m l = elim (cases_eq m k) [
  | inl e ↦ rw e (get_or_push (first_places k) k 0 k (length-first_places k))
  | inr ne ↦
      let lm : m < k = omega arith in
      get_or_append_left (first_places k) (k ∷ []) 0 m (omega (arith, lm, length-first_places k)) ∙ place-first_places k m lm
]

-- the row where the first k kept rows have been taken off
record HasTakenOff (p n : ℕ) (pivots : List ℕ) (rows : List Cells) (k : ℕ) (row : Cells) : Type 0 where
  new : Cells
  over : IsRowOver p new
  taken : AreTakenOff p pivots rows (first_places k) (entry row) (entry new)
  below : ColumnsBelow n new

-- a new pivot row
pub record HasPivot (p : ℕ) (pivots : List ℕ) (rows : List Cells) (row : Cells) : Type 0 where
  pub column : ℕ
  pub rows' : List Cells
  pub new : NewPivot p pivots rows row column rows'

module _ (p : ℕ) (prime : IsInTable p) (n : ℕ) (pivots : List ℕ) (rows : List Cells) (h : AreKeptRows p n pivots rows) where
  pos : 0 < p
  pos = positive h.echelon.above

  take_off : (row : Cells) → IsRowOver p row → ColumnsBelow n row → (k : ℕ) → k ≤ length pivots → HasTakenOff p n pivots rows k row
  take_off row over below zero l = record { new = row; over = over; taken = taken_none p pivots rows (entry row); below = below }
  take_off row over below (suc k) l =
      let w = take_off row over below k (omega arith) in
      let by : Cells = get_or rows k [] in
      let c : ℕ = (p - 1) * entry w.new (get_or pivots k 0) in
      let b : ColumnsBelow n by = row_below p n pivots rows k h (omega (arith, h.echelon.long)) in
      record {
        new = added p n c w.new by;
        over = cells-over p n (λ j. entry w.new j + c * entry by j) pos;
        taken = taken_more p pivots rows (first_places k) k (entry row) (entry w.new) (entry (added p n c w.new by)) h.echelon
            (λ m lm. let lk : m < k = omega (arith, lm, length-first_places k) in subst (λ i. i < length pivots) (sym (place-first_places k m lk)) (omega arith)) (omega arith) w.taken
            (cleared_at p (get_or pivots k 0) c (entry by) (entry w.new) (entry (added p n c w.new by)) (cancels p (entry w.new (get_or pivots k 0)) pos)
            (entry-added p n c w.new by w.below b));
        below = cells-below p n (λ j. entry w.new j + c * entry by j);
      }

  -- all kept rows have been taken off
  cleared-of : (row : Cells) (w : HasTakenOff p n pivots rows (length pivots) row) → IsCleared p pivots rows row w.new
  cleared-of row w = record {
    residues = w.over;
    differs = w.taken.differs;
    zero_at = λ l lt. subst (λ i. entry w.new (get_or pivots i 0) % p ≡ 0) (place-first_places (length pivots) l lt) (w.taken.zero_at l (omega (arith, lt, length-first_places (length pivots))));
  }

  -- the kept rows, cleared at a column
  abbrev cleared_rows : ℕ → Cells → List Cells
  cleared_rows c r = map (λ q. added p n ((p - 1) * entry q c) q r) rows

  are-cleared : (c : ℕ) (r : Cells) → ColumnsBelow n r → AreClearedAt p c r rows (cleared_rows c r) (length rows)
  are-cleared c r b = record {
    long = length-map rows (λ q. added p n ((p - 1) * entry q c) q r);
    residues = λ k d l.
        let m : k < length rows = omega (arith, l, length-map rows (λ q. added p n ((p - 1) * entry q c) q r)) in
        subst (IsRowOver p) (sym (get_or-map (λ q. added p n ((p - 1) * entry q c) q r) rows k [] d m))
        (cells-over p n (λ j. entry (get_or rows k []) j + (p - 1) * entry (get_or rows k []) c * entry r j) pos);
    cleared = λ k l. subst (λ q. IsClearedAt p c (entry r) (rows_of rows k) (entry q)) (sym (get_or-map (λ q. added p n ((p - 1) * entry q c) q r) rows k [] [] l))
        (cleared_at p c ((p - 1) * entry (get_or rows k []) c) (entry r) (entry (get_or rows k [])) (entry (added p n ((p - 1) * entry (get_or rows k []) c) (get_or rows k []) r))
        (cancels p (entry (get_or rows k []) c) pos)
        (entry-added p n ((p - 1) * entry (get_or rows k []) c) (get_or rows k []) r (row_below p n pivots rows k h l) b));
    rest = λ k l. get_or_past (cleared_rows c r) k [] (omega (arith, l, length-map rows (λ q. added p n ((p - 1) * entry q c) q r))) ∙ sym (get_or_past rows k [] l);
  }

  -- a cleared row that is not zero gives a pivot
  pivot-from : (row w : Cells) (c x : ℕ) → IsCleared p pivots rows row w → ColumnsBelow n w → RowLeadsWith w (c, x) → x < p → HasPivot p pivots rows row
  pivot-from row w c x d b lead l =
      let non : x ≢ 0 = lead.nonzero in
      let i = IsUnit-below_prime p x (IsPrime-from_table p prime) (omega arith) l in
      let r : Cells = cells_of p n (λ j. i.0 * entry w j) in
      let e = entry-cells p n (λ j. i.0 * entry w j) (λ j m. mul_zero_right p i.0 (entry w j) (past-zero p n w b j m)) in
      record {
        column = c;
        rows' = cleared_rows c r ++ r ∷ [];
        new = new_pivot p pivots rows row w r c x i.0 (cleared_rows c r) h.echelon d lead (i.1.same ∙ mod-eq_of_lt h.echelon.above) e
            (cells-over p n (λ j. i.0 * entry w j) pos) (are-cleared c r (cells-below p n (λ j. i.0 * entry w j)));
      }

  -- ONE MORE ROW is in the span, or gives a pivot
  pub offered-row : (row : Cells) → IsRowOver p row → ColumnsBelow n row → InSpan p (rows_of rows) (entry row) ⊎ HasPivot p pivots rows row
  offered-row row over below = by_lead w.new (cleared-of row w) w.below
    where
      w : HasTakenOff p n pivots rows (length pivots) row
      w = take_off row over below (length pivots) (omega arith)

      by_lead : (new : Cells) → IsCleared p pivots rows row new → ColumnsBelow n new → InSpan p (rows_of rows) (entry row) ⊎ HasPivot p pivots rows row
      by_lead [] d b = inl (dependent p pivots rows row d)
      by_lead (x ∷ xs) d b = inr (pivot-from row (x ∷ xs) x.0 x.1 d b (leads_first (x ∷ xs) (Some x) d.residues.row refl) (d.residues.residues 0 x (omega arith)))

-- no rows are kept
pub kept-none : (p n : ℕ) → 1 < p → AreKeptRows p n [] []
kept-none p n above = record {
  echelon = record {
    above = above;
    long = refl;
    residues = λ k d l. absurd (omega arith);
    diagonal = record { one = λ k l. absurd (omega arith); others = λ k l a b ne. absurd (omega arith); before = λ k j l m. absurd (omega arith); past = λ k j l. zero_mod p };
  };
  narrow = λ k j l. zero_mod p;
}

-- whether a number stands in a list
pub contains-or : (xs : List ℕ) (c : ℕ) → Contains xs c ⊎ (Contains xs c → ⊥)
contains-or [] c = inr (λ h. absurd (omega (arith, h.1)))
contains-or (x ∷ xs) c = elim (cases_eq x c) [
  | inl e ↦ inl (0, omega arith, e)
  | inr ne ↦ elim (contains-or xs c) [
    | inl h ↦ inl (suc h.0, omega (arith, h.1), h.2)
    | inr out ↦ inr (λ h. none h.0 h.1 h.2 ne out)
  ]
]
  where
    none : (k : ℕ) → k < length (x ∷ xs) → get_or (x ∷ xs) k c ≡ c → (x ≡ c → ⊥) → (Contains xs c → ⊥) → ⊥
    none zero l e ne out = ne e
    none (suc k) l e ne out = out (k, omega arith, e)

-- the pivots in order
ascending-below : (order : List ℕ) (n : ℕ) → (ps : List ℕ) × IsAscendingBelow order n ps
ascending-below order zero = ([], ascending_none order)
ascending-below order (suc n) =
    let r = ascending-below order n in
    let z : n + 1 ≡ suc n = omega arith in
    elim (contains-or order n) [
      | inl has ↦ (r.0 ++ n ∷ [], subst (λ m. IsAscendingBelow order m (r.0 ++ n ∷ [])) z (ascending_more order n r.0 r.1 has))
      | inr none ↦ (r.0, subst (λ m. IsAscendingBelow order m r.0) z (ascending_skip order n r.0 r.1 none))
    ]

pub kept-pivots : (p n : ℕ) (order : List ℕ) (rows : List Cells) → AreKeptRows p n order rows → (ps : List ℕ) × ArePivots p (rows_of rows) ps
kept-pivots p n order rows h = let a = ascending-below order n in (a.0, form_pivots p n order rows a.0 h a.1)
