-- Steps on the kept rows.
use Rattle.std.proofs.Common.{◌≡◌, ◌≢◌, ℕ, zero, suc, ◌+◌, ◌*◌, ◌-◌, ◌%◌, ◌<◌, ◌≤◌, inl, inr, List, [], ◌∷◌, ◌++◌, refl, arith, subst, sym, ap, ◌∙◌, length, get_or, set}
use Rattle.std.proofs.lemmas.Bool.{cases_eq, cases_lt, cases_order}
use Rattle.std.proofs.Math.Nat.{mod-mod, mod-eq_of_lt}
use Rattle.std.proofs.lemmas.List.{length_push, get_or_push, get_or_append_left, get_or_past, length-set, get_or-set_same, get_or-set_other, get_or_read, get_or_default}
use Rattle.std.specs.Prelude.{◌↔◌}
use Rattle.std.specs.List.{All, Contains}
use Rattle.std.proofs.lemmas.List.Elements.{All-push}
use Rattle.alb_rows.proofs.RowLemmas.{entry_residue, entry_past}
use Rattle.alb_rows.specs.Row.{Cells, ColumnsBelow, entry, IsRowOver, RowLeadsWith}
use Rattle.gf_field.specs.Modular.{IsSameMod}
use Rattle.gf_sums.specs.Sums.{Comb}
use Rattle.alb_rows.specs.Span.{combination, Same, InSpan, SameSpan, IsPivot, IsReducedRow, ArePivots, DiffersBySpan, rows_of}
use Rattle.alb_rows.proofs.SpanLemmas.{pivot_through, mod_add, mod_mul, span_zero, span_one, span_same, span_add, span_times, span_through}
use Rattle.alb_reduce.proofs.DiagonalLemmas.{zero_mod, add_zeros, add_zero_left, add_zero_right, mul_zero_left, mul_zero_right, mul_one_left, mul_one_right, diagonal_zero, diagonal_all, diagonal_each, diagonal_row}
use Rattle.alb_reduce.specs.Reduction.{Reduction, AddsPivot}
use Rattle.alb_reduce.specs.Echelon.{IsDiagonal, IsEchelon, IsCleared, IsClearedAt, AreClearedAt, NewPivot, IsAscendingBelow, IsNarrow, AreKeptRows}

-- v is itself plus zero
pub differs_none : {K : Type 0} (p : ℕ) (f : K → ℕ → ℕ) (v : ℕ → ℕ) → DiffersBySpan p f v v
differs_none p f v = record { difference = λ _. 0; in_span = span_zero p f; sum = λ j. ap (λ x. x % p) (omega arith) }

-- w + c r takes the place of w, where c + x is 0: then x r goes to the difference
pub differs_more : {K : Type 0} (p : ℕ) (f : K → ℕ → ℕ) (v w w' : ℕ → ℕ) (k : K) (c x : ℕ) → DiffersBySpan p f v w
    → (x + c) % p ≡ 0 → ((j : ℕ) → w' j % p ≡ (w j + c * f k j) % p) → DiffersBySpan p f v w'
differs_more p f v w w' k c x d z e =
    record {
      difference = λ j. x * f k j + d.difference j;
      in_span = span_add p f (λ j. x * f k j) d.difference (span_times p f x (f k) (span_one p f k)) d.in_span;
      sum = λ j. d.sum j ∙ sym (moved (w' j) (w j) (f k j) (d.difference j) (e j));
    }
  where
    moved : (a b r y : ℕ) → a % p ≡ (b + c * r) % p → (a + (x * r + y)) % p ≡ (b + y) % p
    moved a b r y h =
        mod_add p a (b + c * r) (x * r + y) (x * r + y) h refl
        ∙ ap (λ n. n % p) (regroup b r y)
        ∙ add_zero_left p ((x + c) * r) (b + y) (mul_zero_left p (x + c) r z)
      where
        regroup : (b r y : ℕ) → b + c * r + (x * r + y) ≡ (x + c) * r + (b + y)
        regroup b r y = omega arith

-- nothing is added where the entry is 0
pub cleared_at_zero : (p column : ℕ) (by v : ℕ → ℕ) → v column ≡ 0 → IsClearedAt p column by v v
cleared_at_zero p column by v z =
    record { factor = 0; cancels = rw z (zero_mod p); entries = λ j. ap (λ x. x % p) (omega arith) }

pub cleared_at : (p column c : ℕ) (by v w : ℕ → ℕ) → (v column + c) % p ≡ 0 → ((j : ℕ) → w j ≡ (v j + c * by j) % p) → IsClearedAt p column by v w
cleared_at p column c by v w z e = record { factor = c; cancels = z; entries = λ j. ap (λ x. x % p) (e j) ∙ mod-mod _ p }

-- what a negative is to its number
pub negative_cancels : (p x c e : ℕ) → x ≡ e → IsSameMod p (c + x) 0 → (e + c) % p ≡ 0
negative_cancels p x c e q h = ap (λ n. n % p) (regroup c x e q) ∙ h.same ∙ zero_mod p
  where
    regroup : (c x e : ℕ) → x ≡ e → e + c ≡ c + x
    regroup c x e q = omega arith

-- ---- a new pivot row

-- n diagonal rows, cleared at the column c of a new row r: with r they are diagonal
pub diagonal_push : (p n c : ℕ) (pivot pivot' : ℕ → ℕ) (row row' : ℕ → ℕ → ℕ) (r : ℕ → ℕ) → IsDiagonal p n pivot row
    → ((k : ℕ) → k < n → pivot' k ≡ pivot k) → pivot' n ≡ c
    → ((k : ℕ) → k < n → IsClearedAt p c r (row k) (row' k)) → ((j : ℕ) → row' n j ≡ r j) → ((k j : ℕ) → n < k → row' k j % p ≡ 0)
    → r c % p ≡ 1 % p → ((k : ℕ) → k < n → r (pivot k) % p ≡ 0) → ((j : ℕ) → j < c → r j % p ≡ 0)
    → IsDiagonal p (n + 1) pivot' row'
diagonal_push p n c pivot pivot' row row' r d same last cleared new past one zero_at before =
    record {
      one = λ k l. elim (cases_eq k n) [
        | inl e ↦ rw (e, last, new c) one
        | inr ne ↦ let a = cleared k (omega arith) in
            rw (same k (omega arith)) (a.entries (pivot k) ∙ add_zero_right p _ _ (mul_zero_right p a.factor _ (zero_at k (omega arith))) ∙ d.one k (omega arith))
      ];
      others = λ k l hk hl ne. elim (cases_eq k n) [
        | inl e ↦ rw (e, same l (omega arith), new (pivot l)) (zero_at l (omega arith))
        | inr nk ↦ let a = cleared k (omega arith) in elim (cases_eq l n) [
          | inl e ↦ rw (e, last) (a.entries c ∙ mod_add p _ _ (a.factor * r c) a.factor refl (mul_one_right p a.factor _ one) ∙ a.cancels)
          | inr nl ↦ rw (same l (omega arith))
              (a.entries (pivot l) ∙ add_zeros p _ _ (d.others k l (omega arith) (omega arith) ne) (mul_zero_right p a.factor _ (zero_at l (omega arith))))
        ]
      ];
      before = λ k j hk hj. elim (cases_eq k n) [
        | inl e ↦ rw (e, new j) (before j (subst (λ (x : ℕ). j < x) (ap pivot' e ∙ last) hj))
        | inr ne ↦ let a = cleared k (omega arith) in
            let hj' : j < pivot k = subst (λ (x : ℕ). j < x) (same k (omega arith)) hj in
            a.entries j ∙ add_zeros p _ _ (d.before k j (omega arith) hj') (small k j (omega arith) hj' a)
      ];
      past = λ k j h. past k j (omega arith);
    }
  where
    small : (k j : ℕ) → k < n → j < pivot k → (a : IsClearedAt p c r (row k) (row' k)) → (a.factor * r j) % p ≡ 0
    small k j hk hj a =
        elim (cases_lt j c) [
          | inl l ↦ mul_zero_right p a.factor _ (before j l)
          | inr g ↦ mul_zero_left p a.factor _ (sym (add_zero_left p (row k c) a.factor (d.before k c hk (omega arith))) ∙ a.cancels)
        ]

-- where v is w + d, w is in each span that has v and d
pub span_part : {K : Type 0} (p : ℕ) (f : K → ℕ → ℕ) (v w d : ℕ → ℕ) → 0 < p → InSpan p f v → InSpan p f d
    → ((j : ℕ) → v j % p ≡ (w j + d j) % p) → InSpan p f w
span_part p f v w d pos sv sd e =
    let m : ℕ = p - 1 in
    span_same p f (λ j. v j + m * d j) w (λ j. back m (v j) (w j) (d j) (omega arith) (e j))
    (span_add p f v (λ j. m * d j) sv (span_times p f m d sd))
  where
    back : (m a b c : ℕ) → m + 1 ≡ p → a % p ≡ (b + c) % p → (a + m * c) % p ≡ b % p
    back m a b c h q =
        mod_add p a (b + c) (m * c) (m * c) q refl ∙ ap (λ x. x % p) (regroup m b c)
        ∙ add_zero_right p b ((m + 1) * c) (mul_zero_left p (m + 1) c (rw h (self_mod p)))
      where
        regroup : (m b c : ℕ) → b + c + m * c ≡ b + (m + 1) * c
        regroup m b c = omega arith

        self_mod : (q : ℕ) → q % q ≡ 0
        self_mod q = grind arith

-- the span grows by the offered row
pub span_grown : (p n i x c : ℕ) (row row' g : ℕ → ℕ → ℕ) (orig w r : ℕ → ℕ) → 0 < p
    → DiffersBySpan p row orig w → ((j : ℕ) → r j % p ≡ (i * w j) % p) → (x * i) % p ≡ 1 % p
    → Same p orig (g 0) → ((k : ℕ) → Same p (row k) (g (suc k)))
    → ((k : ℕ) → k < n → IsClearedAt p c r (row k) (row' k)) → Same p r (row' n) → ((k j : ℕ) → n < k → row' k j % p ≡ 0) → ((k j : ℕ) → n ≤ k → row k j % p ≡ 0)
    → SameSpan p row' g
span_grown p n i x c row row' g orig w r pos d scaled inverse first later cleared new past' past =
    record {
      into = λ k. elim (cases_order k n) [
        | inl e ↦ rw e (span_same p g r (row' n) new r_in_g)
        | inr (inl l) ↦ let a = cleared k l in
            span_same p g (λ j. row k j + a.factor * r j) (row' k) (λ j. sym (a.entries j))
            (span_add p g (row k) (λ j. a.factor * r j) (row_in_g k) (span_times p g a.factor r r_in_g))
        | inr (inr h) ↦ span_same p g (λ _. 0) (row' k) (λ j. zero_mod p ∙ sym (past' k j h)) (span_zero p g)
      ];
      back = from_g;
    }
  where
    row_in_g : (k : ℕ) → InSpan p g (row k)
    row_in_g k = span_same p g (g (suc k)) (row k) (λ j. sym (later k j)) (span_one p g (suc k))

    w_in_g : InSpan p g w
    w_in_g =
        span_part p g orig w d.difference pos (span_same p g (g 0) orig (λ j. sym (first j)) (span_one p g 0))
        (span_through p row g d.difference row_in_g d.in_span) d.sum

    r_in_g : InSpan p g r
    r_in_g = span_same p g (λ j. i * w j) r (λ j. sym (scaled j)) (span_times p g i w w_in_g)

    r_in : InSpan p row' r
    r_in = span_same p row' (row' n) r (λ j. sym (new j)) (span_one p row' n)

    row_in : (k : ℕ) → InSpan p row' (row k)
    row_in k =
        elim (cases_lt k n) [
          | inl l ↦ let a = cleared k l in
              span_part p row' (row' k) (row k) (λ j. a.factor * r j) pos (span_one p row' k) (span_times p row' a.factor r r_in) a.entries
          | inr h ↦ span_same p row' (λ _. 0) (row k) (λ j. zero_mod p ∙ sym (past k j h)) (span_zero p row')
        ]

    w_in : InSpan p row' w
    w_in = span_same p row' (λ j. x * r j) w (λ j. unscaled (r j) (w j) (scaled j)) (span_times p row' x r r_in)
      where
        unscaled : (a b : ℕ) → a % p ≡ (i * b) % p → (x * a) % p ≡ b % p
        unscaled a b h = mod_mul p x x a (i * b) refl h ∙ ap (λ n. n % p) (regroup a b) ∙ mul_one_left p (x * i) b inverse
          where
            regroup : (a b : ℕ) → x * (i * b) ≡ x * i * b
            regroup a b = omega arith

    orig_in : InSpan p row' orig
    orig_in =
        span_same p row' (λ j. w j + d.difference j) orig (λ j. sym (d.sum j))
        (span_add p row' w d.difference w_in (span_through p row row' d.difference row_in d.in_span))

    from_g : (k : ℕ) → InSpan p row' (g k)
    from_g zero = span_same p row' orig (g 0) first orig_in
    from_g (suc k) = span_same p row' (row k) (g (suc k)) (later k) (row_in k)

-- ---- the clauses of offer and reduce

-- an element of the span that has been cleared is zero
pub cleared_zero : (p : ℕ) (pivots : List ℕ) (rows : List Cells) (row w : Cells) → 0 < p → IsEchelon p pivots rows → IsCleared p pivots rows row w
    → InSpan p (rows_of rows) (entry row) → (j : ℕ) → entry w j % p ≡ 0
cleared_zero p pivots rows row w pos h d s =
    diagonal_zero p (length pivots) (λ k. get_or pivots k 0) (rows_of rows) (entry w) h.diagonal
    (span_part p (rows_of rows) (entry row) (entry w) d.differs.difference pos s d.differs.in_span d.differs.sum) d.zero_at

-- a cleared row that is zero was in the span
pub dependent : (p : ℕ) (pivots : List ℕ) (rows : List Cells) (row : Cells) → IsCleared p pivots rows row [] → InSpan p (rows_of rows) (entry row)
dependent p pivots rows row d =
    span_same p (rows_of rows) d.differs.difference (entry row) (λ j. sym (d.differs.sum j ∙ ap (λ x. x % p) (omega arith))) d.differs.in_span

-- a cleared row is 0 at each pivot of the span
pub cleared_at_pivots : (p : ℕ) (pivots : List ℕ) (rows : List Cells) (row w : Cells) (c : ℕ) → 0 < p → IsEchelon p pivots rows → IsCleared p pivots rows row w
    → IsPivot p (rows_of rows) c → entry w c ≡ 0
cleared_at_pivots p pivots rows row w c pos h d is =
    let k = diagonal_all p (length pivots) (λ k. get_or pivots k 0) (rows_of rows) c h.diagonal is in
    let zero : entry w c % p ≡ 0 = subst (λ (e : ℕ). entry w e % p ≡ 0) k.2 (d.zero_at k.0 k.1) in
    sym (mod-eq_of_lt (entry_residue p w c pos d.residues.row d.residues.residues)) ∙ zero

pub new_pivot : (p : ℕ) (pivots : List ℕ) (rows : List Cells) (row w r : Cells) (c x i : ℕ) (cleared : List Cells) → IsEchelon p pivots rows
    → IsCleared p pivots rows row w → RowLeadsWith w (c, x) → (x * i) % p ≡ 1 → ((j : ℕ) → entry r j ≡ (i * entry w j) % p) → IsRowOver p r
    → AreClearedAt p c r rows cleared (length rows) → NewPivot p pivots rows row c (cleared ++ r ∷ [])
new_pivot p pivots rows row w r c x i cleared h d lead inverse scaled residues a =
    record {
      echelon = record {
        above = above;
        long = length_push cleared r ∙ ap (λ m. m + 1) (a.long ∙ h.long) ∙ sym (length_push pivots c);
        residues = All-push (IsRowOver p) cleared r a.residues residues;
        diagonal = rw (length_push pivots c) diagonal;
      };
      span =
          span_grown p (length pivots) i x c (rows_of rows) (rows_of (cleared ++ r ∷ [])) (rows_of (row ∷ rows)) (entry row) (entry w) (entry r) (omega arith)
          d.differs (λ j. ap (λ m. m % p) (scaled j) ∙ mod-mod (i * entry w j) p) (inverse ∙ sym (mod-eq_of_lt above)) (λ j. refl) (λ k j. refl)
          old (λ j. ap (λ m. m % p) (sym (new j))) past h.diagonal.past;
      now =
          subst (λ (e : ℕ). IsPivot p (rows_of (cleared ++ r ∷ [])) e) last
          (diagonal_each p (length pivots + 1) pivot' (rows_of (cleared ++ r ∷ [])) (length pivots) above diagonal (omega arith));
      before = λ is.
          let k = diagonal_all p (length pivots) (λ m. get_or pivots m 0) (rows_of rows) c h.diagonal is in
          let zero : x % p ≡ 0 = ap (λ m. m % p) (sym lead.entry_is) ∙ subst (λ (e : ℕ). entry w e % p ≡ 0) k.2 (d.zero_at k.0 k.1) in
          one_is_zero (sym inverse ∙ mul_zero_left p x i zero);
      outside = λ s.
          let zero : x % p ≡ 0 = ap (λ m. m % p) (sym lead.entry_is) ∙ cleared_zero p pivots rows row w (omega (arith, above)) h d s c in
          one_is_zero (sym inverse ∙ mul_zero_left p x i zero);
    }
  where
    above : 1 < p
    above = h.above

    one_is_zero : ◌≡◌ {A = ℕ} 1 0 → ⊥
    one_is_zero e = omega arith

    pivot' : ℕ → ℕ
    pivot' k = get_or (pivots ++ c ∷ []) k 0

    last : get_or (pivots ++ c ∷ []) (length pivots) 0 ≡ c
    last = get_or_push pivots c 0 (length pivots) refl

    old : (k : ℕ) → k < length pivots → IsClearedAt p c (entry r) (rows_of rows k) (rows_of (cleared ++ r ∷ []) k)
    old k l =
        let lc : k < length cleared = omega (arith, a.long, h.long) in
        rw (get_or_append_left cleared (r ∷ []) [] k lc) (a.cleared k (omega (arith, h.long)))

    new : (j : ℕ) → rows_of (cleared ++ r ∷ []) (length pivots) j ≡ entry r j
    new j = rw (get_or_push cleared r [] (length pivots) (a.long ∙ h.long)) refl

    past : (k j : ℕ) → length pivots < k → rows_of (cleared ++ r ∷ []) k j % p ≡ 0
    past k j l =
        let far : length (cleared ++ r ∷ []) ≤ k = omega (arith, length_push cleared r, a.long, h.long) in
        rw (get_or_past (cleared ++ r ∷ []) k [] far) (zero_mod p)

    one : entry r c ≡ 1
    one = scaled c ∙ ap (λ m. (i * m) % p) lead.entry_is ∙ ap (λ m. m % p) (turned i x) ∙ inverse
      where
        turned : (a b : ℕ) → a * b ≡ b * a
        turned a b = omega arith

    diagonal : IsDiagonal p (length pivots + 1) (λ k. get_or (pivots ++ c ∷ []) k 0) (rows_of (cleared ++ r ∷ []))
    diagonal =
        diagonal_push p (length pivots) c (λ k. get_or pivots k 0) (λ k. get_or (pivots ++ c ∷ []) k 0) (rows_of rows) (rows_of (cleared ++ r ∷ [])) (entry r) h.diagonal
        (λ k l. get_or_append_left pivots (c ∷ []) 0 k l) last old new past (ap (λ m. m % p) one)
        (λ k l. ap (λ m. m % p) (scaled (get_or pivots k 0)) ∙ mod-mod _ p ∙ mul_zero_right p i _ (d.zero_at k l))
        (λ j l. ap (λ m. m % p) (scaled j) ∙ mod-mod _ p ∙ mul_zero_right p i _ (ap (λ m. m % p) (lead.before j l) ∙ zero_mod p))

-- the other pivots are those from before
other_pivots : (p : ℕ) (pivots : List ℕ) (rows : List Cells) (row : Cells) (c : ℕ) (rows' : List Cells) → IsEchelon p pivots rows → NewPivot p pivots rows row c rows'
    → (j : ℕ) → j ≢ c → (IsPivot p (rows_of rows') j ↔ IsPivot p (rows_of rows) j)
other_pivots p pivots rows row c rows' h n j ne = (now, λ is. pivot_through p (rows_of rows) (rows_of rows') j (λ k. n.span.back (suc k)) is)
  where
    pivot' : ℕ → ℕ
    pivot' k = get_or (pivots ++ c ∷ []) k 0

    now : IsPivot p (rows_of rows') j → IsPivot p (rows_of rows) j
    now is =
        let k = diagonal_all p (length (pivots ++ c ∷ [])) pivot' (rows_of rows') j n.echelon.diagonal is in
        elim (cases_eq k.0 (length pivots)) [
          | inl e ↦ absurd (ne (sym k.2 ∙ ap pivot' e ∙ get_or_push pivots c 0 (length pivots) refl))
          | inr nk ↦
              let l : k.0 < length pivots = omega (arith, k.1, length_push pivots c) in
              subst (λ (m : ℕ). IsPivot p (rows_of rows) m) (sym (get_or_append_left pivots (c ∷ []) 0 k.0 l) ∙ k.2)
              (diagonal_each p (length pivots) (λ i. get_or pivots i 0) (rows_of rows) k.0 h.above h.diagonal l)
        ]

-- offering a combination changes no span
pub span_dependent : (p : ℕ) (rows : List Cells) (row : Cells) → InSpan p (rows_of rows) (entry row) → SameSpan p (rows_of rows) (rows_of (row ∷ rows))
span_dependent p rows row s = record { into = λ k. span_one p (rows_of (row ∷ rows)) (suc k); back = back }
  where
    back : (k : ℕ) → InSpan p (rows_of rows) (rows_of (row ∷ rows) k)
    back zero = s
    back (suc k) = span_one p (rows_of rows) k

pub positive : {p : ℕ} → 1 < p → 0 < p
positive h = omega arith

pub lead_below : (p : ℕ) (w : Cells) (c x : ℕ) → 0 < p → IsRowOver p w → RowLeadsWith w (c, x) → x < p
lead_below p w c x pos h lead = subst (λ (n : ℕ). n < p) lead.entry_is (entry_residue p w c pos h.row h.residues)

-- the last clause of offer: the column of the answer
pub adds_pivot : (old new : Reduction) (row : Cells) (c k : ℕ) (pivots : List ℕ) → c ≡ k → IsEchelon old.p pivots old.rows → NewPivot old.p pivots old.rows row c new.rows → AddsPivot old new k
adds_pivot old new row c k pivots e kept h =
    record {
      now = subst (λ (n : ℕ). IsPivot old.p (rows_of new.rows) n) e h.now;
      before = λ is. h.before (subst (λ (n : ℕ). IsPivot old.p (rows_of old.rows) n) (sym e) is);
      others = λ j ne. other_pivots old.p pivots old.rows row c new.rows kept h j (λ q. ne (q ∙ e));
    }

pub over_read : (p : ℕ) (rows : List Cells) (k : ℕ) (x : Cells) → All (IsRowOver p) rows → k < length rows → x ≡ get_or rows k x → IsRowOver p x
over_read p rows k x h l e = subst (λ (y : Cells). IsRowOver p y) (sym e) (h k x l)

pub cleared_column_more : (p column : ℕ) (by : Cells) (old new : List Cells) (k : ℕ) (x r : Cells) → AreClearedAt p column by old new k → k < length new
    → x ≡ get_or new k x → IsRowOver p r → IsClearedAt p column (entry by) (entry x) (entry r) → AreClearedAt p column by old (set new k r) (k + 1)
cleared_column_more p column by old new k x r a lt read over at =
    record {
      long = length-set new k r ∙ a.long;
      residues = λ l d h. elim (cases_eq l k) [
        | inl e ↦ rw (e, get_or-set_same new k r d lt) over
        | inr ne ↦ rw (get_or-set_other new k l r d ne) (a.residues l d (omega (arith, length-set new k r)))
      ];
      cleared = λ l h. elim (cases_eq l k) [
        | inl e ↦ rw (e, get_or-set_same new k r [] lt) (subst (λ (v : Cells). IsClearedAt p column (entry by) (entry v) (entry r)) was at)
        | inr ne ↦ rw (get_or-set_other new k l r [] ne) (a.cleared l (omega arith))
      ];
      rest = λ l h. rw (get_or-set_other new k l r [] (λ e. absurd (omega arith))) (a.rest l (omega arith));
    }
  where
    was : x ≡ get_or old k []
    was = get_or_read new k x lt read [] ∙ a.rest k (omega arith)

-- ---- close

-- the kept rows, at their pivots in ascending order, are the reduced form of their span
pub closed : (p n : ℕ) (order ps : List ℕ) (rows : List Cells) → IsEchelon p order rows → ((i : ℕ) → i < length order → get_or order i 0 < n)
    → IsAscendingBelow order n ps → ArePivots p (rows_of rows) ps
closed p n order ps rows h within a =
    record {
      ascending = a.ascending;
      each = λ k l.
          let m = a.from k l in
          subst (λ (c : ℕ). IsPivot p (rows_of rows) c) (sym (get_or_read order m.0 _ m.1 (sym m.2) 0))
          (diagonal_each p (length order) (λ i. get_or order i 0) (rows_of rows) m.0 h.above h.diagonal m.1);
      all = λ c is.
          let i = diagonal_all p (length order) (λ i. get_or order i 0) (rows_of rows) c h.diagonal is in
          let k = a.all i.0 i.1 (within i.0 i.1) in
          (k.0, k.1, k.2 ∙ i.2);
    }

-- the row at a place of the order is the reduced row of that pivot
pub closed_row : (p : ℕ) (order : List ℕ) (rows : List Cells) (k : ℕ) → IsEchelon p order rows → k < length order → IsReducedRow p (rows_of rows) (get_or order k 0) (rows_of rows k)
closed_row p order rows k h l = diagonal_row p (length order) (λ i. get_or order i 0) (rows_of rows) k h.diagonal l

pub ascending_none : (order : List ℕ) → IsAscendingBelow order 0 []
ascending_none order =
    record { ascending = λ i j l h. absurd (omega arith); below = λ k h. absurd (omega arith); from = λ k h. absurd (omega arith); all = λ i h l. absurd (omega arith) }

pub ascending_skip : (order : List ℕ) (n : ℕ) (ps : List ℕ) → IsAscendingBelow order n ps → (Contains order n → ⊥) → IsAscendingBelow order (n + 1) ps
ascending_skip order n ps a none =
    record {
      ascending = a.ascending;
      below = λ k l. less (a.below k l);
      from = a.from;
      all = λ i h l. a.all i h (not_last i h l);
    }
  where
    less : {x y : ℕ} → x < y → x < y + 1
    less h = omega arith

    not_last : (i : ℕ) → i < length order → get_or order i 0 < n + 1 → get_or order i 0 < n
    not_last i h l = elim (cases_eq (get_or order i 0) n) [
      | inl e ↦ absurd (none (i, h, get_or_default order i n 0 h ∙ e))
      | inr ne ↦ omega arith
    ]

pub ascending_more : (order : List ℕ) (n : ℕ) (ps : List ℕ) → IsAscendingBelow order n ps → Contains order n → IsAscendingBelow order (n + 1) (ps ++ n ∷ [])
ascending_more order n ps a has =
    record {
      ascending = λ i j l h. elim (cases_eq j (length ps)) [
        | inl e ↦ rw (e, last, old i (omega arith)) (a.below i (omega arith))
        | inr ne ↦ let hj : j < length ps = omega (arith, long, h) in
            rw (old i (omega arith), old j hj) (a.ascending i j l hj)
      ];
      below = λ k h. elim (cases_eq k (length ps)) [
        | inl e ↦ rw (e, last) (omega arith)
        | inr ne ↦ let hk : k < length ps = omega (arith, long, h) in rw (old k hk) (less (a.below k hk))
      ];
      from = λ k h. elim (cases_eq k (length ps)) [
        | inl e ↦ rw (e, last) has
        | inr ne ↦ let hk : k < length ps = omega (arith, long, h) in rw (old k hk) (a.from k hk)
      ];
      all = λ i h l. elim (cases_eq (get_or order i 0) n) [
        | inl e ↦ (length ps, omega (arith, long), last ∙ sym e)
        | inr ne ↦ let k = a.all i h (omega arith) in (k.0, omega (arith, long, k.1), old k.0 k.1 ∙ k.2)
      ];
    }
  where
    less : {x y : ℕ} → x < y → x < y + 1
    less h = omega arith

    long : length (ps ++ n ∷ []) ≡ length ps + 1
    long = length_push ps n

    last : get_or (ps ++ n ∷ []) (length ps) 0 ≡ n
    last = get_or_push ps n 0 (length ps) refl

    old : (k : ℕ) → k < length ps → get_or (ps ++ n ∷ []) k 0 ≡ get_or ps k 0
    old k l = get_or_append_left ps (n ∷ []) 0 k l

-- ---- the columns

span_at : {K : Type 0} (p : ℕ) (f : K → ℕ → ℕ) (j : ℕ) (xs : Comb K) → ((k : K) → f k j % p ≡ 0) → combination f xs j % p ≡ 0
span_at p f j [] h = zero_mod p
span_at p f j (x ∷ xs) h = add_zeros p _ _ (mul_zero_right p x.0 _ (h x.1)) (span_at p f j xs h)

-- where each vector of a family is 0, so is each element of its span
pub span_zero_at : {K : Type 0} (p : ℕ) (f : K → ℕ → ℕ) (v : ℕ → ℕ) (j : ℕ) → InSpan p f v → ((k : K) → f k j % p ≡ 0) → v j % p ≡ 0
span_zero_at p f v j s h = sym (s.gives j) ∙ span_at p f j s.items h

pub pivot_below : (p columns : ℕ) (rows : List Cells) (c : ℕ) → IsNarrow p columns rows → IsPivot p (rows_of rows) c → c < columns
pivot_below p columns rows c h is =
    elim (cases_lt c columns) [ inl l ↦ l | inr g ↦ absurd (is.lead.nonzero (span_zero_at p (rows_of rows) is.element c is.in_span (λ k. h k c g))) ]

pub narrow_new : (p columns : ℕ) (rows rows' : List Cells) (row : Cells) → IsNarrow p columns rows → ColumnsBelow columns row
    → SameSpan p (rows_of rows') (rows_of (row ∷ rows)) → IsNarrow p columns rows'
narrow_new p columns rows rows' row h narrow same k j l = span_zero_at p (rows_of (row ∷ rows)) (rows_of rows' k) j (same.into k) each
  where
    each : (m : ℕ) → rows_of (row ∷ rows) m j % p ≡ 0
    each zero = ap (λ n. n % p) (entry_past row columns j narrow l) ∙ zero_mod p
    each (suc m) = h m j l

pub kept_more : (p columns : ℕ) (pivots : List ℕ) (rows : List Cells) (row : Cells) (c : ℕ) (rows' : List Cells) → AreKeptRows p columns pivots rows → ColumnsBelow columns row
    → NewPivot p pivots rows row c rows' → AreKeptRows p columns (pivots ++ c ∷ []) rows'
kept_more p columns pivots rows row c rows' h narrow new =
    record { echelon = new.echelon; narrow = narrow_new p columns rows rows' row h.narrow narrow new.span }

pub form_pivots : (p columns : ℕ) (order : List ℕ) (rows : List Cells) (ps : List ℕ) → AreKeptRows p columns order rows → IsAscendingBelow order columns ps → ArePivots p (rows_of rows) ps
form_pivots p columns order rows ps h a =
    closed p columns order ps rows h.echelon
    (λ i l. pivot_below p columns rows (get_or order i 0) h.narrow
    (diagonal_each p (length order) (λ k. get_or order k 0) (rows_of rows) i h.echelon.above h.echelon.diagonal l)) a

-- a column that is none of the kept pivots is no pivot of the span
pub no_pivot : (p : ℕ) (order : List ℕ) (rows : List Cells) (c : ℕ) → IsEchelon p order rows → ((i : ℕ) → i < length order → get_or order i 0 ≢ c) → IsPivot p (rows_of rows) c → ⊥
no_pivot p order rows c h none is =
    let i = diagonal_all p (length order) (λ k. get_or order k 0) (rows_of rows) c h.diagonal is in none i.0 i.1 i.2

pub found_row : (p : ℕ) (order : List ℕ) (rows : List Cells) (c k : ℕ) (x : Cells) → IsEchelon p order rows → k < length order → get_or order k 0 ≡ c → x ≡ get_or rows k x
    → IsReducedRow p (rows_of rows) c (entry x)
found_row p order rows c k x h l e read =
    let at : x ≡ get_or rows k [] = get_or_read rows k x (omega (arith, h.long)) read [] in
    rw at (subst (λ (n : ℕ). IsReducedRow p (rows_of rows) n (rows_of rows k)) e (closed_row p order rows k h l))
