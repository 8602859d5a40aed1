-- The entries of a row.
use Rattle.std.proofs.Common.{◌≡◌, ◌≢◌, ℕ, zero, suc, ◌+◌, ◌*◌, ◌%◌, ◌<◌, ◌≤◌, inl, inr, List, [], ◌∷◌, ◌++◌, refl, arith, subst, sym, ap, ◌∙◌, length, get_or, take, drop, set, nat_eq}
use Rattle.std.specs.List.{All}
use Rattle.std.proofs.lemmas.List.{take_more, get_or-map, length-map, length-take-le, drop_more, get_or_at, set_at, map_more, append_assoc, take_at, get_or_default}
use Rattle.std.proofs.lemmas.Nat.{mod_below}
use Rattle.std.proofs.lemmas.List.Elements.{All-push}
use Rattle.std.proofs.lemmas.List.Quantifiers.{all_pairs_push}
use Rattle.std.proofs.Math.Nat.{add-mod-mod, mod-mod, mod-eq_of_lt}
use Rattle.std.proofs.Math.Seq.{take-length}
use Rattle.std.proofs.lemmas.Bool.{cases_eq, cases_lt, cases_order, eq-eqb, ne_eqb}
use Rattle.gf_sums.specs.Sums.{Comb, coefficient, scale}
use Rattle.gf_sums.proofs.Totals.{numbers-tell, total-append, weigh-scale, coefficient-weigh}
use Rattle.alb_rows.specs.Row.{Cells, comb, entry, AreSameVector, ColumnsBelow, AreCellResidues, IsRow, IsRowOver, RowLeadsWith}
use Rattle.alb_rows.specs.Merge.{at_column, NextFrom, AddsAt, Merged, times_cells}
use Rattle.std.specs.Prelude.{IfSome, Option, slice_get, slice_index_or}
use Rattle.gf_field.specs.Modular.{IsInTable, IsSameMod}
use Rattle.gf_field.proofs.Mod.{same, ◌⊙◌, of_mod, cancel_times, residues as residues_equal}
use Rattle.gf_field.proofs.Table.{IsPrime-from_table, IsUnit-below_prime}

-- the cell at place i of a stands before those of b from place k on
pub record IsAlone (a : Cells) (i : ℕ) (b : Cells) (k : ℕ) : Type 0 where
  pub within : i < length a
  pub before : NextFrom ((slice_index_or a i (0, 0)).0 + 1) b k

-- the cells at place i of a and at place k of b are of one column
pub record IsShared (a : Cells) (i : ℕ) (b : Cells) (k : ℕ) : Type 0 where
  pub left : i < length a
  pub right : k < length b
  pub same : (slice_index_or a i (0, 0)).0 ≡ (slice_index_or b k (0, 0)).0

pub entry-append : (xs ys : Cells) (j : ℕ) → entry (xs ++ ys) j ≡ entry xs j + entry ys j
entry-append [] ys j = omega arith
entry-append (x ∷ xs) ys j = omega (arith, entry-append xs ys j)

pub entry-push : (xs : Cells) (x : ℕ × ℕ) (j : ℕ) → entry (xs ++ x ∷ []) j ≡ entry xs j + at_column x.0 x.1 j
entry-push xs x j = omega (arith, entry-append xs (x ∷ []) j)

pub at_column-same : (c v : ℕ) → at_column c v c ≡ v
at_column-same c v = rw (eq-eqb c c refl) refl

pub at_column-other : (c v j : ℕ) → c ≢ j → at_column c v j ≡ 0
at_column-other c v j ne = rw (ne_eqb c j ne) refl

-- past its last column a row is 0
pub entry_past : (xs : Cells) (n j : ℕ) → ColumnsBelow n xs → n ≤ j → entry xs j ≡ 0
entry_past [] n j h l = refl
entry_past (x ∷ xs) n j h l =
    let here : x.0 < n = h 0 x (omega arith) in
    omega (arith, at_column-other x.0 x.1 j (omega arith), entry_past xs n j (λ k d m. h (suc k) d (omega arith)) l)

pair_is : (x : ℕ × ℕ) (a b : ℕ) → x.0 ≡ a → x.1 ≡ b → x ≡ (a, b)
pair_is x a b e h = rw (← e, ← h) refl

pub adds_push : (xs : Cells) (column value : ℕ) → AddsAt xs (xs ++ (column, value) ∷ []) column value
adds_push xs column value =
    record {
      entries = entry-push xs (column, value);
      below = λ h. All-push (λ cell. cell.0 < column + 1) xs (column, value) (λ k d l. lt_step (h k d l)) (omega arith);
    }
  where
    lt_step : {a b : ℕ} → a < b → a < b + 1
    lt_step h = omega arith

pub adds_take : (xs : Cells) (i column value : ℕ) → i < length xs → (get_or xs i (0, 0)).0 ≡ column → (get_or xs i (0, 0)).1 ≡ value → AddsAt (take i xs) (take (i + 1) xs) column value
adds_take xs i column value l e h =
    let cell : get_or xs i (0, 0) ≡ (column, value) = pair_is (get_or xs i (0, 0)) column value e h in
    rw (take_more xs i (0, 0) l, cell) (adds_push (take i xs) column value)

-- the joined step: both parts move past the column, and their sum is pushed
pub merged_step : (p : ℕ) (a : Cells) (c : ℕ) (b : Cells) (i k i' k' : ℕ) (out out' : Cells) (column x y value : ℕ)
    → (m : Merged p a c b i k out) → m.top ≤ column
    → AddsAt (take i a) (take i' a) column x → AddsAt (take k b) (take k' b) column y → AddsAt out out' column value
    → value ≡ (x + (c * y) % p) % p
    → IsRow out' → AreCellResidues p out' → NextFrom (column + 1) a i' → NextFrom (column + 1) b k'
    → Merged p a c b i' k' out'
merged_step p a c b i k i' k' out out' column x y value m le ta tb to e row residues na nb =
    record {
      row = row;
      residues = residues;
      top = column + 1;
      out_below = to.below (lift out m.out_below);
      a_below = ta.below (lift (take i a) m.a_below);
      b_below = tb.below (lift (take k b) m.b_below);
      a_next = na;
      b_next = nb;
      entries = λ j. elim (cases_eq column j) [ inl h ↦ rw (← h) here | inr ne ↦ there j ne ];
    }
  where
    lt_le : {r s t : ℕ} → r < s → s ≤ t → r < t
    lt_le h g = omega arith

    lift : (xs : Cells) → ColumnsBelow m.top xs → ColumnsBelow column xs
    lift xs h = λ q d l. lt_le (h q d l) le

    at_top : (xs xs' : Cells) (v : ℕ) → ColumnsBelow m.top xs → AddsAt xs xs' column v → entry xs' column ≡ v
    at_top xs xs' v h adds =
        omega (arith, adds.entries column, at_column-same column v, entry_past xs column column (lift xs h) (omega arith))

    here : entry out' column ≡ (entry (take i' a) column + c * entry (take k' b) column) % p
    here =
        rw (at_top out out' value m.out_below to, at_top (take i a) (take i' a) x m.a_below ta, at_top (take k b) (take k' b) y m.b_below tb)
        (e ∙ add-mod-mod x (c * y) p)

    other : (xs xs' : Cells) (v j : ℕ) → (column ≡ j → ⊥) → AddsAt xs xs' column v → entry xs' j ≡ entry xs j
    other xs xs' v j ne adds = omega (arith, adds.entries j, at_column-other column v j ne)

    there : (j : ℕ) → (column ≡ j → ⊥) → entry out' j ≡ (entry (take i' a) j + c * entry (take k' b) j) % p
    there j ne =
        rw (other out out' value j ne to, other (take i a) (take i' a) x j ne ta, other (take k b) (take k' b) y j ne tb) (m.entries j)

-- nothing is added where there is no cell
adds_nothing : (xs : Cells) (column : ℕ) → AddsAt xs xs column 0
adds_nothing xs column =
    record {
      entries = λ j. omega (arith, at_column-zero j);
      below = λ h k d l. lt_step (h k d l);
    }
  where
    at_column-zero : (j : ℕ) → at_column column 0 j ≡ 0
    at_column-zero j = elim (cases_eq column j) [ inl e ↦ rw (← e) (at_column-same column 0) | inr ne ↦ at_column-other column 0 j ne ]

    lt_step : {a b : ℕ} → a < b → a < b + 1
    lt_step h = omega arith

-- after a cell of a row the columns are greater
next_after : (xs : Cells) (i : ℕ) → IsRow xs → NextFrom ((get_or xs i (0, 0)).0 + 1) xs (i + 1)
next_after xs i h l = omega (arith, h.ascending i (i + 1) (0, 0) (omega arith) l)

residue_mod : (p x c : ℕ) → x < p → x ≡ (x + (c * 0) % p) % p
residue_mod p x c l = sym (ap (λ n. (x + n) % p) (ap (λ n. n % p) (omega arith) ∙ mod-zero p) ∙ ap (λ n. n % p) (omega arith) ∙ mod-eq_of_lt l)
  where
    mod-zero : (q : ℕ) → 0 % q ≡ 0
    mod-zero q = grind arith

-- a cell of the left list alone
pub merged_left : (p : ℕ) (a : Cells) (c : ℕ) (b : Cells) (i k : ℕ) (out out' : Cells) → IsRow a → AreCellResidues p a → Merged p a c b i k out → IsAlone a i b k
    → AddsAt out out' (get_or a i (0, 0)).0 (get_or a i (0, 0)).1 → IsRow out' → AreCellResidues p out' → Merged p a c b (i + 1) k out'
merged_left p a c b i k out out' row residues m alone adds row' residues' =
    merged_step p a c b i k (i + 1) k out out' (get_or a i (0, 0)).0 (get_or a i (0, 0)).1 0 (get_or a i (0, 0)).1 m (m.a_next alone.within)
    (adds_take a i _ _ alone.within refl refl) (adds_nothing (take k b) _) adds (residue_mod p _ c (residues i (0, 0) alone.within)) row' residues'
    (next_after a i row) alone.before

-- a cell of the right list alone
pub merged_right : (p : ℕ) (a : Cells) (c : ℕ) (b : Cells) (i k value : ℕ) (out out' : Cells) → IsRow b → Merged p a c b i k out → IsAlone b k a i
    → value ≡ (c * (get_or b k (0, 0)).1) % p → AddsAt out out' (get_or b k (0, 0)).0 value → IsRow out' → AreCellResidues p out' → Merged p a c b i (k + 1) out'
merged_right p a c b i k value out out' row m alone e adds row' residues' =
    merged_step p a c b i k i (k + 1) out out' (get_or b k (0, 0)).0 0 (get_or b k (0, 0)).1 value m (m.b_next alone.within)
    (adds_nothing (take i a) _) (adds_take b k _ _ alone.within refl refl) adds (e ∙ sym (mod-mod _ p) ∙ ap (λ n. n % p) (omega arith)) row' residues'
    alone.before (next_after b k row)

-- two cells of one column
pub merged_both : (p : ℕ) (a : Cells) (c : ℕ) (b : Cells) (i k y value : ℕ) (out out' : Cells) → IsRow a → IsRow b → Merged p a c b i k out → IsShared a i b k
    → y ≡ (c * (get_or b k (0, 0)).1) % p → value ≡ ((get_or a i (0, 0)).1 + y) % p → AddsAt out out' (get_or b k (0, 0)).0 value → IsRow out' → AreCellResidues p out'
    → Merged p a c b (i + 1) (k + 1) out'
merged_both p a c b i k y value out out' a_row b_row m shared times e adds row' residues' =
    merged_step p a c b i k (i + 1) (k + 1) out out' (get_or b k (0, 0)).0 (get_or a i (0, 0)).1 (get_or b k (0, 0)).1 value m (m.b_next shared.right)
    (adds_take a i _ _ shared.left shared.same refl) (adds_take b k _ _ shared.right refl refl) adds (e ∙ ap (λ n. ((get_or a i (0, 0)).1 + n) % p) times) row' residues'
    (subst (λ n. NextFrom (n + 1) a (i + 1)) shared.same (next_after a i a_row)) (next_after b k b_row)

-- where the left list has only greater columns, or none
pub alone_right : (a b : Cells) (i k : ℕ) → k < length b → NextFrom (get_or b k (0, 0)).0 a i → (i < length a → (get_or a i (0, 0)).0 ≢ (get_or b k (0, 0)).0) → IsAlone b k a i
alone_right a b i k l before ne = record { within = l; before = λ h. (let g = before h in let n = ne h in omega arith) }

-- where the right list has only greater columns, or none
pub alone_left : (a b : Cells) (i k end : ℕ) → i < length a → (get_or a i (0, 0)).0 < end → (k < length b → end ≡ (get_or b k (0, 0)).0) → IsAlone a i b k
alone_left a b i k end l before e = record { within = l; before = λ h. (let g = e h in omega arith) }

row_push : (xs : Cells) (column value : ℕ) → IsRow xs → ColumnsBelow column xs → value ≢ 0 → IsRow (xs ++ (column, value) ∷ [])
row_push xs column value h below ne =
    record {
      ascending = all_pairs_push (λ a b. a.0 < b.0) xs (column, value) h.ascending below;
      nonzero = All-push (λ cell. cell.1 ≢ 0) xs (column, value) h.nonzero ne;
    }

-- a cell of the left list alone, as it is
pub left_push : (p : ℕ) (a : Cells) (c : ℕ) (b : Cells) (i k : ℕ) (out : Cells) → IsRow a → AreCellResidues p a → Merged p a c b i k out → IsAlone a i b k
    → Merged p a c b (i + 1) k (out ++ get_or a i (0, 0) ∷ [])
left_push p a c b i k out row residues m alone =
    let x : ℕ × ℕ = get_or a i (0, 0) in
    let low : m.top ≤ x.0 = m.a_next alone.within in
    merged_left p a c b i k out (out ++ x ∷ []) row residues m alone (adds_push out x.0 x.1)
    (row_push out x.0 x.1 m.row (λ n d l. above (m.out_below n d l) low) (row.nonzero i (0, 0) alone.within))
    (All-push (λ cell. cell.1 < p) out x m.residues (residues i (0, 0) alone.within))
  where
    above : {r s t : ℕ} → r < s → s ≤ t → r < t
    above h g = omega arith

-- the merge of all cells
pub merged_all : (p : ℕ) (a : Cells) (c : ℕ) (b out a' b' : Cells) → a ≡ a' → b ≡ b' → Merged p a c b (length a) (length b) out →
    (j : ℕ) → entry out j ≡ (entry a' j + c * entry b' j) % p
merged_all p a c b out a' b' e h m j =
    rw (← e, ← h) (m.entries j ∙ rw (take-length a, take-length b) refl)

-- what the tail of a row is
pub row_tail : (x : ℕ × ℕ) (xs : Cells) → IsRow (x ∷ xs) → IsRow xs
row_tail x xs h =
    record {
      ascending = λ i j d l m. h.ascending (suc i) (suc j) d (omega arith) (omega arith);
      nonzero = λ k d l. h.nonzero (suc k) d (omega arith);
    }

-- before its first column a row is 0
pub entry_before : (xs : Cells) (j : ℕ) → All (λ cell. j < cell.0) xs → entry xs j ≡ 0
entry_before [] j h = refl
entry_before (x ∷ xs) j h =
    let here : j < x.0 = h 0 x (omega arith) in
    omega (arith, at_column-other x.0 x.1 j (omega arith), entry_before xs j (λ k d m. h (suc k) d (omega arith)))

-- the tail has only later columns
pub tail_later : (x : ℕ × ℕ) (xs : Cells) → IsRow (x ∷ xs) → All (λ cell. x.0 < cell.0) xs
tail_later x xs h = λ k d l. h.ascending 0 (suc k) d (omega arith) (omega arith)

pub leads_first : (xs : Cells) (o : Option (ℕ × ℕ)) → IsRow xs → o ≡ slice_get xs 0 → IfSome o (RowLeadsWith xs)
leads_first [] o h e = rw e tt
leads_first (x ∷ xs) o h e =
    rw e
    (record {
      entry_is = omega (arith, at_column-same x.0 x.1, entry_before xs x.0 (tail_later x xs h));
      nonzero = h.nonzero 0 x (omega arith);
      before = λ j l. omega (arith, at_column-other x.0 x.1 j (omega arith), entry_before xs j (λ k d m. lt_trans l (tail_later x xs h k d m)));
    })
  where
    lt_trans : {a b c : ℕ} → a < b → b < c → a < c
    lt_trans h g = omega arith

pub head_entry : (x : ℕ × ℕ) (xs : Cells) → IsRow (x ∷ xs) → entry (x ∷ xs) x.0 ≡ x.1
head_entry x xs h = omega (arith, at_column-same x.0 x.1, entry_before xs x.0 (tail_later x xs h))

pub entry_found : (xs : Cells) (i column : ℕ) → IsRow xs → i < length xs → (get_or xs i (0, 0)).0 ≡ column → entry xs column ≡ (get_or xs i (0, 0)).1
entry_found [] i column h l e = absurd (omega arith)
entry_found (x ∷ xs) zero column h l e =
    ap (λ n. entry (x ∷ xs) n) (sym e) ∙ head_entry x xs h
entry_found (x ∷ xs) (suc i) column h l e =
    let later : x.0 < (get_or xs i (0, 0)).0 = tail_later x xs h i (0, 0) (omega arith) in
    omega (arith, at_column-other x.0 x.1 column (omega arith), entry_found xs i column (row_tail x xs h) (omega arith) e)

-- before its first column a multiple is 0
times_before : (p c : ℕ) (xs : Cells) (j : ℕ) → All (λ cell. j < cell.0) xs → entry (times_cells p c xs) j ≡ 0
times_before p c [] j h = refl
times_before p c (x ∷ xs) j h =
    let here : j < x.0 = h 0 x (omega arith) in
    omega (arith, at_column-other x.0 ((c * x.1) % p) j (omega arith), times_before p c xs j (λ k d m. h (suc k) d (omega arith)))

times_zero : (p c : ℕ) → 0 ≡ (c * 0) % p
times_zero p c = grind arith

times_here : (p c : ℕ) (x : ℕ × ℕ) (xs : Cells) → IsRow (x ∷ xs) → entry (times_cells p c (x ∷ xs)) x.0 ≡ (c * entry (x ∷ xs) x.0) % p
times_here p c x xs h =
    let left : at_column x.0 ((c * x.1) % p) x.0 + entry (times_cells p c xs) x.0 ≡ (c * x.1) % p =
    omega (arith, at_column-same x.0 ((c * x.1) % p), times_before p c xs x.0 (tail_later x xs h)) in
    let right : at_column x.0 x.1 x.0 + entry xs x.0 ≡ x.1 =
    omega (arith, at_column-same x.0 x.1, entry_before xs x.0 (tail_later x xs h)) in
    left ∙ ap (λ n. (c * n) % p) (sym right)

times_there : (p c : ℕ) (x : ℕ × ℕ) (xs : Cells) (j : ℕ) → (x.0 ≡ j → ⊥) → entry (times_cells p c xs) j ≡ (c * entry xs j) % p
    → entry (times_cells p c (x ∷ xs)) j ≡ (c * entry (x ∷ xs) j) % p
times_there p c x xs j ne rest =
    let left : at_column x.0 ((c * x.1) % p) j + entry (times_cells p c xs) j ≡ entry (times_cells p c xs) j =
    omega (arith, at_column-other x.0 ((c * x.1) % p) j ne) in
    let right : at_column x.0 x.1 j + entry xs j ≡ entry xs j = omega (arith, at_column-other x.0 x.1 j ne) in
    left ∙ rest ∙ ap (λ n. (c * n) % p) (sym right)

pub entry-times : (p c : ℕ) (xs : Cells) (j : ℕ) → IsRow xs → entry (times_cells p c xs) j ≡ (c * entry xs j) % p
entry-times p c [] j h = times_zero p c
entry-times p c (x ∷ xs) j h =
    elim (cases_eq x.0 j) [ inl e ↦ subst (λ n. entry (times_cells p c (x ∷ xs)) n ≡ (c * entry (x ∷ xs) n) % p) e (times_here p c x xs h) | inr ne ↦ times_there p c x xs j ne (entry-times p c xs j (row_tail x xs h)) ]

-- the product of two residues that are not 0 is not 0
product_nonzero : (p x y : ℕ) → IsInTable p → x < p → x ≢ 0 → y < p → y ≢ 0 → (x * y) % p ≢ 0
product_nonzero p x y listed lx nx ly ny z =
    let u = IsUnit-below_prime p x (IsPrime-from_table p listed) (omega arith) lx in
    let h : IsSameMod p (x * y) (x * 0) = record { same = z ∙ grind arith } in
    ny (residues_equal ly (omega arith) (cancel_times x u h))

pub row_times : (p c : ℕ) (xs : Cells) → IsInTable p → c < p → c ≢ 0 → AreCellResidues p xs → IsRow xs → IsRow (times_cells p c xs)
row_times p c xs size l ne residues h =
    let f : ℕ × ℕ → ℕ × ℕ = λ cell. (cell.0, (c * cell.1) % p) in
    record {
      ascending = λ i j d lt m.
          let lj : j < length xs = simp length-map at m in
          let li : i < length xs = omega arith in
          rw (get_or-map f xs i d d li, get_or-map f xs j d d lj) (h.ascending i j d lt lj);
      nonzero = λ k d m.
          let lk : k < length xs = simp length-map at m in
          rw (get_or-map f xs k d d lk) (product_nonzero p c (get_or xs k d).1 size l ne (residues k d lk) (h.nonzero k d lk));
    }

pub residues_times : (p c : ℕ) (xs : Cells) → c < p → AreCellResidues p (times_cells p c xs)
residues_times p c xs l k d m =
    let f : ℕ × ℕ → ℕ × ℕ = λ cell. (cell.0, (c * cell.1) % p) in
    let lk : k < length xs = simp length-map at m in
    rw (get_or-map f xs k d d lk) (mod_below (c * (get_or xs k d).1) p (omega arith))

pub scaled_more : (p c : ℕ) (xs ys : Cells) (i v : ℕ) → i < length xs → ys ≡ times_cells p c (take i xs) ++ drop i xs
    → v ≡ (c * (get_or ys i (0, 0)).1) % p → set ys i ((get_or ys i (0, 0)).0, v) ≡ times_cells p c (take (i + 1) xs) ++ drop (i + 1) xs
scaled_more p c xs ys i v l e h =
    let f : ℕ × ℕ → ℕ × ℕ = λ cell. (cell.0, (c * cell.1) % p) in
    let x : ℕ × ℕ = get_or xs i (0, 0) in
    let long : length (times_cells p c (take i xs)) ≡ i = length-map (take i xs) f ∙ length-take-le i xs (omega arith) in
    let split : ys ≡ times_cells p c (take i xs) ++ x ∷ drop (i + 1) xs = e ∙ ap (λ zs. times_cells p c (take i xs) ++ zs) (drop_more xs i (0, 0) l) in
    let read : get_or ys i (0, 0) ≡ x = rw split (get_or_at (times_cells p c (take i xs)) x (drop (i + 1) xs) (0, 0) i long) in
    let value : v ≡ (c * x.1) % p = h ∙ ap (λ (z : ℕ × ℕ). (c * z.1) % p) read in
    let written : set ys i ((get_or ys i (0, 0)).0, v) ≡ times_cells p c (take i xs) ++ (x.0, (c * x.1) % p) ∷ drop (i + 1) xs =
    rw (read, value, split) (set_at (times_cells p c (take i xs)) x (drop (i + 1) xs) (x.0, (c * x.1) % p) i long) in
    written ∙ rw (map_more f xs i (0, 0) l) (sym (append_assoc (times_cells p c (take i xs)) ((x.0, (c * x.1) % p) ∷ []) (drop (i + 1) xs)))

-- a vector's items after a write through its slice
pub written_back : {X : Type 0} (n : ℕ) (xs ys zs : List X) → ys ≡ zs → length ys ≡ n → take n (ys ++ drop (length ys) xs) ≡ zs
written_back n xs ys zs e l = take_at ys (drop (length ys) xs) n l ∙ e

before_head : (x : ℕ × ℕ) (xs : Cells) (j : ℕ) → IsRow (x ∷ xs) → j < x.0 → entry (x ∷ xs) j ≡ 0
before_head x xs j h l =
    omega (arith, at_column-other x.0 x.1 j (omega arith), entry_before xs j (λ k d m. later l (tail_later x xs h k d m)))
  where
    later : {a b c : ℕ} → a < b → b < c → a < c
    later h g = omega arith

pub row_is_its_entries : (xs ys : Cells) → IsRow xs → IsRow ys → ((j : ℕ) → entry xs j ≡ entry ys j) → xs ≡ ys
row_is_its_entries [] [] h g e = refl
row_is_its_entries [] (y ∷ ys) h g e = absurd (g.nonzero 0 y (omega arith) (sym (head_entry y ys g) ∙ sym (e y.0)))
row_is_its_entries (x ∷ xs) [] h g e = absurd (h.nonzero 0 x (omega arith) (sym (head_entry x xs h) ∙ e x.0))
row_is_its_entries (x ∷ xs) (y ∷ ys) h g e =
    let columns : x.0 ≡ y.0 = elim (cases_order x.0 y.0) [
      | inl same ↦ same
      | inr (inl l) ↦ absurd (h.nonzero 0 x (omega arith) (sym (head_entry x xs h) ∙ e x.0 ∙ before_head y ys x.0 g l))
      | inr (inr l) ↦ absurd (g.nonzero 0 y (omega arith) (sym (head_entry y ys g) ∙ sym (e y.0) ∙ before_head x xs y.0 h l))
    ] in
    let values : x.1 ≡ y.1 = sym (head_entry x xs h) ∙ e x.0 ∙ ap (λ n. entry (y ∷ ys) n) columns ∙ head_entry y ys g in
    let heads : at_column x.0 x.1 ≡ at_column y.0 y.1 = rw (columns, values) refl in
    let tails : xs ≡ ys =
    row_is_its_entries xs ys (row_tail x xs h) (row_tail y ys g) (λ j. cancel _ _ _ _ (ap (λ (f : ℕ → ℕ). f j) heads) (e j)) in
    rw (pair_is x y.0 y.1 columns values, tails) refl
  where
    cancel : (a b c d : ℕ) → a ≡ b → a + c ≡ b + d → c ≡ d
    cancel a b c d p q = omega arith

-- an entry of a row of residues is a residue
pub entry_residue : (p : ℕ) (xs : Cells) (j : ℕ) → 0 < p → IsRow xs → AreCellResidues p xs → entry xs j < p
entry_residue p [] j pos h r = pos
entry_residue p (x ∷ xs) j pos h r =
    elim (cases_eq x.0 j) [
      | inl e ↦ subst (λ n. n < p) (sym (ap (λ n. entry (x ∷ xs) n) (sym e) ∙ head_entry x xs h)) (r 0 x (omega arith))
      | inr ne ↦ let rest : entry xs j < p = entry_residue p xs j pos (row_tail x xs h) (λ k d l. r (suc k) d (omega arith)) in
          omega (arith, at_column-other x.0 x.1 j ne)
    ]

-- ---- rows as vectors

coefficient-scale : (c : ℕ) (f : Comb ℕ) (j : ℕ) → coefficient nat_eq (scale c f) j ≡ c * coefficient nat_eq f j
coefficient-scale c f j = coefficient-weigh nat_eq numbers-tell (scale c f) j ∙ weigh-scale _ c f ∙ ap (λ n. c * n) (sym (coefficient-weigh nat_eq numbers-tell f j))

pub sum_vector : (p c : ℕ) (xs ys out : Cells) → ((j : ℕ) → entry out j ≡ (entry xs j + c * entry ys j) % p) →
    AreSameVector p (comb out) (comb xs ++ scale c (comb ys))
sum_vector p c xs ys out e j =
    same (e j) ⊙ of_mod _
    ⊙ same (sym (total-append _ (comb xs) (scale c (comb ys)) ∙ ap (λ n. entry xs j + n) (coefficient-scale c (comb ys) j)))

pub scaled_vector : (p c : ℕ) (xs out : Cells) → ((j : ℕ) → entry out j ≡ (c * entry xs j) % p) → AreSameVector p (comb out) (scale c (comb xs))
scaled_vector p c xs out e j = same (e j) ⊙ of_mod _ ⊙ same (sym (coefficient-scale c (comb xs) j))

-- a row that is 0 from the column n on has its cells below it
pub below_from_entries : (n : ℕ) (xs : Cells) → IsRow xs → ((j : ℕ) → n ≤ j → entry xs j ≡ 0) → ColumnsBelow n xs
below_from_entries n xs h z k d l =
    rw (get_or_default xs k d (0, 0) l)
    (elim (cases_lt (get_or xs k (0, 0)).0 n) [
      | inl lt ↦ lt
      | inr le ↦ absurd (h.nonzero k (0, 0) l (sym (entry_found xs k (get_or xs k (0, 0)).0 h l refl) ∙ z (get_or xs k (0, 0)).0 le))
    ])

pub sum_below : (p c : ℕ) (xs ys out : Cells) → IsRow out → ((j : ℕ) → entry out j ≡ (entry xs j + c * entry ys j) % p) →
    (n : ℕ) → ColumnsBelow n xs → ColumnsBelow n ys → ColumnsBelow n out
sum_below p c xs ys out h e n a b =
    below_from_entries n out h (λ j le. e j ∙ rw (entry_past xs n j a le, entry_past ys n j b le) (grind arith))

pub scaled_below : (p c : ℕ) (xs out : Cells) → IsRow out → ((j : ℕ) → entry out j ≡ (c * entry xs j) % p) → (n : ℕ) → ColumnsBelow n xs → ColumnsBelow n out
scaled_below p c xs out h e n a = below_from_entries n out h (λ j le. e j ∙ rw (entry_past xs n j a le) (grind arith))

no_residues : (xs : Cells) → AreCellResidues 0 xs → xs ≡ []
no_residues [] h = refl
no_residues (x ∷ xs) h = let l : x.1 < 0 = h 0 x (omega arith) in absurd (omega arith)

pub row_is_its_vector : (p : ℕ) (xs ys : Cells) → IsRowOver p xs → IsRowOver p ys → AreSameVector p (comb xs) (comb ys) → xs ≡ ys
row_is_its_vector zero xs ys h g e = no_residues xs h.residues ∙ sym (no_residues ys g.residues)
row_is_its_vector (suc p) xs ys h g e =
    row_is_its_entries xs ys h.row g.row
    (λ j. residues_equal (entry_residue (suc p) xs j (omega arith) h.row h.residues) (entry_residue (suc p) ys j (omega arith) g.row g.residues) (e j))

pub zero_is_empty : (p : ℕ) (xs : Cells) → IsRow xs → AreCellResidues p xs → AreSameVector p (comb xs) [] → xs ≡ []
zero_is_empty p xs h r e = row_is_its_vector p xs [] (record { row = h; residues = r }) (record { row = record { ascending = λ i j d l m. absurd (omega arith); nonzero = λ k d l. absurd (omega arith) }; residues = λ k d l. absurd (omega arith) }) e

pub empty_is_zero : (p : ℕ) (xs : Cells) → xs ≡ [] → AreSameVector p (comb xs) []
empty_is_zero p xs e j = same (ap (λ (ys : Cells). entry ys j) e)
