-- The entry of a pivot as a combination of column numbers.
use Rattle.std.proofs.Common.{◌≡◌, ℕ, zero, suc, ◌+◌, ◌-◌, ◌<◌, ◌≤◌, true, false, List, [], ◌∷◌, length, get_or, reverse, drop, sym, refl, ap, ◌∙◌, arith, inl, inr, ◌⊎◌}
use Rattle.std.specs.Prelude.{◌≢◌, nat_eq, if◌then◌else◌}
use Rattle.std.proofs.lemmas.Bool.{cases_Bool, cases_eq}
use Rattle.alb_mono.specs.Tree.{Tree}
use Rattle.alb_table.specs.Columns.{IsEntryRow}
use Rattle.std.proofs.lemmas.Bool.Decides.{nat_tests}
use Rattle.gf_field.specs.Modular.{IsSameMod}
use Rattle.gf_field.proofs.Mod.{same, ◌⊙◌, plus, residues, back}
use Rattle.gf_sums.specs.Sums.{Comb, coefficient, reindex}
use Rattle.alb_mono.specs.Listing.{Each}
use Rattle.alb_rows.specs.Row.{Cells, comb, entry, IsRow, IsRowOver, ColumnsBelow, RowLeadsWith}
use Rattle.alb_rows.proofs.RowLemmas.{head_entry, entry_before, entry-append, tail_later, entry_found, row_tail}
use Rattle.alb_block.proofs.ListLemmas.{reverse-cons, each-reverse}
use Rattle.alb_build.specs.Part.{AreNegated, IsPivotEntry}
use Rattle.alb_build.proofs.EntryRows.{lead-first, each-indexed}

-- the negated cells over the columns
abbrev pub negated_comb : Cells → Cells → Comb ℕ
negated_comb [] es = []
negated_comb (c ∷ cs) [] = []
negated_comb (c ∷ cs) (e ∷ es) = (e.1, c.0) ∷ negated_comb cs es

-- over the numbers they are the entry
pub negated-reindex : (p : ℕ) (numbers : List ℕ) (cs es : Cells) → AreNegated p numbers cs es →
    reindex (λ c. get_or numbers (length numbers - 1 - c) 0) (negated_comb cs es) ≡ comb es
negated-reindex p numbers [] [] a = refl
negated-reindex p numbers [] (e ∷ es) a = absurd a
negated-reindex p numbers (c ∷ cs) [] a = absurd a
negated-reindex p numbers (c ∷ cs) (e ∷ es) a =
    ap (λ n. (e.1, n) ∷ reindex (λ d. get_or numbers (length numbers - 1 - d) 0) (negated_comb cs es)) (sym a.0.number)
    ∙ ap (λ f. (e.1, e.0) ∷ f) (negated-reindex p numbers cs es a.1)

-- what holds of each column
pub negated-each : (P : ℕ → Type 0) (p : ℕ) (numbers : List ℕ) (cs es : Cells) → AreNegated p numbers cs es → Each (λ c. P c.0) cs → Each (λ s. P s.1) (negated_comb cs es)
negated-each P p numbers [] [] a h = tt
negated-each P p numbers [] (e ∷ es) a h = absurd a
negated-each P p numbers (c ∷ cs) [] a h = absurd a
negated-each P p numbers (c ∷ cs) (e ∷ es) a h = (h.0, negated-each P p numbers cs es a.1 h.1)

-- the sum with the cells is zero
negated-sum : (p : ℕ) (numbers : List ℕ) (cs es : Cells) (i : ℕ) → AreNegated p numbers cs es → IsSameMod p (coefficient (λ k l. nat_eq k l) (negated_comb cs es) i + entry cs i) 0
negated-sum p numbers [] [] i a = same refl
negated-sum p numbers [] (e ∷ es) i a = absurd a
negated-sum p numbers (c ∷ cs) [] i a = absurd a
negated-sum p numbers (c ∷ cs) (e ∷ es) i a =
    let r = negated-sum p numbers cs es i a.1 in
    elim (cases_Bool (nat_eq c.0 i)) [
      | inl t ↦ rw t (same (four e.1 (coefficient (λ k l. nat_eq k l) (negated_comb cs es) i) c.1 (entry cs i)) ⊙ plus a.0.negative r)
      | inr f ↦ rw f (same (two (coefficient (λ k l. nat_eq k l) (negated_comb cs es) i) (entry cs i)) ⊙ r)
    ]
  where
    two : (x y : ℕ) → (0 + x) + (0 + y) ≡ x + y
    two x y = omega arith

    four : (x y u v : ℕ) → (x + y) + (u + v) ≡ (x + u) + (y + v)
    four x y u v = omega arith

-- the entries of a row, from the end
entry-reverse : (xs : Cells) (i : ℕ) → entry (reverse xs) i ≡ entry xs i
entry-reverse [] i = refl
entry-reverse (x ∷ xs) i =
    ap (λ ys. entry ys i) (reverse-cons x xs) ∙ entry-append (reverse xs) (x ∷ []) i ∙ omega (arith, entry-reverse xs i)

-- the first cell of a reduced row
pub lead-is : (column : ℕ) (x : ℕ × ℕ) (xs : Cells) → IsRow (x ∷ xs) → RowLeadsWith (x ∷ xs) (column, 1) → (x.0 ≡ column) × (x.1 ≡ 1)
lead-is column x xs h l = elim (order column x.0 (lead-first column x xs h l)) [
  | inl s ↦ (
      let z : entry (x ∷ xs) column ≡ 0 = entry_before (x ∷ xs) column (all-behind s) in
      let o : entry (x ∷ xs) column ≡ 1 = l.entry_is in
      absurd (omega arith))
  | inr s ↦ (sym s, sym (head_entry x xs h) ∙ ap (entry (x ∷ xs)) (sym s) ∙ l.entry_is)
]
  where
    order : (a b : ℕ) → a ≤ b → (a < b) ⊎ (a ≡ b)
    order a b h = grind arith

    all-behind : column < x.0 → (k : ℕ) (d : ℕ × ℕ) → k < length (x ∷ xs) → column < (get_or (x ∷ xs) k d).0
    all-behind s zero d m = s
    all-behind s (suc k) d m = let y : x.0 < (get_or xs k d).0 = tail_later x xs h k d (omega arith) in omega arith

-- THE ENTRY of a pivot by its reduced row
pub entry-row : (p n column : ℕ) (numbers : List ℕ) (row es : Cells) (cols : List Tree) → 0 < p → length cols ≡ n → RowLeadsWith row (column, 1) → IsRowOver p row → ColumnsBelow n row →
    IsPivotEntry p numbers row es → IsEntryRow p cols column (entry row) (negated_comb (reverse (drop 1 row)) es)
entry-row p n column numbers [] es cols pos len lead over below a = (let z : 0 ≡ 1 = lead.entry_is in absurd (omega arith))
entry-row p n column numbers (x ∷ xs) es cols pos len lead over below a = record {
  places = negated-each (λ c. c < length cols) p numbers (reverse xs) es a
      (each-reverse (λ c. c.0 < length cols) xs (each-indexed (λ c. c.0 < length cols) xs (λ i l. (let b : (get_or xs i (0, 0)).0 < n = below (suc i) (0, 0) (omega arith) in omega arith))));
  sums = λ i l. sum-at i;
  kept = negated-each (λ c. IsSameMod p (coefficient (λ k l. nat_eq k l) (negated_comb (reverse xs) es) c) 0 → ⊥) p numbers (reverse xs) es a
      (each-reverse (λ c. IsSameMod p (coefficient (λ k l. nat_eq k l) (negated_comb (reverse xs) es) c.0) 0 → ⊥) xs
      (each-indexed (λ c. IsSameMod p (coefficient (λ k l. nat_eq k l) (negated_comb (reverse xs) es) c.0) 0 → ⊥) xs kept-at));
}
  where
    first : (x.0 ≡ column) × (x.1 ≡ 1)
    first = lead-is column x xs over.row lead

    coef : ℕ → ℕ
    coef i = coefficient (λ k l. nat_eq k l) (negated_comb (reverse xs) es) i

    rest-sum : (i : ℕ) → IsSameMod p (coef i + entry xs i) 0
    rest-sum i = same (ap (λ y. coef i + y) (sym (entry-reverse xs i))) ⊙ negated-sum p numbers (reverse xs) es i a

    swap : (u v w : ℕ) → u + (v + w) ≡ v + (u + w)
    swap u v w = omega arith

    zero-right : (v : ℕ) → v + 0 ≡ v
    zero-right v = omega arith

    head-is : (i : ℕ) → (if nat_eq x.0 i then x.1 else 0) ≡ (if nat_eq i column then 1 else 0)
    head-is i = elim (cases_eq i column) [
      | inl e ↦ (
          let t : nat_eq x.0 i ≡ true = (let z : x.0 ≡ i = first.0 ∙ sym e in grind (arith, nat_tests)) in
          let u : nat_eq i column ≡ true = grind (arith, nat_tests) in
          rw (t, u) first.1)
      | inr e ↦ (
          let t : nat_eq x.0 i ≡ false = (let z : x.0 ≡ column = first.0 in grind (arith, nat_tests)) in
          let u : nat_eq i column ≡ false = grind (arith, nat_tests) in
          rw (t, u) refl)
    ]

    sum-at : (i : ℕ) → IsSameMod p (coef i + entry (x ∷ xs) i) (if nat_eq i column then 1 else 0)
    sum-at i = same (swap (coef i) (if nat_eq x.0 i then x.1 else 0) (entry xs i))
        ⊙ plus (same {a = if nat_eq x.0 i then x.1 else 0} refl) (rest-sum i)
        ⊙ same (zero-right (if nat_eq x.0 i then x.1 else 0) ∙ head-is i)

    kept-at : (i : ℕ) → i < length xs → IsSameMod p (coef (get_or xs i (0, 0)).0) 0 → ⊥
    kept-at i l z =
        let c : ℕ × ℕ = get_or xs i (0, 0) in
        let r : IsRow xs = row_tail x xs over.row in
        let v : entry xs c.0 ≡ c.1 = entry_found xs i c.0 r l refl in
        let s : IsSameMod p (0 + entry xs c.0) 0 = plus (back z) (same {a = entry xs c.0} refl) ⊙ rest-sum c.0 in
        let low : c.1 < p = over.residues (suc i) (0, 0) (omega arith) in
        let non : c.1 ≢ 0 = over.row.nonzero (suc i) (0, 0) (omega arith) in
        let w : 0 + entry xs c.0 ≡ c.1 = omega arith in
        non (residues low pos (same (sym w) ⊙ s))
