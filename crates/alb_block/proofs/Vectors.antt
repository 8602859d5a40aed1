-- The cells of a vector.
use Rattle.std.proofs.Common.{◌≡◌, ◌≢◌, ℕ, zero, suc, ◌+◌, ◌%◌, ◌<◌, ◌≤◌, true, [], ◌∷◌, nat_eq, sym, subst, ◌∙◌, arith, inl, inr}
use Rattle.std.specs.Prelude.{if◌then◌else◌}
use Rattle.std.specs.List.{All, AllPairs}
use Rattle.std.proofs.lemmas.Bool.{cases_Bool, cases_eq, cases_lt, eqb-true, eq-eqb}
use Rattle.std.proofs.lemmas.List.Elements.{All-cons}
use Rattle.std.proofs.lemmas.Nat.{mod_below}
use Rattle.alb_rows.specs.Row.{Cells, ColumnsBelow, entry, IsRowOver}
use Rattle.alb_rows.proofs.RowLemmas.{at_column-same, at_column-other, entry_before, entry_past}

-- the cells of a vector at n columns from a on
abbrev pub cells_from : ℕ → (ℕ → ℕ) → ℕ → ℕ → Cells
cells_from p v a zero = []
cells_from p v a (suc n) = if nat_eq (v a % p) 0 then cells_from p v (suc a) n else (a, v a % p) ∷ cells_from p v (suc a) n

-- those at the first n columns
abbrev pub cells_of : ℕ → ℕ → (ℕ → ℕ) → Cells
cells_of p n v = cells_from p v 0 n

cells-low : (p : ℕ) (v : ℕ → ℕ) (a n b : ℕ) → b ≤ a → All (λ c. b ≤ c.0) (cells_from p v a n)
cells-low p v a zero b l = λ k d m. absurd (omega arith)
cells-low p v a (suc n) b l = elim (cases_Bool (nat_eq (v a % p) 0)) [
  | inl e ↦ rw e (cells-low p v (suc a) n b (omega arith))
  | inr e ↦ rw e (All-cons (λ c. b ≤ c.0) (a, v a % p) (cells_from p v (suc a) n) l (cells-low p v (suc a) n b (omega arith)))
]

cells-high : (p : ℕ) (v : ℕ → ℕ) (a n h : ℕ) → a + n ≤ h → ColumnsBelow h (cells_from p v a n)
cells-high p v a zero h l = λ k d m. absurd (omega arith)
cells-high p v a (suc n) h l = elim (cases_Bool (nat_eq (v a % p) 0)) [
  | inl e ↦ rw e (cells-high p v (suc a) n h (omega arith))
  | inr e ↦ rw e (All-cons (λ c. c.0 < h) (a, v a % p) (cells_from p v (suc a) n) (omega arith) (cells-high p v (suc a) n h (omega arith)))
]

row-nothing : (p : ℕ) → IsRowOver p []
row-nothing p = record {
  row = record { ascending = λ i j d l m. absurd (omega arith); nonzero = λ k d l. absurd (omega arith) };
  residues = λ k d l. absurd (omega arith);
}

-- one more cell before the others
row-cons : (p a x : ℕ) (xs : Cells) → IsRowOver p xs → All (λ c. suc a ≤ c.0) xs → x ≢ 0 → x < p → IsRowOver p ((a, x) ∷ xs)
row-cons p a x xs h later n l = record {
  row = record { ascending = pairs; nonzero = All-cons (λ c. c.1 ≢ 0) (a, x) xs n h.row.nonzero };
  residues = All-cons (λ c. c.1 < p) (a, x) xs l h.residues;
}
  where
    pairs : AllPairs (λ u v. u.0 < v.0) ((a, x) ∷ xs)
    pairs i zero d m k = absurd (omega arith)
    pairs zero (suc j) d m k = later j d (omega arith)
    pairs (suc i) (suc j) d m k = h.row.ascending i j d (omega arith) (omega arith)

cells-row : (p : ℕ) (v : ℕ → ℕ) (a n : ℕ) → 0 < p → IsRowOver p (cells_from p v a n)
cells-row p v a zero pos = row-nothing p
cells-row p v a (suc n) pos = elim (cases_Bool (nat_eq (v a % p) 0)) [
  | inl e ↦ rw e (cells-row p v (suc a) n pos)
  | inr e ↦ rw e (row-cons p a (v a % p) (cells_from p v (suc a) n) (cells-row p v (suc a) n pos) (cells-low p v (suc a) n (suc a) (omega arith))
      (λ z. (let t : nat_eq (v a % p) 0 ≡ true = eq-eqb (v a % p) 0 z in absurd (cc))) (mod_below (v a) p pos))
]

cells-before : (p : ℕ) (v : ℕ → ℕ) (a n j : ℕ) → j < a → entry (cells_from p v a n) j ≡ 0
cells-before p v a n j l = entry_before (cells_from p v a n) j (cells-low p v a n (suc j) (omega arith))

cells-first : (p : ℕ) (v : ℕ → ℕ) (a n : ℕ) → entry (cells_from p v a (suc n)) a ≡ v a % p
cells-first p v a n = elim (cases_Bool (nat_eq (v a % p) 0)) [
  | inl e ↦ rw e (cells-before p v (suc a) n a (omega arith) ∙ sym (eqb-true (v a % p) 0 e))
  | inr e ↦ rw e (omega (arith, at_column-same a (v a % p), cells-before p v (suc a) n a (omega arith)))
]

cells-at : (p : ℕ) (v : ℕ → ℕ) (a n j : ℕ) → a ≤ j → j < a + n → entry (cells_from p v a n) j ≡ v j % p
cells-at p v a zero j l m = absurd (omega arith)
cells-at p v a (suc n) j l m = elim (cases_eq a j) [
  | inl q ↦ subst (λ i. entry (cells_from p v a (suc n)) i ≡ v i % p) q (cells-first p v a n)
  | inr ne ↦ (
      let r : entry (cells_from p v (suc a) n) j ≡ v j % p = cells-at p v (suc a) n j (omega arith) (omega arith) in
      elim (cases_Bool (nat_eq (v a % p) 0)) [
        | inl e ↦ rw e r
        | inr e ↦ rw e (omega (arith, at_column-other a (v a % p) j ne, r))
      ])
]

-- THE ENTRIES of the cells of a vector that is 0 from the column n on
pub entry-cells : (p n : ℕ) (v : ℕ → ℕ) → ((j : ℕ) → n ≤ j → v j % p ≡ 0) → (j : ℕ) → entry (cells_of p n v) j ≡ v j % p
entry-cells p n v h j = elim (cases_lt j n) [
  | inl l ↦ cells-at p v 0 n j (omega arith) (omega arith)
  | inr g ↦ entry_past (cells_of p n v) n j (cells-high p v 0 n n (omega arith)) g ∙ sym (h j g)
]

pub cells-over : (p n : ℕ) (v : ℕ → ℕ) → 0 < p → IsRowOver p (cells_of p n v)
cells-over p n v pos = cells-row p v 0 n pos

pub cells-below : (p n : ℕ) (v : ℕ → ℕ) → ColumnsBelow n (cells_of p n v)
cells-below p n v = cells-high p v 0 n n (omega arith)
