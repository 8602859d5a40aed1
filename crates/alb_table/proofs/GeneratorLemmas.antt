-- The vectors of generators.
use Rattle.std.proofs.Common.{◌≡◌, ◌≢◌, ℕ, zero, suc, ◌+◌, ◌-◌, ◌<◌, ◌≤◌, Bool, true, false, List, [], ◌∷◌, ◌++◌, length, get_or, sym, refl, ap, ◌∙◌, arith, inl, inr, subst}
use Rattle.std.specs.Prelude.{nat_lt, if◌then◌else◌}
use Rattle.std.proofs.lemmas.Bool.Decides.{nat_tests}
use Rattle.std.proofs.lemmas.List.{get_or_append_left, get_or-append_right}
use Rattle.std.proofs.lemmas.List.Elements.{All-cons, All-nil}
use Rattle.std.proofs.lemmas.List.Kept.{AllPairs-cons}
use Rattle.gf_field.proofs.Table.{IsPrime-from_table}
use Rattle.alb_mono.specs.Listing.{Each}
use Rattle.alb_mono.proofs.ListingLemmas.{each-append}
use Rattle.alb_poly.specs.Textbook.{unit}
use Rattle.alb_rows.specs.Row.{Cells, comb, IsRowOver}
use Rattle.alb_table.specs.Table.{elems, Table, IsTable}
use Rattle.alb_table.specs.Value.{IsBasisRow, vectors, generator_vector}
use Rattle.alb_table.proofs.TableLemmas.{long_enough}
use Rattle.std.proofs.lemmas.Bool.{cases_lt}

pub above_one : (t : Table) → IsTable t → 1 < t.p
above_one t k = (IsPrime-from_table t.p k.field).above_one

-- each generator has a basis element
pub gens_within : (t : Table) → IsTable t → length t.target ≤ length (elems t.parts)
gens_within t k = long_enough (length t.target) (elems t.parts) k.generators

-- a row with one cell, which is 1
pub single_row : (p j : ℕ) → 1 < p → IsRowOver p ((j, 1) ∷ [])
single_row p j h = record {
  row = record {
    ascending = AllPairs-cons (λ (a b : ℕ × ℕ). a.0 < b.0) (j, 1) [] (All-nil _) (λ i k d l m. absurd (omega arith));
    nonzero = All-cons (λ (cell : ℕ × ℕ). cell.1 ≢ 0) (j, 1) [] (λ e. absurd (omega arith)) (All-nil _);
  };
  residues = All-cons (λ (cell : ℕ × ℕ). cell.1 < p) (j, 1) [] h (All-nil _);
}

pub unit_row : (p n gens k : ℕ) (r : Cells) → 1 < p → gens ≤ n → k < gens → r ≡ (k, 1) ∷ [] → IsBasisRow p n r
unit_row p n gens k r h g l e =
    subst (IsBasisRow p n) (sym e) (record { row = single_row p k h; below = All-cons (λ (cell : ℕ × ℕ). cell.0 < n) (k, 1) [] (omega arith) (All-nil _) })

pub unit_value : (gens k : ℕ) (r : Cells) → k < gens → r ≡ (k, 1) ∷ [] → comb r ≡ generator_vector gens k
unit_value gens k r l e =
    let t : nat_lt k gens ≡ true = grind (arith, nat_tests) in
    ap comb e ∙ sym (ap (λ (b : Bool). if b then unit k else []) t)

pub other_value : (gens k : ℕ) (r : Cells) → gens ≤ k → r ≡ [] → comb r ≡ generator_vector gens k
other_value gens k r l e =
    let t : nat_lt k gens ≡ false = grind (arith, nat_tests) in
    ap comb e ∙ sym (ap (λ (b : Bool). if b then unit k else []) t)

past : (rows : List Cells) (k : ℕ) → length rows ≤ k → get_or rows k [] ≡ []
past [] k l = refl
past (r ∷ rows) zero l = absurd (omega arith)
past (r ∷ rows) (suc k) l = past rows k (omega arith)

-- one more row
pub rows_more : (gens : ℕ) (rows next : List Cells) (r : Cells) (k : ℕ) → length rows ≡ k → ((i : ℕ) → i < k → vectors rows i ≡ generator_vector gens i) →
    comb r ≡ generator_vector gens k → next ≡ rows ++ r ∷ [] → (i : ℕ) → i < k + 1 → vectors next i ≡ generator_vector gens i
rows_more gens rows next r k e h v n i l = elim (cases_lt i k) [
  | inl s ↦ ap (λ (xs : List Cells). vectors xs i) n ∙ ap comb (get_or_append_left rows (r ∷ []) [] i (omega arith)) ∙ h i s
  | inr s ↦
      let z : i ≡ k = omega arith in
      let y : k ≡ length rows = sym e in
      let a : get_or (rows ++ r ∷ []) i [] ≡ r = get_or-append_right rows (r ∷ []) k i [] e s ∙ ap (λ m. get_or (r ∷ []) m []) (let q : i - k ≡ 0 = omega arith in q) in
      ap (λ (xs : List Cells). vectors xs i) n ∙ ap comb a ∙ v ∙ ap (generator_vector gens) (sym z)
]

-- all rows
pub rows_all : (gens : ℕ) (rows : List Cells) (n : ℕ) → length rows ≡ n → gens ≤ n → ((i : ℕ) → i < n → vectors rows i ≡ generator_vector gens i) →
    (k : ℕ) → vectors rows k ≡ generator_vector gens k
rows_all gens rows n e g h k = elim (cases_lt k n) [
  | inl s ↦ h k s
  | inr s ↦ ap comb (past rows k (omega arith)) ∙ other_value gens k [] (omega arith) refl
]

pub rows_each : (P : Cells → Type 0) (rows next : List Cells) (r : Cells) → Each P rows → P r → next ≡ rows ++ r ∷ [] → Each P next
rows_each P rows next r h v n = subst (Each P) (sym n) (each-append P rows (r ∷ []) h (v, tt))
