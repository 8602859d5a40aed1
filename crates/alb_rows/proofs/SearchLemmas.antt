-- What a binary search finds in a row.
use Rattle.std.proofs.Common.{◌≡◌, ◌≢◌, ℕ, suc, ◌<◌, ◌≤◌, [], ◌∷◌, length, get_or, Result, Ok, Err, sym, ap, refl, arith, inl, inr}
use Rattle.std.specs.Prelude.{MatchResult}
use Rattle.std.specs.List.{All}
use Rattle.std.specs.List.Sorted.{IsSearchInRange, IsBinarySearchResult, IsNonDecreasingBy}
use Rattle.std.specs.Ordering.{nat_cmp, ordering_index}
use Rattle.std.proofs.lemmas.Bool.{cases_eq, cases_lt}
use Rattle.std.proofs.lemmas.Bool.Decides.{nat_tests}
use Rattle.std.proofs.lemmas.Cmp.{ranked}
use Rattle.std.proofs.lemmas.List.Sorted.{IsNonDecreasingBy-from_default}
use Rattle.alb_rows.specs.Row.{Cells, entry, IsRow}
use Rattle.alb_rows.proofs.RowLemmas.{entry_found, at_column-other}

-- where no cell has the column, the entry is 0
pub entry_absent : (xs : Cells) (j : ℕ) → All (λ cell. cell.0 ≢ j) xs → entry xs j ≡ 0
entry_absent [] j h = refl
entry_absent (x ∷ xs) j h = omega (arith, at_column-other x.0 x.1 j (h 0 x (omega arith)), entry_absent xs j (λ k d l. h (suc k) d (omega arith)))

module _ (xs : Cells) (row : IsRow xs) (column : ℕ) where
  -- the comparisons with the column rise along the row, as a binary search asks
  comparisons_rise : IsNonDecreasingBy (λ cell. ordering_index (nat_cmp cell.0 column)) xs
  comparisons_rise = IsNonDecreasingBy-from_default (λ cell. ordering_index (nat_cmp cell.0 column)) xs (0, 0) (λ i j le in_range.
      let columns_rise : (get_or xs i (0, 0)).0 ≤ (get_or xs j (0, 0)).0 =
      elim (cases_eq i j) [
        | inl same ↦ (let e = ap (λ k. (get_or xs k (0, 0)).0) same in omega arith)
        | inr ne ↦ (let l = row.ascending i j (0, 0) (omega arith) in_range in omega arith)
      ] in
      grind (arith, nat_tests))

  -- a binary search by column ends at the cell, or finds that there is none
  pub entry_searched : (r : Result ℕ ℕ) → IsSearchInRange r (length xs) → IsBinarySearchResult (λ cell. nat_cmp cell.0 column) xs r →
      MatchResult r (λ i. (i < length xs) × (entry xs column ≡ (get_or xs i (0, 0)).1)) (λ i. entry xs column ≡ 0)
  entry_searched (Ok at) in_range equal = (in_range, entry_found xs at column row in_range (ranked _ column _ (sym (equal (0, 0)))))
  entry_searched (Err at) in_range parted = entry_absent xs column (λ k d l e.
      elim (cases_lt k at) [
        | inl lt ↦ (let less : (get_or xs k d).0 < column = ranked _ column _ (sym ((parted comparisons_rise).0 k d (omega arith) lt)) in absurd (omega arith))
        | inr le ↦ (let more : column < (get_or xs k d).0 = ranked _ column _ (sym ((parted comparisons_rise).1 k d le l)) in absurd (omega arith))
      ])
