-- Laws that functions of `laws` state.
use Rattle.std.specs.Prelude.{ℕ, ◌≡◌, ◌<◌, List}
use Rattle.alb_rows.specs.Row.{Cells, comb, entry, IsRow, IsRowOver, AreSameVector}
use Rattle.alb_rows.specs.Span.{rows_of, Same, SameSpan, IsPivot, IsReducedForm}

-- two rows with the same entries are one list
abbrev pub RowIsItsEntries : Type 0
RowIsItsEntries = (xs ys : Cells) → IsRow xs → IsRow ys → ((j : ℕ) → entry xs j ≡ entry ys j) → xs ≡ ys

-- two rows over a field that are equal vectors are one list
abbrev pub RowIsItsVector : Type 0
RowIsItsVector = (p : ℕ) (xs ys : Cells) → IsRowOver p xs → IsRowOver p ys → AreSameVector p (comb xs) (comb ys) → xs ≡ ys

-- the span alone determines the reduced form: two lists of rows with one span have one reduced form
abbrev pub ReducedFormIsUnique : Type 0
ReducedFormIsUnique =
    (p : ℕ) (xs ys : List Cells) (ps qs : List ℕ) (r s : ℕ → ℕ → ℕ) → 1 < p → SameSpan p (rows_of xs) (rows_of ys)
    → IsReducedForm p (rows_of xs) ps r → IsReducedForm p (rows_of ys) qs s
    → (ps ≡ qs) × ((c : ℕ) → IsPivot p (rows_of xs) c → Same p (r c) (s c))
