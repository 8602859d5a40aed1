-- Laws that functions of `laws` state.
use Rattle.std.specs.Prelude.{ℕ, ◌≡◌, ◌<◌, List, ◌∷◌, length, slice_index_or, []}
use Rattle.std.specs.List.{Contains}
use Rattle.alb_rows.specs.Row.{Cells}
use Rattle.alb_rows.specs.Span.{rows_of, Same, SameSpan, IsPivot, IsReducedForm}

-- kept rows that span the offered rows span them with one more, after it was offered
abbrev pub OffersAddUp : Type 0
OffersAddUp = (p : ℕ) (old new offered : List Cells) (row : Cells)
    → SameSpan p (rows_of old) (rows_of offered) → SameSpan p (rows_of new) (rows_of (row ∷ old)) → SameSpan p (rows_of new) (rows_of (row ∷ offered))

-- each row of the one list is one of the other
pub record HaveSameRows (xs ys : List Cells) : Type 0 where
  pub into : (k : ℕ) → k < length xs → Contains ys (slice_index_or xs k [])
  pub back : (k : ℕ) → k < length ys → Contains xs (slice_index_or ys k [])

-- offered rows have one reduced form, whatever their order
abbrev pub OrderIsFree : Type 0
OrderIsFree = (p : ℕ) (xs ys : List Cells) (ps qs : List ℕ) (r s : ℕ → ℕ → ℕ) → 1 < p → HaveSameRows xs ys
    → IsReducedForm p (rows_of xs) ps r → IsReducedForm p (rows_of ys) qs s
    → (ps ≡ qs) × ((c : ℕ) → IsPivot p (rows_of xs) c → Same p (r c) (s c))
