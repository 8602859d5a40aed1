-- Laws that functions of `laws` state.
use Rattle.std.specs.Prelude.{◌≡◌, ℕ, suc, ◌<◌, true, List}
use Rattle.gf_sums.specs.Sums.{coefficient}
use Rattle.alb_poly.specs.Instance.{Form}
use Rattle.alb_linear.specs.Runs.{AreExchangeable, goes_on, AreRuns}
use Rattle.alb_rows.specs.Span.{SameSpan}
use Rattle.alb_table.specs.Table.{same_pair, PartView}
use Rattle.alb_subst.specs.Columns.{pair_at}
use Rattle.alb_subst.specs.Sums.{instance_row}
use Rattle.alb_subst.specs.Tuples.{IsTupleOf, IsLeastTuple}

-- positions stand in one run only where they may be exchanged
abbrev pub MayBeExchanged : ℕ → Form → List ℕ → Type 0
MayBeExchanged p f runs = (j : ℕ) → suc j < f.degree → goes_on runs (suc j) ≡ true → AreExchangeable p f j

-- the row of a form at basis elements as a vector over columns
abbrev pub row_vector : List PartView → Form → List (ℕ × ℕ) → List ℕ → ℕ → ℕ
row_vector parts f columns x j = coefficient same_pair (instance_row parts f x) (pair_at columns j)

-- those of all tuples, and of the tuples that never fall within a run
abbrev pub all_rows : (parts : List PartView) (f : Form) (t : List ℕ) (columns : List (ℕ × ℕ)) → (x : List ℕ) × IsTupleOf parts f.degree t x → ℕ → ℕ
all_rows parts f t columns k = row_vector parts f columns k.0

abbrev pub least_rows : (parts : List PartView) (f : Form) (t runs : List ℕ) (columns : List (ℕ × ℕ)) → (x : List ℕ) × IsLeastTuple parts f.degree t runs x → ℕ → ℕ
least_rows parts f t runs columns k = row_vector parts f columns k.0

-- the rows of the tuples that never fall within a run have the span of all rows
abbrev pub LeastRowsSpanAll : Type 0
LeastRowsSpanAll = (p : ℕ) (parts : List PartView) (f : Form) (t runs : List ℕ) (columns : List (ℕ × ℕ)) → AreRuns p f runs
    → SameSpan p (least_rows parts f t runs columns) (all_rows parts f t columns)
