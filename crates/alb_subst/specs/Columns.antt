-- The columns of a type: its products of two basis elements.
use Rattle.std.specs.Prelude.{◌≡◌, ℕ, ◌<◌, ◌≤◌, false, List, [], ◌∷◌, length, reverse, slice_index_or, Result, Ok, Err}
use Rattle.alb_mono.specs.Listing.{Each}
use Rattle.alb_table.specs.Table.{same_pair, PartView, products}
use Rattle.alb_subst.specs.declared.error.ColumnsStop.{ColumnsStop}
use Rattle.alb_subst.specs.declared.error.ColumnsStop.TheVariants.{TooWide, NoMemory}

-- no later pair is an earlier one
abbrev pub IsDistinct : List (ℕ × ℕ) → Type 0
IsDistinct [] = Unit {0}
IsDistinct (x ∷ xs) = Each (λ y. same_pair y x ≡ false) xs × IsDistinct xs

-- what a numbering keeps
pub record AreNumbered (columns : List (ℕ × ℕ)) : Type 0 where
  pub few : length columns ≤ 4096
  pub distinct : IsDistinct columns

-- the pair of a column
abbrev pub pair_at : List (ℕ × ℕ) → ℕ → ℕ × ℕ
pair_at columns j = slice_index_or columns j (0, 0)

-- what opening the columns of the type `t` answers: its products from the greatest to the least, or that there are too many
abbrev pub OpensColumns : List PartView → List ℕ → Result (List (ℕ × ℕ)) ColumnsStop → Type 0
OpensColumns parts t (Ok columns) = (columns ≡ reverse (products parts t)) × (length columns ≤ 4096)
OpensColumns parts t (Err (TooWide n)) = (n ≡ length (products parts t)) × (4096 < n)
OpensColumns parts t (Err NoMemory) = Unit {0}
