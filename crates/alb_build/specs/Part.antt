-- How a block becomes a part of the table of the next degree. Contracts of private functions alone speak of it.
use Rattle.std.specs.Prelude.{◌≡◌, ◌↔◌, ℕ, ◌+◌, ◌-◌, ◌<◌, Bool, false, if◌then◌else◌, IsTrue, List, [], ◌∷◌, length, reverse, drop, slice_index, slice_index_or}
use Rattle.gf_field.specs.Modular.{IsSameMod}
use Rattle.gf_sums.specs.Sums.{total}
use Rattle.alb_rows.specs.Row.{Cells, entry, ColumnsBelow, IsRowOver, RowLeadsWith}
use Rattle.alb_rows.specs.Span.{IsPivot, IsReducedRow}
use Rattle.alb_reduce.specs.Reduction.{Reduction, kept}
use Rattle.alb_table.specs.Table.{PartView}
use Rattle.alb_table.specs.declared.part.Elem.{Elem}
use Rattle.alb_table.specs.declared.part.Elem.TheVariants.{Prod}
use Rattle.alb_block.specs.View.{BlockView}

-- For each of n products, ascending, whether it is no pivot. The columns descend, so the product at k is the column n - 1 - k.
pub record AreFree (r : Reduction) (n : ℕ) (free : List Bool) : Type 0 where
  pub full : length free ≡ n
  pub each : (k : ℕ) → k < n → IsTrue (slice_index_or free k false) ↔ (IsPivot r.p (kept r) (n - 1 - k) → ⊥)
  pub pivot : (k : ℕ) → k < n → slice_index_or free k false ≡ false → IsPivot r.p (kept r) (n - 1 - k)

-- the number of the basis element that each product would be, where the first one has the number n
abbrev pub numbers_from : ℕ → List Bool → List ℕ
numbers_from n [] = []
numbers_from n (b ∷ bs) = n ∷ numbers_from (if b then n + 1 else n) bs

-- the numbers of the products of a block with this reduced form, which has n columns
pub record AreNumbers (r : Reduction) (n : ℕ) (numbers : List ℕ) : Type 0 where
  pub first : ℕ
  pub free : List Bool
  pub are_free : AreFree r n free
  pub numbers_are : numbers ≡ numbers_from first free

-- the products that are no pivots, as basis elements
abbrev pub elements_of : List (ℕ × ℕ) → List Bool → List Elem
elements_of [] bs = []
elements_of (q ∷ qs) [] = []
elements_of (q ∷ qs) (b ∷ bs) = if b then Prod q.0 q.1 ∷ elements_of qs bs else elements_of qs bs

-- the cell of an entry for a cell of a reduced row: the number of the column's product, and the negative
pub record IsNegatedCell (p : ℕ) (numbers : List ℕ) (cell new : ℕ × ℕ) : Type 0 where
  pub number : new.0 ≡ slice_index numbers (length numbers - 1 - cell.0)
  pub negative : IsSameMod p (new.1 + cell.1) 0
  pub residue : new.1 < p

-- one for each cell
abbrev pub AreNegated : ℕ → List ℕ → Cells → Cells → Type 0
AreNegated p numbers [] [] = Unit {0}
AreNegated p numbers [] (e ∷ es) = ⊥
AreNegated p numbers (c ∷ cs) [] = ⊥
AreNegated p numbers (c ∷ cs) (e ∷ es) = IsNegatedCell p numbers c e × AreNegated p numbers cs es

-- the entry of a pivot: minus its reduced row without the pivot, which stands first. The columns descend, and the numbers ascend
abbrev pub IsPivotEntry : ℕ → List ℕ → Cells → Cells → Type 0
IsPivotEntry p numbers row es = AreNegated p numbers (reverse (drop 1 row)) es

-- the reduced row of a pivot, of which the entry is made
pub record HasPivotEntry (r : Reduction) (numbers : List ℕ) (column : ℕ) (es : Cells) : Type 0 where
  pub row : Cells
  pub reduced : IsReducedRow r.p (kept r) column (entry row)
  pub leads : RowLeadsWith row (column, 1)
  pub residues : IsRowOver r.p row
  pub below : ColumnsBelow r.columns row
  pub entry_is : IsPivotEntry r.p numbers row es

-- the entry of the product at k: itself where it is no pivot, and else by its reduced row
pub record IsNewEntry (r : Reduction) (numbers : List ℕ) (k : ℕ) (es : Cells) : Type 0 where
  pub free : (IsPivot r.p (kept r) (length numbers - 1 - k) → ⊥) → es ≡ (slice_index numbers k, 1) ∷ []
  pub pivot : IsPivot r.p (kept r) (length numbers - 1 - k) → HasPivotEntry r numbers (length numbers - 1 - k) es

pub record AreNewEntries (r : Reduction) (numbers : List ℕ) (entries : List Cells) : Type 0 where
  pub full : length entries ≡ length numbers
  pub each : (k : ℕ) → k < length numbers → IsNewEntry r numbers k (slice_index_or entries k [])

-- the basis elements and the entries of the part of a block, whose first basis element has the number `first`
pub record AreMade (first : ℕ) (b : BlockView) (basis : List Elem) (entries : List Cells) : Type 0 where
  pub free : List Bool
  pub are_free : AreFree b.reduced (length b.columns) free
  pub elements : basis ≡ elements_of (reverse b.columns) free
  pub new_entries : AreNewEntries b.reduced (numbers_from first free) entries

-- the part of a block, whose first basis element has the number `first`
pub record IsPartMade (first : ℕ) (b : BlockView) (q : PartView) : Type 0 where
  pub at : q.at ≡ b.at
  pub origins : q.origins ≡ b.origins
  pub free : List Bool
  pub are_free : AreFree b.reduced (length b.columns) free
  pub basis : q.basis ≡ elements_of (reverse b.columns) free
  pub entries : AreNewEntries b.reduced (numbers_from first free) q.entries

-- one part for each block, numbered one after the other
abbrev pub ArePartsOf : ℕ → List BlockView → List PartView → Type 0
ArePartsOf n [] [] = Unit {0}
ArePartsOf n [] (q ∷ qs) = ⊥
ArePartsOf n (b ∷ bs) [] = ⊥
ArePartsOf n (b ∷ bs) (q ∷ qs) = IsPartMade n b q × ArePartsOf (n + length q.basis) bs qs

-- the block's reduced form is over the field, and over its columns
pub record FitsBlock (p : ℕ) (b : BlockView) : Type 0 where
  pub field : b.reduced.p ≡ p
  pub width : b.reduced.columns ≡ length b.columns

-- how many products blocks have
abbrev pub count_columns : List BlockView → ℕ
count_columns blocks = total (λ (b : BlockView). length b.columns) blocks
