-- The columns of a block by their numbers, and what vectors over them say of the rows.
use Rattle.std.specs.Prelude.{ℕ, zero, suc, ◌+◌, ◌<◌, nat_eq, if◌then◌else◌, List, [], ◌∷◌, length, slice_index_or}
use Rattle.std.specs.List.{Contains}
use Rattle.std.specs.List.Sorted.{IsStrictlySortedBy}
use Rattle.std.specs.Ordering.{flip_args}
use Rattle.gf_field.specs.Modular.{IsSameMod}
use Rattle.gf_sums.specs.Sums.{Comb, coefficient}
use Rattle.alb_mono.specs.Listing.{Each}
use Rattle.alb_mono.specs.Tree.{Tree, leaf, cmp_trees, same_tree}
use Rattle.alb_poly.specs.Poly.{Poly}
use Rattle.alb_rows.specs.Span as Vectors
use Rattle.alb_table.specs.Block.{InNamedSpan}

-- the vector of a polynomial over a list of columns: a place past the end has 0
abbrev pub vector_of : List Tree → Poly → ℕ → ℕ
vector_of [] x j = 0
vector_of (c ∷ cols) x zero = coefficient same_tree x c
vector_of (c ∷ cols) x (suc j) = vector_of cols x j

-- the columns of a block, descending: the monomials that an element of the span may have
pub record AreColumns (Column : Tree → Type 0) (cols : List Tree) : Type 0 where
  pub descends : IsStrictlySortedBy (flip_args cmp_trees) cols
  pub columns : Each Column cols
  pub whole : (m : Tree) → Column m → Contains cols m

-- the column with a number
abbrev pub col : List Tree → ℕ → Tree
col cols j = slice_index_or cols j (leaf 0)

-- an element of the span of the rows, with its vector
pub record HasElement {N : Type 0} (p : ℕ) (Named : N → Type 0) (row : N → Poly) (cols : List Tree) (v : ℕ → ℕ) : Type 0 where
  pub element : Poly
  pub in_span : InNamedSpan p Named row element
  pub vector : (j : ℕ) → IsSameMod p (v j) (vector_of cols element j)

-- The vectors `f` have the span of the named rows: each is that of an element, and the vector of each row is in their span.
pub record HaveSpan {N K : Type 0} (p : ℕ) (Named : N → Type 0) (row : N → Poly) (cols : List Tree) (f : K → ℕ → ℕ) : Type 0 where
  pub into : (k : K) → HasElement p Named row cols (f k)
  pub from : (n : N) → Named n → Vectors.InSpan p f (vector_of cols (row n))

-- The entry of the pivot `j` with the reduced row `v`, as a combination of column numbers: minus the row at the other
-- columns, and no coefficient zero.
pub record IsEntryRow (p : ℕ) (cols : List Tree) (j : ℕ) (v : ℕ → ℕ) (e : Comb ℕ) : Type 0 where
  pub places : Each (λ s. s.1 < length cols) e
  pub sums : (i : ℕ) → i < length cols → IsSameMod p (coefficient (λ k l. nat_eq k l) e i + v i) (if nat_eq i j then 1 else 0)
  pub kept : Each (λ s. IsSameMod p (coefficient (λ k l. nat_eq k l) e s.1) 0 → ⊥) e
