-- The products of elements as rows.
use Rattle.std.specs.Prelude.{◌≡◌, ℕ, ◌*◌, ◌<◌, ◌≤◌, ◌==◌, nat_lt, IsTrue, Bool, true, false, ◌&&◌, ◌||◌, if◌then◌else◌, List, [], ◌∷◌, length, slice_index_or}
use Rattle.std.specs.List.{All, AllPairs, flat_map}
use Rattle.gf_sums.specs.Sums.{Comb, scale}
use Rattle.alb_mono.specs.Listing.{Each}
use Rattle.alb_rows.specs.Row.{Cells, comb, AreCellResidues, AreSameVector}
use Rattle.alb_check.specs.declared.product.Product.{Product}
use Rattle.alb_check.specs.declared.raw.RawEntry.{RawEntry}
use Rattle.alb_check.specs.Raw.{Raw}
use Rattle.alb_check.specs.TableAlgebra.{element_product, generator_value}

-- the row of the product of two elements, zero where the list has none
abbrev pub row_at : List Product → ℕ → ℕ → Cells
row_at [] i j = []
row_at (x ∷ xs) i j = if x.left == i && x.right == j then x.row else row_at xs i j

-- the same as a vector
abbrev pub listed_product : List Product → ℕ → ℕ → Comb ℕ
listed_product xs i j = comb (row_at xs i j)

-- the order of pairs of elements
abbrev pub is_pair_before : ℕ → ℕ → ℕ → ℕ → Bool
is_pair_before i j k l = nat_lt i k || (i == k && nat_lt j l)

-- ascending by pairs, each with a row of residues
pub record AreProducts (p : ℕ) (xs : List Product) : Type 0 where
  pub ascending : AllPairs (λ x y. IsTrue (is_pair_before x.left x.right y.left y.right)) xs
  pub residues : Each (λ x. AreCellResidues p x.row) xs

-- they are the products of the table
abbrev pub GivesProducts : ℕ → Raw → List Product → Type 0
GivesProducts p t xs = (i j : ℕ) → AreSameVector p (listed_product xs i j) (element_product t i j)

-- the entry has these factors
abbrev pub has_factors : ℕ → ℕ → RawEntry → Bool
has_factors i j e = e.left == i && e.right == j

-- the entries from `start` on and before `end` have one pair of factors, and the next has another
pub record IsFactorRun (es : List RawEntry) (start end : ℕ) : Type 0 where
  pub above : start < end
  pub within : end ≤ length es
  pub same : (d : RawEntry) (k : ℕ) → start ≤ k → k < end
      → has_factors (slice_index_or es start d).left (slice_index_or es start d).right (slice_index_or es k d) ≡ true
  pub other : (d : RawEntry) → end < length es
      → has_factors (slice_index_or es start d).left (slice_index_or es start d).right (slice_index_or es end d) ≡ false

-- `c` times the basis element `i`, times a vector
abbrev pub times_right : List Product → ℕ → ℕ → Comb ℕ → Comb ℕ
times_right xs c i u = flat_map (λ t. scale (c * t.0) (listed_product xs i t.1)) u

-- the vectors of a list of rows, by their places
abbrev pub vectors : List Cells → ℕ → Comb ℕ
vectors rows k = comb (slice_index_or rows k [])

-- each generator's row is its value, and the rows have residues
pub record GivesGenerators (t : Raw) (rows : List Cells) : Type 0 where
  pub long : length rows ≡ length t.generators
  pub values : (g : ℕ) → vectors rows g ≡ generator_value t g
  pub residues : (p : ℕ) → 1 < p → All (λ r. AreCellResidues p r) rows
