-- The block of a type of the next degree: the rows of its instances over the products of basis monomials, and what their span
-- says of these.
use Rattle.std.specs.Prelude.{◌≡◌, ℕ, ◌<◌, ◌+◌, List, [], length, slice_index_or, sum}
use Rattle.std.specs.List.{flat_map, Contains}
use Rattle.std.specs.List.Sorted.{IsStrictlySortedBy}
use Rattle.std.specs.declared.cmp.Ordering.TheVariants.{Greater}
use Rattle.gf_sums.specs.Sums.{total, Comb, scale}
use Rattle.alb_mono.specs.Listing.{Each}
use Rattle.alb_mono.specs.Tree.{Tree, leaf, node, count, listed, cmp_trees}
use Rattle.alb_poly.specs.Textbook.{evaluate, unit}
use Rattle.alb_poly.specs.Poly.{Poly, IsSamePoly}
use Rattle.alb_poly.specs.Instance.{Form}
use Rattle.alb_poly.specs.Consequence.{form_at}
use Rattle.alb_table.specs.Right.{IsZeroAt, difference, outer, IsOfType, IsWithinDegree, IsBasisTo, IsTypeTo}

-- ---- rows

-- the image of a product: the pairs of its factors' values
abbrev pub image : {I K : Type 0} → (I → I → K) → (I → I → Comb I) → (ℕ → Comb I) → Tree → Comb K
image pair prod v (leaf k) = []
image pair prod v (node l r) = outer pair (evaluate prod v l) (evaluate prod v r)

-- each index replaced by a combination
abbrev pub spread : {I K : Type 0} → (I → Comb K) → Comb I → Comb K
spread h f = flat_map (λ t. scale t.0 (h t.1)) f

-- the image of a polynomial over the products of basis monomials
abbrev pub block_image : (Tree → Tree → Poly) → Poly → Poly
block_image entry g = spread (image node entry (λ k. unit (leaf k))) g

-- the row of a form at basis elements: the image of its instance
abbrev pub form_row : {I K : Type 0} → (I → I → K) → (I → I → Comb I) → (ℕ → I) → Form → Comb K
form_row pair prod b f = spread (image pair prod (λ k. unit (b k))) f.terms

-- a combination of rows, each of which has a name
pub record InNamedSpan {N : Type 0} (p : ℕ) (Named : N → Type 0) (row : N → Poly) (x : Poly) : Type 0 where
  pub items : Comb N
  pub named : Each (λ t. Named t.1) items
  pub gives : IsSamePoly p x (spread row items)

-- an instance of type `t`: a form's number with basis monomials for its positions, whose types add up to `t`
pub record IsTupleAt (p : ℕ) (fs : List Form) (target : List ℕ) (d : ℕ) (t : List ℕ) (name : ℕ × List Tree) : Type 0 where
  pub form : name.0 < length fs
  pub full : length name.1 ≡ (form_at fs name.0).degree
  pub basis : Each (IsBasisTo p fs target d) name.1
  pub types : listed (λ g. total (count g) name.1) 0 (length t) ≡ t

-- its row
abbrev pub tuple_row : List Form → (Tree → Tree → Poly) → ℕ × List Tree → Poly
tuple_row fs entry name = form_row node entry (λ k. slice_index_or name.1 k (leaf k)) (form_at fs name.0)

-- ---- columns and pivots

-- a product of two basis monomials, of type `t`
pub record IsColumnAt (p : ℕ) (fs : List Form) (target : List ℕ) (d : ℕ) (t : List ℕ) (m : Tree) : Type 0 where
  pub left : Tree
  pub right : Tree
  pub product : m ≡ node left right
  pub left_basis : IsBasisTo p fs target d left
  pub right_basis : IsBasisTo p fs target d right
  pub type : IsOfType t m

-- the greatest monomial of an element of the span
pub record IsPivotMonomial {N : Type 0} (p : ℕ) (Named : N → Type 0) (row : N → Poly) (m : Tree) : Type 0 where
  pub element : Poly
  pub in_span : InNamedSpan p Named row element
  pub nonzero : IsZeroAt p element m → ⊥
  pub greatest : (x : Tree) → cmp_trees x m ≡ Greater → IsZeroAt p element x

-- the greatest column of an element of the span of the rows of type `t`
abbrev pub IsPivotAt : ℕ → List Form → List ℕ → ℕ → (Tree → Tree → Poly) → List ℕ → Tree → Type 0
IsPivotAt p fs target d entry t m = IsPivotMonomial p (IsTupleAt p fs target d t) (tuple_row fs entry) m

-- a column that is no pivot
pub record IsFreeAt (p : ℕ) (fs : List Form) (target : List ℕ) (d : ℕ) (entry : Tree → Tree → Poly) (t : List ℕ) (m : Tree) : Type 0 where
  pub column : IsColumnAt p fs target d t m
  pub no_pivot : IsPivotAt p fs target d entry t m → ⊥

-- the ascending list of the columns that are no pivots
pub record AreFreeAt (p : ℕ) (fs : List Form) (target : List ℕ) (d : ℕ) (entry : Tree → Tree → Poly) (t : List ℕ) (ms : List Tree) : Type 0 where
  pub ascends : IsStrictlySortedBy cmp_trees ms
  pub free : Each (IsFreeAt p fs target d entry t) ms
  pub whole : (m : Tree) → IsFreeAt p fs target d entry t m → Contains ms m

-- `e` is a combination of columns that are no pivots, and differs from the column `m` by an element of the span
pub record IsEntryAt (p : ℕ) (fs : List Form) (target : List ℕ) (d : ℕ) (entry : Tree → Tree → Poly) (t : List ℕ) (m : Tree) (e : Poly) : Type 0 where
  pub free : Each (λ s. IsFreeAt p fs target d entry t s.1) e
  pub in_span : InNamedSpan p (IsTupleAt p fs target d t) (tuple_row fs entry) (difference p (unit m) e)

-- ---- a table that grows by one degree

-- The table `basis'`, `entry'` has what `basis`, `entry` has, and for each type of the next degree the columns that are no
-- pivots as basis, and the entries of the block.
pub record Grows (p : ℕ) (fs : List Form) (target : List ℕ) (d : ℕ) (basis : List ℕ → List Tree) (entry : Tree → Tree → Poly)
    (basis' : List ℕ → List Tree) (entry' : Tree → Tree → Poly) : Type 0 where
  pub old_bases : (t : List ℕ) → IsTypeTo target d t → basis' t ≡ basis t
  pub new_bases : (t : List ℕ) → IsTypeTo target (d + 1) t → sum t ≡ d + 1 → AreFreeAt p fs target d entry t (basis' t)
  pub old_entries : (b c : Tree) → IsBasisTo p fs target d b → IsBasisTo p fs target d c → IsWithinDegree target d (node b c) → entry' b c ≡ entry b c
  pub new_entries : (t : List ℕ) (b c : Tree) → IsTypeTo target (d + 1) t → sum t ≡ d + 1 → IsColumnAt p fs target d t (node b c)
      → IsEntryAt p fs target d entry t (node b c) (entry' b c)

-- ---- kept origins

-- the ascending list of the pivots of type `t`
pub record ArePivotsAt (p : ℕ) (fs : List Form) (target : List ℕ) (d : ℕ) (entry : Tree → Tree → Poly) (t : List ℕ) (ms : List Tree) : Type 0 where
  pub ascends : IsStrictlySortedBy cmp_trees ms
  pub pivots : Each (IsPivotAt p fs target d entry t) ms
  pub whole : (m : Tree) → IsPivotAt p fs target d entry t m → Contains ms m

-- as many instances as there are pivots, whose rows have the span of all rows of the type
pub record AreOriginsAt (p : ℕ) (fs : List Form) (target : List ℕ) (d : ℕ) (entry : Tree → Tree → Poly) (t : List ℕ) (names : List (ℕ × List Tree)) : Type 0 where
  pub named : Each (IsTupleAt p fs target d t) names
  pub pivots : List Tree
  pub are_pivots : ArePivotsAt p fs target d entry t pivots
  pub count : length names ≡ length pivots
  pub spans : (name : ℕ × List Tree) → IsTupleAt p fs target d t name → InNamedSpan p (Contains names) (tuple_row fs entry) (tuple_row fs entry name)
