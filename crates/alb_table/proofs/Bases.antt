-- Tables over any closed set of monomials, and the blocks of their products: what the proofs speak of.
use Rattle.std.specs.Prelude.{◌≡◌, ℕ, ◌<◌, List, ◌∷◌, length}
use Rattle.gf_sums.specs.Sums.{total}
use Rattle.alb_mono.specs.Listing.{Each}
use Rattle.alb_mono.specs.Tree.{Tree, leaf, node, count}
use Rattle.alb_poly.specs.Poly.{Poly}
use Rattle.alb_poly.specs.Instance.{Form}
use Rattle.alb_poly.specs.Consequence.{form_at}
use Rattle.alb_table.specs.Right.{SameType, StandsFor}
use Rattle.alb_table.specs.Block.{InNamedSpan, IsPivotMonomial}

-- a set of monomials with each one's factors
pub record IsClosed (Within : Tree → Type 0) : Type 0 where
  pub left : (l r : Tree) → Within (node l r) → Within l
  pub right : (l r : Tree) → Within (node l r) → Within r
  pub respects : (x y : Tree) → SameType x y → Within x → Within y

-- generators within are basis monomials, and an entry stands for its product
pub record IsTable (p : ℕ) (fs : List Form) (Within Basis : Tree → Type 0) (entry : Tree → Tree → Poly) : Type 0 where
  pub closed : IsClosed Within
  pub generators : (k : ℕ) → Within (leaf k) → Basis (leaf k)
  pub entries : (b c : Tree) → Basis b → Basis c → Within (node b c) → StandsFor p fs Basis (node b c) (entry b c)

-- the product of two monomials within the table
abbrev pub IsNext : (Tree → Type 0) → Tree → Type 0
IsNext Within (leaf k) = ⊥
IsNext Within (node l r) = Within l × Within r

-- every monomial of the type of `z` is one
pub record IsBlock (Within : Tree → Type 0) (z : Tree) : Type 0 where
  pub next : (x : Tree) → SameType x z → IsNext Within x

-- a form's number with basis monomials for its positions, whose types add up to that of `z`
pub record IsTuple (fs : List Form) (Basis : Tree → Type 0) (z : Tree) (name : ℕ × List Tree) : Type 0 where
  pub form : name.0 < length fs
  pub full : length name.1 ≡ (form_at fs name.0).degree
  pub basis : Each Basis name.1
  pub types : (g : ℕ) → total (count g) name.1 ≡ count g z

-- a product of basis monomials, of the type of `z`
abbrev pub IsColumn : (Tree → Type 0) → Tree → Tree → Type 0
IsColumn Basis z (leaf k) = ⊥
IsColumn Basis z (node b c) = Basis b × Basis c × SameType (node b c) z

-- `m` with `rest` is an element of the span, and the monomials of `rest` are columns and no pivots
pub record IsReducedRow {N : Type 0} (p : ℕ) (Named : N → Type 0) (row : N → Poly) (Column : Tree → Type 0) (m : Tree) (rest : Poly) : Type 0 where
  pub in_span : InNamedSpan p Named row ((1, m) ∷ rest)
  pub columns : Each (λ t. Column t.1) rest
  pub no_pivots : Each (λ t. IsPivotMonomial p Named row t.1 → ⊥) rest
