-- Polynomials that fit the target, the rows of values, and the types of products.
use Rattle.std.specs.Prelude.{◌≡◌, ℕ, ◌≤◌, false, List, length, sum, All}
use Rattle.gf_field.specs.Modular.{IsSameMod}
use Rattle.gf_sums.specs.Sums.{coefficient, reindex}
use Rattle.alb_mono.specs.Tree.{Tree, type_of, type_le, same_tree}
use Rattle.alb_poly.specs.Poly.{Poly, IsSamePoly}
use Rattle.alb_poly.specs.Instance.{Form}
use Rattle.alb_rows.specs.Row.{Cells, comb}
use Rattle.alb_table.specs.Table.{elems, mono_at, Table, CoversType}
use Rattle.alb_table.specs.Right.{mono_value, IsPart, IsBasisTo}
use Rattle.alb_table.specs.RightTable.{mono_entry}
use Rattle.alb_table.specs.Value.{IsBasisRow}

-- each monomial whose type is not at most the target has the coefficient zero
abbrev pub FitsTarget : Table → Poly → Type 0
FitsTarget t f = (x : Tree) → type_le (type_of (length t.target) x) t.target ≡ false → IsSameMod t.p (coefficient same_tree f x) 0

-- a basis monomial of the type of `m`
abbrev pub IsPartOfType : List Form → Table → Tree → Tree → Type 0
IsPartOfType fs t m x = IsPart (IsBasisTo t.p fs t.target t.degree) m x

-- the row of the value of `m`, whose columns are basis elements of the type of `m`
pub record IsValueRow (fs : List Form) (t : Table) (m : Tree) (cells : Cells) : Type 0 where
  pub vector : IsBasisRow t.p (length (elems t.parts)) cells
  pub same : IsSamePoly t.p (reindex (mono_at t.parts) (comb cells)) (mono_value (mono_entry t.parts) m)
  pub parts : All (λ cell. IsPartOfType fs t m (mono_at t.parts cell.0)) cells

-- a type of degree 2 or more that the table has
pub record IsProductType (t : Table) (w : List ℕ) : Type 0 where
  pub covered : CoversType t w
  pub long : length w ≡ length t.target
  pub big : 2 ≤ sum w
