-- Laws that functions of `laws` state.
use Rattle.std.specs.Prelude.{◌≡◌, ◌↔◌, ℕ, ◌<◌, ◌≤◌, ◌+◌, List, [], length, sum, ◌∷◌}
use Rattle.alb_mono.specs.Listing.{Each}
use Rattle.alb_mono.specs.Tree.{Tree, leaf, node}
use Rattle.alb_poly.specs.Poly.{Poly, IsSamePoly}
use Rattle.alb_poly.specs.Instance.{Form}
use Rattle.alb_poly.specs.Consequence.{IsConsequence, AreMultilinear}
use Rattle.alb_table.specs.Right.{IsNormal, IsCongruent, AreHigh, poly_value, IsOfType, IsWithinDegree, IsBasisTo, IsTypeTo, IsRight}
use Rattle.alb_table.specs.Block.{Grows}
use Rattle.alb_table.specs.Table.{elems, mono_at, Table, IsTarget, first_table}
use Rattle.alb_table.specs.RightTable.{RulesView, IsRightFor, mono_entry}
use Rattle.alb_table.specs.Value.{IsBasisRow, table_value}
use Rattle.alb_rows.specs.Row.{Cells, comb, AreSameVector}
use Rattle.gf_sums.specs.Sums.{reindex}
use Rattle.gf_field.specs.Modular.{IsInTable}

-- both factors of a normal product are normal
abbrev pub FactorsAreNormal : Type 0
FactorsAreNormal = (p : ℕ) (fs : List Form) (l r : Tree) → IsNormal p fs (node l r) → IsNormal p fs l × IsNormal p fs r

-- `f` is the one combination of normal monomials that differs from `g` by a consequence, and is zero exactly where `g` is a
-- consequence
pub record Decides (p : ℕ) (fs : List Form) (g f : Poly) : Type 0 where
  pub normal : Each (λ t. IsNormal p fs t.1) f
  pub congruent : IsCongruent p fs g f
  pub unique : (h : Poly) → Each (λ t. IsNormal p fs t.1) h → IsCongruent p fs g h → IsSamePoly p h f
  pub zero : IsSamePoly p f [] ↔ IsConsequence p fs g

-- over monomials: the value of a polynomial within a right table decides it
abbrev pub MonomialValuesDecide : Type 0
MonomialValuesDecide = (p : ℕ) (fs : List Form) (target : List ℕ) (d : ℕ) (basis : List ℕ → List Tree) (entry : Tree → Tree → Poly) (g : Poly)
    → 0 < p → AreMultilinear fs → AreHigh fs → IsRight p fs target d basis entry → Each (λ t. IsWithinDegree target d t.1) g → Decides p fs g (poly_value entry g)

-- every monomial of `g` is within the table
abbrev pub IsPolyWithin : Table → Poly → Type 0
IsPolyWithin t g = Each (λ s. IsWithinDegree t.target t.degree s.1) g

-- the value of a polynomial within a right table, each basis element replaced by its monomial, is the value over monomials
abbrev pub ValuesAgree : Type 0
ValuesAgree = (r : RulesView) (t : Table) (g : Poly) → IsRightFor r t → IsPolyWithin t g
    → reindex (mono_at t.parts) (table_value t g) ≡ poly_value (mono_entry t.parts) g

-- a row with the value of `g`, as `Tables::value` gives it
pub record HasValue (t : Table) (g : Poly) (cells : Cells) : Type 0 where
  pub row : IsBasisRow t.p (length (elems t.parts)) cells
  pub value : AreSameVector t.p (comb cells) (table_value t g)

-- what the row says of `g`: its polynomial decides it, and it is empty exactly where `g` is a consequence
pub record DecidesByRow (r : RulesView) (t : Table) (g : Poly) (cells : Cells) : Type 0 where
  pub decides : Decides t.p r.forms g (reindex (mono_at t.parts) (comb cells))
  pub empty : (cells ≡ []) ↔ IsConsequence t.p r.forms g

-- the row of the value of a polynomial within a right table decides it
abbrev pub ValuesDecide : Type 0
ValuesDecide = (r : RulesView) (t : Table) (g : Poly) (cells : Cells) → IsRightFor r t → IsPolyWithin t g → HasValue t g cells → DecidesByRow r t g cells

-- two tables have the same bases, and equal entries wherever the product is within
pub record AreSameTables (p : ℕ) (fs : List Form) (target : List ℕ) (d : ℕ) (basis basis' : List ℕ → List Tree) (entry entry' : Tree → Tree → Poly) : Type 0 where
  pub bases : (t : List ℕ) → IsTypeTo target d t → basis t ≡ basis' t
  pub entries : (b c : Tree) → IsBasisTo p fs target d b → IsBasisTo p fs target d c → IsWithinDegree target d (node b c) → IsSamePoly p (entry b c) (entry' b c)

-- the field, the identities, the target and the degree determine the right table
abbrev pub RightTableIsUnique : Type 0
RightTableIsUnique = (p : ℕ) (fs : List Form) (target : List ℕ) (d : ℕ) (basis basis' : List ℕ → List Tree) (entry entry' : Tree → Tree → Poly)
    → 0 < p → AreMultilinear fs → AreHigh fs → IsRight p fs target d basis entry → IsRight p fs target d basis' entry'
    → AreSameTables p fs target d basis basis' entry entry'

-- a right table that grows by the blocks of the next degree is right to that degree
abbrev pub RightTablesGrow : Type 0
RightTablesGrow = (p : ℕ) (fs : List Form) (target : List ℕ) (d : ℕ) (basis basis' : List ℕ → List Tree) (entry entry' : Tree → Tree → Poly)
    → 0 < p → AreMultilinear fs → AreHigh fs → 1 ≤ d → IsRight p fs target d basis entry → Grows p fs target d basis entry basis' entry'
    → IsRight p fs target (d + 1) basis' entry'

-- each type of degree 1 has its generator, and the type of degree 0 nothing
pub record IsFirstBasis (target : List ℕ) (basis : List ℕ → List Tree) : Type 0 where
  pub generators : (t : List ℕ) → IsTypeTo target 1 t → sum t ≡ 1 → (k : ℕ) × IsOfType t (leaf k) × (basis t ≡ leaf k ∷ [])
  pub none : (t : List ℕ) → sum t ≡ 0 → basis t ≡ []

-- the table of the generators, with whatever entries, is right to degree 1
abbrev pub FirstTableIsRight : Type 0
FirstTableIsRight = (p : ℕ) (fs : List Form) (target : List ℕ) (basis : List ℕ → List Tree) (entry : Tree → Tree → Poly)
    → AreMultilinear fs → AreHigh fs → IsFirstBasis target basis → IsRight p fs target 1 basis entry

-- the table of degree 1 is right, for whatever identities of degree 2 or more
abbrev pub GeneratorsAreRight : Type 0
GeneratorsAreRight = (r : RulesView) → IsInTable r.p → IsTarget r.target → AreMultilinear r.forms → AreHigh r.forms → IsRightFor r (first_table r.p r.target)
