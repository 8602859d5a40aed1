-- The laws of verdicts on tables.
use Rattle.std.specs.Prelude.{◌≡◌, ◌<◌, ◌≤◌, ◌⊎◌, ℕ, List, ◌∷◌, length, sum, None, Result}
use Rattle.gf_field.specs.Modular.{IsPrime}
use Rattle.alb_poly.specs.Poly.{Poly}
use Rattle.alb_poly.specs.Instance.{Form}
use Rattle.alb_poly.specs.Consequence.{IsConsequence, AreMultilinear}
use Rattle.alb_mono.specs.Listing.{Each}
use Rattle.alb_rows.specs.Row.{Cells, comb, AreSameVector}
use Rattle.alb_table.specs.Table.{elems, type_at, Table, IsTable}
use Rattle.alb_table.specs.Value.{IsBasisRow, table_value}
use Rattle.alb_table.specs.Right.{AreHigh, IsRight, IsTypeTo, IsWithinDegree, poly_value}
use Rattle.alb_table.specs.RightTable.{basis_monos, mono_entry}
use Rattle.alb_check.specs.declared.check.Counter.{Counter}
use Rattle.alb_check.specs.declared.error.TableError.{TableError}
use Rattle.alb_check.specs.Raw.{Raw, IsRaw, IsTableFit, shape_fault}
use Rattle.alb_check.specs.Verdict.{TableAnswers, IsTableAccepted, RefutesText, TableVerdict, IsTableVerdict}
use Rattle.alb_check.specs.SubTable.{sub_table, IsFirstType}
use Rattle.alb_check.specs.Verdict.TableVerdict.{Refuted}

-- each table has a verdict
abbrev pub EachTableHasVerdict : Type 0
EachTableHasVerdict = (p : ℕ) (target : List ℕ) (fs : List Form) (t : Raw) (g : Poly) → (v : TableVerdict) × IsTableVerdict p target fs t g v

-- and no other
abbrev pub VerdictIsUnique : Type 0
VerdictIsUnique =
    (p : ℕ) (target : List ℕ) (fs : List Form) (t : Raw) (g : Poly) (v w : TableVerdict)
    → IsTableVerdict p target fs t g v → IsTableVerdict p target fs t g w → v ≡ w

-- A polynomial that a table refutes is no textbook consequence of identities that the forms stand for, over a prime above the
-- degree of the target.
abbrev pub RefutedIsNoConsequence : Type 0
RefutedIsNoConsequence =
    (p : ℕ) (target : List ℕ) (fs : List Form) (t : Raw) (g : Poly) → IsPrime p → sum target < p → IsRaw p (length target) t
    → IsTableVerdict p target fs t g Refuted → RefutesText p fs g

-- And over any `p` it is no sum of instances of the forms.
abbrev pub RefutedIsNoSum : Type 0
RefutedIsNoSum =
    (p : ℕ) (target : List ℕ) (fs : List Form) (t : Raw) (g : Poly) → AreMultilinear fs → IsRaw p (length target) t
    → IsTableVerdict p target fs t g Refuted → IsConsequence p fs g → ⊥

-- the sub-table up to a type of a table that is not zero has its shape
abbrev pub SubTableHasShape : Type 0
SubTableHasShape = (t : Table) (top : List ℕ) → IsTable t → IsTypeTo t.target t.degree top → 0 < sum top → shape_fault t.target t.p (sub_table t top) ≡ None

-- The sub-table of a right table up to the first type of a polynomial's normal form refutes the polynomial.
abbrev pub SubTableRefutes : Type 0
SubTableRefutes =
    (fs : List Form) (t : Table) (g : Poly) (top : List ℕ) → AreMultilinear fs → AreHigh fs → IsTable t
    → IsRight t.p fs t.target t.degree (basis_monos t.parts) (mono_entry t.parts) → Each (λ s. IsWithinDegree t.target t.degree s.1) g
    → IsTypeTo t.target t.degree top → IsFirstType t.p top (poly_value (mono_entry t.parts) g)
    → IsTableVerdict t.p t.target fs (sub_table t top) g Refuted

-- A polynomial within a right table is a consequence, or there is a type up to which the sub-table refutes it.
abbrev pub EachIsDecided : Type 0
EachIsDecided =
    (fs : List Form) (t : Table) (g : Poly) → AreMultilinear fs → AreHigh fs → IsTable t
    → IsRight t.p fs t.target t.degree (basis_monos t.parts) (mono_entry t.parts) → Each (λ s. IsWithinDegree t.target t.degree s.1) g
    → IsConsequence t.p fs g ⊎ ((top : List ℕ) × IsTypeTo t.target t.degree top × IsTableVerdict t.p t.target fs (sub_table t top) g Refuted)

-- what a table refutes is accepted, unless there is no memory
abbrev pub RefutedIsAccepted : Type 0
RefutedIsAccepted =
    (p : ℕ) (target : List ℕ) (fs : List Form) (t : Raw) (g : Poly) (r : Result Counter TableError)
    → IsTableVerdict p target fs t g Refuted → TableAnswers p target fs t g r → IsTableAccepted r

-- The first column of a polynomial's value, as a row over basis elements, has the first type of the normal form.
abbrev pub FirstColumnHasFirstType : Type 0
FirstColumnHasFirstType =
    (fs : List Form) (t : Table) (g : Poly) (cell : ℕ × ℕ) (cells : Cells) → IsTable t
    → IsRight t.p fs t.target t.degree (basis_monos t.parts) (mono_entry t.parts) → Each (λ s. IsWithinDegree t.target t.degree s.1) g
    → IsBasisRow t.p (length (elems t.parts)) (cell ∷ cells) → AreSameVector t.p (comb (cell ∷ cells)) (table_value t g)
    → IsTypeTo t.target t.degree (type_at t.parts cell.0) × IsFirstType t.p (type_at t.parts cell.0) (poly_value (mono_entry t.parts) g)

-- A table that keeps its shape, within a target of degree at most 12, keeps the limits of its text.
abbrev pub ShapedTablesFit : Type 0
ShapedTablesFit =
    (p : ℕ) (target : List ℕ) (t : Raw) → sum target ≤ 12 → IsRaw p (length target) t → shape_fault target p t ≡ None
    → IsTableFit p (length target) t
