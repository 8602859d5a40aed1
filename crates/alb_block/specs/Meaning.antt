-- What the block of a type of the next degree says of the monomials of this type, where the table is right.
use Rattle.std.specs.Prelude.{◌↔◌, ℕ, ◌<◌, List, length, map}
use Rattle.gf_sums.specs.Sums.{Comb, reindex}
use Rattle.alb_mono.specs.Tree.{Tree, node}
use Rattle.alb_poly.specs.Instance.{Form}
use Rattle.alb_rows.specs.Span as Vectors
use Rattle.alb_reduce.specs.Reduction.{Reduction, kept}
use Rattle.alb_table.specs.Table.{PartView, mono_at, Table}
use Rattle.alb_table.specs.Right.{IsNormal}
use Rattle.alb_table.specs.Block.{IsColumnAt, IsPivotAt, IsFreeAt, IsEntryAt, AreOriginsAt}
use Rattle.alb_table.specs.Columns.{AreColumns, IsEntryRow, col}
use Rattle.alb_block.specs.Instances.{columns_of}
use Rattle.alb_table.specs.RightTable.{instance_at, mono_entry}

-- the products of a type as monomials, the greatest first
abbrev pub column_monos : List PartView → List ℕ → List Tree
column_monos parts t = map (λ q. node (mono_at parts q.0) (mono_at parts q.1)) (columns_of parts t)

-- For each column: it is normal exactly where it is no pivot, and then it is a basis monomial; where it is a pivot, its
-- reduced row gives its entry. The kept instances are the origins of the pivots.
pub record IsBlockAt (fs : List Form) (table : Table) (t : List ℕ) (r : Reduction) (names : List (ℕ × List ℕ)) : Type 0 where
  pub columns : AreColumns (IsColumnAt table.p fs table.target table.degree t) (column_monos table.parts t)
  pub normal : (j : ℕ) → j < length (column_monos table.parts t)
      → (Vectors.IsPivot table.p (kept r) j → ⊥) ↔ IsNormal table.p fs (col (column_monos table.parts t) j)
  pub pivots : (j : ℕ) → Vectors.IsPivot table.p (kept r) j
      → (j < length (column_monos table.parts t)) × IsPivotAt table.p fs table.target table.degree (mono_entry table.parts) t (col (column_monos table.parts t) j)
  pub free : (j : ℕ) → j < length (column_monos table.parts t) → (Vectors.IsPivot table.p (kept r) j → ⊥)
      → IsFreeAt table.p fs table.target table.degree (mono_entry table.parts) t (col (column_monos table.parts t) j)
  pub entries : (j : ℕ) → j < length (column_monos table.parts t) → (v : ℕ → ℕ) → Vectors.IsReducedRow table.p (kept r) j v
      → (e : Comb ℕ) → IsEntryRow table.p (column_monos table.parts t) j v e
      → IsEntryAt table.p fs table.target table.degree (mono_entry table.parts) t (col (column_monos table.parts t) j) (reindex (col (column_monos table.parts t)) e)
  pub origins : AreOriginsAt table.p fs table.target table.degree (mono_entry table.parts) t (map (instance_at table.parts) names)
