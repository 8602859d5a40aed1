-- The rows of the kept instances of a type, and the recipes of products over them.
use Rattle.std.specs.Prelude.{◌≡◌, ℕ, ◌<◌, true, List, [], length, slice_index_or, map, All}
use Rattle.alb_mono.specs.Tree.{type_plus}
use Rattle.alb_poly.specs.Instance.{Form, instance}
use Rattle.alb_poly.specs.Consequence.{form_at}
use Rattle.alb_poly.specs.Poly.{Poly}
use Rattle.alb_rows.specs.Span.{SameSpan}
use Rattle.alb_reduce.specs.Reduction.{Reduction, kept, offered, row_with}
use Rattle.alb_table.specs.Table.{type_at, origins_at, mono_at, Table}
use Rattle.alb_table.specs.RightTable.{instance_at, mono_entry}
use Rattle.alb_table.specs.Block.{tuple_row}
use Rattle.alb_block.specs.Asked.{setting_of}
use Rattle.alb_block.specs.Instances.{BlockSetting, columns_of}
use Rattle.alb_block.specs.Offers.{IsRowOf}

-- the kept instance with a number
abbrev pub origin_at : List (ℕ × List ℕ) → ℕ → ℕ × List ℕ
origin_at names k = slice_index_or names k (0, [])

-- the rows of the first k instances were offered with their numbers, and the kept rows have their span
pub record HasOffered (s : BlockSetting) (r : Reduction) (names : List (ℕ × List ℕ)) (k : ℕ) : Type 0 where
  pub field : r.p ≡ s.p
  pub width : r.columns ≡ length (columns_of s.parts s.at)
  pub recipes : r.keeps_recipes ≡ true
  pub rows : (i : ℕ) → i < k → IsRowOf s (origin_at names i) (row_with r.offers i)
  pub below : All (λ o. o.0 < k) r.offers
  pub spans : SameSpan s.p (kept r) (offered r.offers)

-- the columns of a type, and the reduced form of the rows of its kept instances
pub record IsOriginBlock (fs : List Form) (t : Table) (w : List ℕ) (columns : List (ℕ × ℕ)) (r : Reduction) : Type 0 where
  pub columns_are : columns ≡ columns_of t.parts w
  pub offered_all : HasOffered (setting_of fs t w) r (origins_at t.parts w) (length (origins_at t.parts w))

-- the type of a product of two basis elements
abbrev pub product_type : Table → ℕ × ℕ → List ℕ
product_type t q = type_plus (type_at t.parts q.0) (type_at t.parts q.1)

-- the row of a kept instance over monomials
abbrev pub origin_row : List Form → Table → List ℕ → ℕ → Poly
origin_row fs t w k = tuple_row fs (mono_entry t.parts) (instance_at t.parts (origin_at (origins_at t.parts w) k))

-- its instance
abbrev pub origin_instance : List Form → Table → List ℕ → ℕ → Poly
origin_instance fs t w k =
    let o = origin_at (origins_at t.parts w) k in
    instance (form_at fs o.0) (map (mono_at t.parts) o.1)
