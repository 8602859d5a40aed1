-- What a product of two basis elements less its entry is made of.
use Rattle.std.specs.Prelude.{◌≡◌, ℕ, ◌<◌, List, length, slice_index_or, All}
use Rattle.gf_sums.specs.Sums.{Comb}
use Rattle.alb_poly.specs.Instance.{Form}
use Rattle.alb_poly.specs.Poly.{IsSamePoly}
use Rattle.alb_table.specs.Table.{elems, origins_at, Table}
use Rattle.alb_table.specs.Block.{spread}
use Rattle.alb_trace.specs.Given.{IsProductType}
use Rattle.alb_trace.specs.Origins.{product_type, origin_row}
use Rattle.alb_trace.specs.Trace.{product_less}
use Rattle.alb_trace.specs.declared.origins.OriginBlock.{OriginBlock}
use Rattle.alb_trace.specs.declared.trace.Trace.{Trace}

-- two basis elements whose product has an entry
pub record IsProduct (t : Table) (q : ℕ × ℕ) : Type 0 where
  pub left : q.0 < length (elems t.parts)
  pub right : q.1 < length (elems t.parts)
  pub type : IsProductType t (product_type t q)

-- the product less its entry is this combination of the rows of the kept instances of its type
pub record IsRecipeFor (fs : List Form) (t : Table) (q : ℕ × ℕ) (items : Comb ℕ) : Type 0 where
  pub below : All (λ s. s.1 < length (origins_at t.parts (product_type t q))) items
  pub residues : All (λ s. s.0 < t.p) items
  pub gives : IsSamePoly t.p (product_less t q) (spread (origin_row fs t (product_type t q)) items)

-- the block with this number in a trace is that of the type
pub record HasBlock (w : List ℕ) (k : ℕ) (s : Trace) : Type 0 where
  pub among : k < length s.blocks.items
  pub at : (d : OriginBlock) → (slice_index_or s.blocks.items k d).at ≡ w
