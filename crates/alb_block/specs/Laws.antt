-- The law that a function of `laws` states.
use Rattle.std.specs.Prelude.{◌↔◌, ℕ, ◌+◌, List}
use Rattle.gf_field.specs.Modular.{IsSameMod}
use Rattle.alb_mono.specs.Listing.{Each}
use Rattle.alb_mono.specs.Tree.{IsTypeWithin}
use Rattle.alb_poly.specs.Consequence.{IsConsequence}
use Rattle.alb_poly.specs.Instance.{Form}
use Rattle.alb_poly.specs.Poly.{Poly}
use Rattle.alb_rows.specs.Span as Vectors
use Rattle.alb_table.specs.Block.{block_image}
use Rattle.alb_table.specs.Columns.{vector_of}
use Rattle.alb_table.specs.Right.{IsOfType}
use Rattle.alb_table.specs.RightTable.{RulesView, IsRightFor, mono_entry}
use Rattle.alb_table.specs.Table.{Table}
use Rattle.alb_block.specs.Asked.{setting_of}
use Rattle.alb_block.specs.Instances.{all_instances}
use Rattle.alb_block.specs.Meaning.{column_monos}

-- `v` is the vector over the products of type `w` of the image of a consequence of type `w`
pub record IsImageOf (fs : List Form) (t : Table) (w : List ℕ) (v : ℕ → ℕ) : Type 0 where
  pub polynomial : Poly
  pub consequence : IsConsequence t.p fs polynomial
  pub types : Each (λ s. IsOfType w s.1) polynomial
  pub vector : (j : ℕ) → IsSameMod t.p (v j) (vector_of (column_monos t.parts w) (block_image (mono_entry t.parts) polynomial) j)

-- the rows of the instances of a type of the next degree span the images of the consequences of this type, and nothing else
abbrev pub RowsSpanImages : Type 0
RowsSpanImages = (r : RulesView) (t : Table) (w : List ℕ) (v : ℕ → ℕ) → IsRightFor r t → IsTypeWithin t.target (t.degree + 1) w
    → Vectors.InSpan t.p (all_instances (setting_of r.forms t w)) v ↔ IsImageOf r.forms t w v
