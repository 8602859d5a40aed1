-- The instances of a type over basis numbers, and the span of their rows.
use Rattle.std.specs.Prelude.{◌≡◌, ℕ, zero, suc, ◌<◌, List, [], ◌∷◌, length, reverse}
use Rattle.gf_sums.specs.Sums.{Comb, coefficient}
use Rattle.alb_mono.specs.Listing.{Each, IsIn}
use Rattle.alb_poly.specs.Instance.{Form}
use Rattle.alb_poly.specs.Consequence.{form_at}
use Rattle.alb_rows.specs.Span.{ArePivots, SameSpan}
use Rattle.alb_reduce.specs.Reduction.{Reduction, kept}
use Rattle.alb_table.specs.Table.{same_pair, PartView, products}
use Rattle.alb_subst.specs.Sums.{instance_row}
use Rattle.alb_subst.specs.Tuples.{IsTupleOf}

-- the products of a type, from the greatest to the least
abbrev pub columns_of : List PartView → List ℕ → List (ℕ × ℕ)
columns_of parts t = reverse (products parts t)

-- a field's number of elements, forms, the parts of a table, and a type
pub record BlockSetting : Type 0 where
  pub p : ℕ
  pub forms : List Form
  pub parts : List PartView
  pub at : List ℕ

-- an instance of the type: the number of a form, and basis elements for its positions whose types add up to the type
pub record IsInstance (s : BlockSetting) (name : ℕ × List ℕ) : Type 0 where
  pub form : name.0 < length s.forms
  pub tuple : IsTupleOf s.parts (form_at s.forms name.0).degree s.at name.1

-- the vector of a combination of products over a list of columns. A place past its end has 0
abbrev pub vector_over : List (ℕ × ℕ) → Comb (ℕ × ℕ) → ℕ → ℕ
vector_over [] f j = 0
vector_over (q ∷ qs) f zero = coefficient same_pair f q
vector_over (q ∷ qs) f (suc j) = vector_over qs f j

-- the vector of an instance over the products of the type, the greatest first
abbrev pub instance_vector : BlockSetting → ℕ × List ℕ → ℕ → ℕ
instance_vector s name = vector_over (columns_of s.parts s.at) (instance_row s.parts (form_at s.forms name.0) name.1)

-- all instances of the type, as a family of vectors
abbrev pub all_instances : (s : BlockSetting) → (name : ℕ × List ℕ) × IsInstance s name → ℕ → ℕ
all_instances s k = instance_vector s k.0

-- those of a list
abbrev pub listed_instances : (s : BlockSetting) (names : List (ℕ × List ℕ)) → (name : ℕ × List ℕ) × IsIn name names → ℕ → ℕ
listed_instances s names k = instance_vector s k.0

-- the kept rows have the span of all instances
abbrev pub SpansInstances : BlockSetting → Reduction → Type 0
SpansInstances s r = SameSpan s.p (kept r) (all_instances s)

-- as many instances as the kept rows have pivots, with the same span
pub record AreOrigins (s : BlockSetting) (r : Reduction) (names : List (ℕ × List ℕ)) : Type 0 where
  pub are : Each (IsInstance s) names
  pub count : (pivots : List ℕ) → ArePivots s.p (kept r) pivots → length names ≡ length pivots
  pub spans : SameSpan s.p (kept r) (listed_instances s names)
