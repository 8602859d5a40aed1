-- The first type of the monomials of a polynomial, among their types.
use Rattle.std.specs.Prelude.{◌≡◌, ℕ, ◌<◌, List, [], length, Option, None, Some, slice_index_or}
use Rattle.std.specs.declared.cmp.Ordering.{Ordering}
use Rattle.std.specs.declared.cmp.Ordering.TheVariants.{Less}
use Rattle.alb_mono.specs.Listing.{Each}
use Rattle.alb_mono.specs.Tree.{Tree, type_of, cmp_types}
use Rattle.alb_poly.specs.Poly.{Poly}

-- `u` by the order of `at` and `u`
abbrev pub earlier_by : Ordering → List ℕ → List ℕ → List ℕ
earlier_by Less u at = at
earlier_by other u at = u

-- the earlier one of two types
abbrev pub earlier : List ℕ → List ℕ → List ℕ
earlier u at = earlier_by (cmp_types at u) u at

abbrev pub or_earlier : Option (List ℕ) → List ℕ → List ℕ
or_earlier None at = at
or_earlier (Some u) at = earlier u at

-- one of the terms has the type `top` over `n` generators, and none has an earlier one
pub record IsFirstAmong (n : ℕ) (f : Poly) (top : List ℕ) : Type 0 where
  pub term : ℕ × Tree
  pub place : ℕ
  pub within : place < length f
  pub at : slice_index_or f place term ≡ term
  pub type : type_of n term.1 ≡ top
  pub first : Each (λ t. cmp_types (type_of n t.1) top ≡ Less → ⊥) f

-- what is known of the first type of some terms
abbrev pub HasFirst : ℕ → Poly → Option (List ℕ) → Type 0
HasFirst n f None = f ≡ []
HasFirst n f (Some top) = IsFirstAmong n f top
