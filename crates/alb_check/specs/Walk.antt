-- Tuples of elements that begin alike.
use Rattle.std.specs.Prelude.{◌≡◌, ◌+◌, ◌<◌, ℕ, Bool, true, List, ◌++◌, length, slice_index_or, None}
use Rattle.std.specs.List.{AllPairs}
use Rattle.std.specs.Ordering.{nat_cmp}
use Rattle.std.specs.Cmp.Lexicographic.{slice_cmp}
use Rattle.std.specs.declared.cmp.Ordering.TheVariants.{Less}
use Rattle.gf_sums.specs.Sums.{total}
use Rattle.alb_mono.specs.Listing.{Each, IsIn}
use Rattle.alb_mono.specs.Tree.{type_le}
use Rattle.alb_poly.specs.Instance.{Form}
use Rattle.alb_poly.specs.Consequence.{form}
use Rattle.alb_linear.specs.Identity.{IsLinearized}
use Rattle.alb_check.specs.declared.walk.Trial.{Trial}
use Rattle.alb_check.specs.Raw.{Raw, raw, IsRaw, shape_fault, element_type}
use Rattle.alb_check.specs.Products.{AreProducts, GivesProducts}
use Rattle.alb_check.specs.TableAlgebra.{IsElement, IsTuple, IsZeroAtTuple}

-- a table in its shape, its products, and a linearized form
pub record IsTrial (s : Trial) : Type 0 where
  pub table : IsRaw s.rules.now.field (length s.rules.now.target) (raw s.table.now)
  pub shape : shape_fault s.rules.now.target s.rules.now.field (raw s.table.now) ≡ None
  pub products : AreProducts s.rules.now.field s.products.now
  pub values : GivesProducts s.rules.now.field (raw s.table.now) s.products.now
  pub linearized : IsLinearized s.rules.now.field (form s.linear.now)

-- how often a generator occurs in the type of an element
abbrev pub count_at : Raw → ℕ → ℕ → ℕ
count_at t g k = slice_index_or (element_type t k) g 0

-- the types of the elements `ks` and `rest` add up to the top type
pub record Leaves (t : Raw) (ks rest : List ℕ) : Type 0 where
  pub long : length rest ≡ length t.top
  pub sums : (g : ℕ) → total (count_at t g) ks + slice_index_or rest g 0 ≡ slice_index_or t.top g 0

-- the element's type is at most `rest`
abbrev pub fits_top : Raw → List ℕ → ℕ → Bool
fits_top t rest k = type_le (element_type t k) rest

-- elements in ascending order, among them all whose types are at most `rest`
pub record AreCandidates (t : Raw) (rest ks : List ℕ) : Type 0 where
  pub ascending : AllPairs (λ a b. a < b) ks
  pub elements : Each (IsElement t) ks
  pub all : (k : ℕ) → IsElement t k → fits_top t rest k ≡ true → IsIn k ks

-- the form is zero at all tuples that begin with `ks`
abbrev pub IsZeroFrom : ℕ → Raw → Form → List ℕ → Type 0
IsZeroFrom p t f ks = (js : List ℕ) → IsTuple t f (ks ++ js) → IsZeroAtTuple p t f (ks ++ js)

-- of the tuples that begin with `ks`, the first at which the form is not zero
pub record IsFirstFrom (p : ℕ) (t : Raw) (f : Form) (ks tuple : List ℕ) : Type 0 where
  pub rest : List ℕ
  pub is : tuple ≡ ks ++ rest
  pub is_tuple : IsTuple t f tuple
  pub fails : IsZeroAtTuple p t f tuple → ⊥
  pub first : (js : List ℕ) → IsTuple t f (ks ++ js) → slice_cmp nat_cmp js rest ≡ Less → IsZeroAtTuple p t f (ks ++ js)
