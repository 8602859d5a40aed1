-- The table of the basis elements up to a type, as evidence.
use Rattle.std.specs.Prelude.{ℕ, ◌+◌, Bool, if◌then◌else◌, List, [], length, map, Option, Some, None, unwrap_or, ◌≡◌}
use Rattle.std.specs.List.{filter, flat_map}
use Rattle.std.specs.declared.cmp.Ordering.TheVariants.{Less}
use Rattle.alb_mono.specs.Tree.{Tree, type_of, type_le, type_plus, cmp_types, rising}
use Rattle.alb_poly.specs.Poly.{Poly}
use Rattle.alb_rows.specs.Row.{Cells}
use Rattle.alb_table.specs.Table.{entry_of, elems, type_at, Table}
use Rattle.alb_table.specs.Right.{IsZeroAt, IsOfType}
use Rattle.alb_check.specs.declared.raw.RawEntry.{RawEntry}
use Rattle.alb_check.specs.Raw.{Raw}

-- the type of a basis element is at most `top`
abbrev pub is_kept : Table → List ℕ → ℕ → Bool
is_kept t top b = type_le (type_at t.parts b) top

-- the basis elements whose types are at most `top`, in order
abbrev pub kept_elements : Table → List ℕ → List ℕ
kept_elements t top = filter (is_kept t top) (rising 0 (length (elems t.parts)))

-- their numbers in the sub-table: one more than how many there are before
abbrev pub number_of : Table → List ℕ → ℕ → ℕ
number_of t top b = length (filter (is_kept t top) (rising 0 b)) + 1

-- the generators are the first basis elements
abbrev pub generator_number : Table → List ℕ → ℕ → Option ℕ
generator_number t top g = if is_kept t top g then Some (number_of t top g) else None

-- the coefficients of a row that is the product of two basis elements, where these have numbers
abbrev pub row_entries : (ℕ → ℕ) → ℕ → ℕ → Cells → List RawEntry
row_entries number b c cells = map (λ cell. record { left = number b; right = number c; to = number cell.0; coef = cell.1 }) cells

-- those of a product whose type is at most `top`; a row of a table has no coefficient 0
abbrev pub product_entries : Table → List ℕ → ℕ → ℕ → List RawEntry
product_entries t top b c =
    if type_le (type_plus (type_at t.parts b) (type_at t.parts c)) top
    then row_entries (number_of t top) b c (unwrap_or (entry_of t.parts b c) [])
    else []

-- THE SUB-TABLE: the basis elements whose types are at most `top`, and all coefficients of their products that are
abbrev pub sub_table : Table → List ℕ → Raw
sub_table t top = record {
  top = top;
  elements = map (type_at t.parts) (kept_elements t top);
  generators = map (generator_number t top) (rising 0 (length t.target));
  entries = flat_map (λ b. flat_map (product_entries t top b) (kept_elements t top)) (kept_elements t top);
}

-- `top` is the first type of the monomials that occur in `f`
pub record IsFirstType (p : ℕ) (top : List ℕ) (f : Poly) : Type 0 where
  pub monomial : Tree
  pub type : IsOfType top monomial
  pub nonzero : IsZeroAt p f monomial → ⊥
  pub first : (x : Tree) → (IsZeroAt p f x → ⊥) → cmp_types (type_of (length top) x) top ≡ Less → ⊥
