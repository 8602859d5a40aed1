-- Raw tables, their limits and their shape.
use Rattle.std.specs.Prelude.{◌≡◌, ◌<◌, ℕ, List, Option, length, All, ◌≤◌, ◌^◌, [], ◌∷◌, None, Some, suc, ◌-◌, ◌%◌, ◌==◌, nat_le, nat_lt, Bool, true, ◌&&◌, ◌||◌, not, if◌then◌else◌, sum, slice_index_or}
use Rattle.alb_check.specs.declared.raw.RawEntry.{RawEntry}
use Rattle.alb_check.specs.declared.raw.RawTable.{RawTable}
use Rattle.std.specs.List.{list_all}
use Rattle.alb_mono.specs.Tree.{leaf, type_of, type_le, type_plus}
use Rattle.alb_poly.specs.Poly.{list_eq}

-- ---- what contracts see of a raw table

-- the top type, the types of the elements, the elements of the generators, and the coefficients of the products; elements
-- are numbered from 1
pub record Raw : Type 0 where
  pub top : List ℕ
  pub elements : List (List ℕ)
  pub generators : List (Option ℕ)
  pub entries : List RawEntry

abbrev pub raw : RawTable → Raw
raw t = record { top = t.top; elements = t.elements.items; generators = t.generators.items; entries = t.entries.items }

-- types have `n` counts, each of the `n` generators has a place, and coefficients are residues
pub record IsRaw (p n : ℕ) (t : Raw) : Type 0 where
  pub top : length t.top ≡ n
  pub elements : All (λ e. length e ≡ n) t.elements
  pub generators : length t.generators ≡ n
  pub residues : All (λ e. e.coef < p) t.entries

-- ---- the limits that a table keeps where it is to be written as text and read back

abbrev pub AreCounts : List ℕ → Type 0
AreCounts [] = Unit {0}
AreCounts (c ∷ cs) = (c ≤ 255) × AreCounts cs

-- types of n counts, each at most 255
abbrev pub AreTypes : ℕ → List (List ℕ) → Type 0
AreTypes n [] = Unit {0}
AreTypes n (t ∷ ts) = (length t ≡ n) × AreCounts t × AreTypes n ts

-- numbers of at most 18 digits
abbrev pub ArePlaces : List (Option ℕ) → Type 0
ArePlaces [] = Unit {0}
ArePlaces (None ∷ gs) = ArePlaces gs
ArePlaces (Some k ∷ gs) = (k < 10 ^ 18) × ArePlaces gs

abbrev pub AreEntries : ℕ → List RawEntry → Type 0
AreEntries p [] = Unit {0}
AreEntries p (e ∷ es) = (e.left < 10 ^ 18) × (e.right < 10 ^ 18) × (e.to < 10 ^ 18) × (e.coef < p) × AreEntries p es

-- THE LIMITS OF A TABLE over n generators: types have n counts of at most 255, numbers have at most 18 digits, and coefficients
-- are residues
pub record IsTableFit (p n : ℕ) (t : Raw) : Type 0 where
  pub top : AreTypes n (t.top ∷ [])
  pub elements : AreTypes n t.elements
  pub few : length t.elements < 10 ^ 18
  pub places : length t.generators ≡ n
  pub generators : ArePlaces t.generators
  pub entries : AreEntries p t.entries

-- ---- the rules of shape of a raw table

-- the number of an element
abbrev pub is_element : Raw → ℕ → Bool
is_element t k = nat_le 1 k && nat_le k (length t.elements)

-- the type of an element
abbrev pub element_type : Raw → ℕ → List ℕ
element_type t k = slice_index_or t.elements (k - 1) []

-- 1. The top type is not zero and is at most the target, and there are fewer than 2^32 elements.
abbrev pub is_top_right : List ℕ → Raw → Bool
is_top_right target t = nat_lt 0 (sum t.top) && (type_le t.top target && nat_lt (length t.elements) 4294967296)

-- 2. Each element's type is not zero and is at most the top.
abbrev pub are_elements_right : Raw → Bool
are_elements_right t = list_all (λ e. nat_lt 0 (sum e) && type_le e t.top) t.elements

-- 3. Each generator's number is that of an element whose type is this generator's own.
abbrev pub is_generator_right : Raw → ℕ → Option ℕ → Bool
is_generator_right t g None = true
is_generator_right t g (Some k) = is_element t k && list_eq (element_type t k) (type_of (length t.top) (leaf g))

abbrev pub are_generators_right : Raw → ℕ → List (Option ℕ) → Bool
are_generators_right t g [] = true
are_generators_right t g (o ∷ os) = is_generator_right t g o && are_generators_right t (suc g) os

-- 4. Each entry's three numbers are those of elements, and the type of the third is the sum of the types of the first two.
abbrev pub is_entry_right : Raw → RawEntry → Bool
is_entry_right t e =
    is_element t e.left && (is_element t e.right && (is_element t e.to
    && list_eq (element_type t e.to) (type_plus (element_type t e.left) (element_type t e.right))))

abbrev pub are_entries_right : Raw → Bool
are_entries_right t = list_all (is_entry_right t) t.entries

-- 5. The entries stand in strictly ascending order of the left factor, then the right one, then the third number.
abbrev pub is_before : RawEntry → RawEntry → Bool
is_before d e = nat_lt d.left e.left || (d.left == e.left && (nat_lt d.right e.right || (d.right == e.right && nat_lt d.to e.to)))

abbrev pub are_ascending : List RawEntry → Bool
are_ascending [] = true
are_ascending (d ∷ []) = true
are_ascending (d ∷ e ∷ es) = is_before d e && are_ascending (e ∷ es)

-- 6. No coefficient is zero modulo `p`.
abbrev pub are_nonzero : ℕ → List RawEntry → Bool
are_nonzero p es = list_all (λ e. not (e.coef % p == 0)) es

-- the first rule that fails
abbrev pub shape_fault : List ℕ → ℕ → Raw → Option ℕ
shape_fault target p t =
    if not (is_top_right target t) then Some 1
    else if not (are_elements_right t) then Some 2
    else if not (are_generators_right t 0 t.generators) then Some 3
    else if not (are_entries_right t) then Some 4
    else if not (are_ascending t.entries) then Some 5
    else if not (are_nonzero p t.entries) then Some 6
    else None
