-- Tables: their parts, products and entries, what every table keeps, and the limits of a table.
use Rattle.std.specs.Prelude.{ℕ, ◌+◌, if◌then◌else◌, List, [], ◌∷◌, ◌++◌, map, length, replicate, slice_index_or, Option, unwrap_or, ◌-◌, Some, None, ◌==◌, Bool, ◌&&◌, ◌≡◌, suc, ◌^◌, ◌<◌, ◌≤◌, true, sum, take, All}
use Rattle.std.specs.List.{flat_map}
use Rattle.alb_mono.specs.Tree.{Tree, leaf, node, type_plus, splits, rising, type_le, type_of, types_of}
use Rattle.alb_poly.specs.Poly.{list_eq}
use Rattle.alb_table.specs.declared.part.Elem.{Elem}
use Rattle.alb_table.specs.declared.part.Elem.TheVariants.{Gen, Prod}
use Rattle.alb_table.specs.declared.part.Origin.{Origin}
use Rattle.alb_table.specs.declared.part.Part.{Part}
use Rattle.gf_sums.specs.Sums.{Comb, total}
use Rattle.alb_rows.specs.Row.{Cells, comb, IsRowOver, ColumnsBelow}
use Rattle.gf_field.specs.Modular.{IsInTable}
use Rattle.alb_mono.specs.Listing.{Each, IsIn}

-- ---- what contracts see of a table: its parts, one for each type

-- a type with its basis elements, the entry of each product of this type, and the instances that made its pivots
pub record PartView : Type 0 where
  pub at : List ℕ
  pub basis : List Elem
  pub entries : List (List (ℕ × ℕ))
  pub origins : List (ℕ × List ℕ)

-- an instance: the number of its identity, and the basis elements at its positions
abbrev pub origin_view : Origin → ℕ × List ℕ
origin_view o = (o.identity, o.args.items)

abbrev pub part_view : Part → PartView
part_view q = record { at = q.at; basis = q.basis.items; entries = q.entries.items; origins = map origin_view q.origins.items }

-- the part at a place, in the order of types
abbrev pub part_at : List PartView → ℕ → PartView
part_at parts k = slice_index_or parts k (record { at = []; basis = []; entries = []; origins = [] })

-- the number of the first basis element of a type, and how many there are
abbrev pub first_of : List PartView → List ℕ → ℕ
first_of [] t = 0
first_of (q ∷ qs) t = if list_eq q.at t then 0 else length q.basis + first_of qs t

abbrev pub dim_of : List PartView → List ℕ → ℕ
dim_of [] t = 0
dim_of (q ∷ qs) t = if list_eq q.at t then length q.basis else dim_of qs t

-- the entries and the origins of a type, none where the table does not have it
abbrev pub entries_at : List PartView → List ℕ → List (List (ℕ × ℕ))
entries_at [] t = []
entries_at (q ∷ qs) t = if list_eq q.at t then q.entries else entries_at qs t

abbrev pub origins_at : List PartView → List ℕ → List (ℕ × List ℕ)
origins_at [] t = []
origins_at (q ∷ qs) t = if list_eq q.at t then q.origins else origins_at qs t

-- the basis elements by number, and their types
abbrev pub elems : List PartView → List Elem
elems parts = flat_map (λ q. q.basis) parts

abbrev pub types : List PartView → List (List ℕ)
types parts = flat_map (λ q. replicate (length q.basis) q.at) parts

abbrev pub type_at : List PartView → ℕ → List ℕ
type_at parts b = slice_index_or (types parts) b []

-- the monomial of an element, where `ms` has those of the elements before it
abbrev pub mono_of : List Tree → Elem → Tree
mono_of ms (Gen k) = leaf k
mono_of ms (Prod b c) = node (slice_index_or ms b (leaf 0)) (slice_index_or ms c (leaf 0))

-- the monomials of elements, each made of those before it, which begin with `ms`
abbrev pub monos_after : List Tree → List Elem → List Tree
monos_after ms [] = ms
monos_after ms (e ∷ es) = monos_after (ms ++ mono_of ms e ∷ []) es

-- the monomials of the basis elements by number
abbrev pub monos : List PartView → List Tree
monos parts = monos_after [] (elems parts)

abbrev pub mono_at : List PartView → ℕ → Tree
mono_at parts b = slice_index_or (monos parts) b (leaf 0)

-- ---- the products of a type, and the entry of a product

abbrev pub same_pair : ℕ × ℕ → ℕ × ℕ → Bool
same_pair x k = x.0 == k.0 && x.1 == k.1

-- all pairs of n numbers from a on and m numbers from b on, ascending
abbrev pub rectangle : ℕ → ℕ → ℕ → ℕ → List (ℕ × ℕ)
rectangle a n b m = flat_map (λ i. map (λ j. (i, j)) (rising b m)) (rising a n)

-- the entry beside a key
abbrev pub find_entry : {E : Type 0} → ℕ × ℕ → List (ℕ × ℕ) → List E → Option E
find_entry k [] es = None
find_entry k (x ∷ xs) [] = None
find_entry k (x ∷ xs) (e ∷ es) = if same_pair x k then Some e else find_entry k xs es

-- all products of two basis elements whose types are one of the pairs
abbrev pub products_of : List PartView → List (List ℕ × List ℕ) → List (ℕ × ℕ)
products_of parts ss = flat_map (λ s. rectangle (first_of parts s.0) (dim_of parts s.0) (first_of parts s.1) (dim_of parts s.1)) ss

-- all products of two basis elements whose types add up to `t`, ascending
abbrev pub products : List PartView → List ℕ → List (ℕ × ℕ)
products parts t = products_of parts (splits t)

-- THE ENTRY of a product of two basis elements
abbrev pub entry_of : List PartView → ℕ → ℕ → Option Cells
entry_of parts b c =
    let w = type_plus (type_at parts b) (type_at parts c) in
    find_entry (b, c) (products parts w) (entries_at parts w)

-- the same as a combination of basis numbers: the product of the table's algebra, where what has no entry is zero
abbrev pub table_product : List PartView → ℕ → ℕ → Comb ℕ
table_product parts b c = comb (unwrap_or (entry_of parts b c) [])

-- ---- what contracts see of a table, and what every table keeps

-- a table: the number of elements of its field, how often each generator may occur, its degree, and its parts
pub record Table : Type 0 where
  pub p : ℕ
  pub target : List ℕ
  pub degree : ℕ
  pub parts : List PartView

-- all types within a target of degree 1 to d, ascending
abbrev pub types_to : List ℕ → ℕ → List (List ℕ)
types_to target d = flat_map (types_of target) (rising 1 d)

-- the type is at most the target, and its degree is at most the table's
pub record CoversType (t : Table) (w : List ℕ) : Type 0 where
  pub within : type_le w t.target ≡ true
  pub degree_le : sum w ≤ t.degree

-- the factors of an element, if it has any, have numbers below n
abbrev pub FactorsBelow : ℕ → Elem → Type 0
FactorsBelow n (Gen k) = Unit {0}
FactorsBelow n (Prod b c) = (b < n) × (c < n)

-- an element that is a generator is one of the first n
abbrev pub GeneratorBelow : ℕ → Elem → Type 0
GeneratorBelow n (Gen k) = k < n
GeneratorBelow n (Prod b c) = Unit {0}

-- a basis element of the type `t`, whose products are listed: the generator of this type, or one of the products
abbrev pub IsElementOf : List ℕ → List (ℕ × ℕ) → Elem → Type 0
IsElementOf t ps (Gen k) = t ≡ type_of (length t) (leaf k)
IsElementOf t ps (Prod b c) = IsIn (b, c) ps

-- a row over the field with `count` columns from `first` on
pub record IsRowAmong (p first count : ℕ) (cells : Cells) : Type 0 where
  pub row : IsRowOver p cells
  pub low : All (λ cell. first ≤ cell.0) cells
  pub high : ColumnsBelow (first + count) cells

-- A part over the basis elements of `before`, where `parts` numbers the basis elements: it has an entry for each product of
-- its type, which is a row over the basis numbers of this type, and its basis elements are some of the products.
pub record IsPartOf (p : ℕ) (before parts : List PartView) (q : PartView) : Type 0 where
  pub full : length q.entries ≡ length (products before q.at)
  pub fits : length q.entries < 2 ^ 32
  pub elements : Each (IsElementOf q.at (products before q.at)) q.basis
  pub rows : Each (IsRowAmong p (first_of parts q.at) (dim_of parts q.at)) q.entries

-- how many products the parts have, each with its entry, and how many coefficients that are not 0 in these
abbrev pub count_products : List PartView → ℕ
count_products parts = total (λ q. length q.entries) parts

abbrev pub count_coefficients : List PartView → ℕ
count_coefficients parts = total (λ q. total (λ cells. length cells) q.entries) parts

-- numbers of basis elements have 32 bits, and the counts 64
pub record IsCountable (parts : List PartView) : Type 0 where
  pub elements : length (elems parts) < 2 ^ 32
  pub products : count_products parts < 2 ^ 64
  pub coefficients : count_coefficients parts < 2 ^ 64

-- what a table may go up to: each generator occurs, and the degree is 1 to 12
pub record IsTarget (target : List ℕ) : Type 0 where
  pub positive : All (λ c. 0 < c) target
  pub some : 0 < sum target
  pub small : sum target ≤ 12

-- what every table keeps
pub record IsTable (t : Table) : Type 0 where
  pub field : IsInTable t.p
  pub goal : IsTarget t.target
  pub started : 0 < t.degree
  pub within : t.degree ≤ sum t.target
  pub types : map (λ q. q.at) t.parts ≡ types_to t.target t.degree
  pub each : Each (IsPartOf t.p t.parts t.parts) t.parts
  pub generators : take (length t.target) (elems t.parts) ≡ map Gen (rising 0 (length t.target))
  pub countable : IsCountable t.parts

-- the part of the generator k, whose type is `t`
abbrev pub generator_view : ℕ → List ℕ → PartView
generator_view k t = record { at = t; basis = Gen k ∷ []; entries = []; origins = [] }

-- the parts of degree 1: the types of the generators from k on
abbrev pub first_parts : ℕ → List (List ℕ) → List PartView
first_parts k [] = []
first_parts k (t ∷ ts) = generator_view k t ∷ first_parts (suc k) ts

-- the table of degree 1
abbrev pub first_table : ℕ → List ℕ → Table
first_table p target = record { p = p; target = target; degree = 1; parts = first_parts 0 (types_of target 1) }

-- one degree and the parts given more
abbrev pub extended : Table → List PartView → Table
extended t new = record { p = t.p; target = t.target; degree = t.degree + 1; parts = t.parts ++ new }

-- ---- where the building of tables ends

-- the greatest number of products of one type, of products of a table, and of coefficients of a table
abbrev pub most_of_type : ℕ
most_of_type = 4096

abbrev pub most_products : ℕ
most_products = 1000000

abbrev pub most_coefficients : ℕ
most_coefficients = 16777216

-- the types of the next degree, ascending
abbrev pub next_types : Table → List (List ℕ)
next_types t = types_of t.target (t.degree + 1)

-- how many products a type has
abbrev pub wide : Table → List ℕ → ℕ
wide t w = length (products t.parts w)

-- how many products the table of the next degree has
abbrev pub next_products : Table → ℕ
next_products t = count_products t.parts + total (wide t) (next_types t)

-- no limit is passed
pub record IsWithinLimits (t : Table) : Type 0 where
  pub types : Each (λ q. length q.entries ≤ most_of_type) t.parts
  pub products : count_products t.parts ≤ most_products
  pub coefficients : count_coefficients t.parts ≤ most_coefficients
