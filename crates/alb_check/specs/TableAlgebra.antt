-- The algebra of a raw table, and where a form fails in it.
use Rattle.std.specs.Prelude.{◌≡◌, ℕ, ◌<◌, ◌≤◌, ◌==◌, ◌&&◌, List, [], map, length, sum, slice_index_or, Option, Some, None, ◌+◌}
use Rattle.std.specs.List.{filter}
use Rattle.gf_sums.specs.Sums.{Comb}
use Rattle.alb_mono.specs.Listing.{Each}
use Rattle.alb_mono.specs.Tree.{Tree, degree}
use Rattle.alb_poly.specs.Textbook.{evaluate, evaluate_poly, unit}
use Rattle.alb_poly.specs.Poly.{Poly}
use Rattle.alb_poly.specs.Instance.{Form}
use Rattle.alb_problem.specs.Satisfied.{AreSameVectors}
use Rattle.alb_check.specs.declared.raw.RawEntry.{RawEntry}
use Rattle.alb_check.specs.Raw.{Raw}
use Rattle.std.specs.Ordering.{nat_cmp}
use Rattle.std.specs.Cmp.Lexicographic.{slice_cmp}
use Rattle.std.specs.declared.cmp.Ordering.TheVariants.{Less}
use Rattle.alb_poly.specs.Consequence.{form_at}

-- ---- the algebra of a raw table: the vectors over its elements, with the product that its entries give

-- the sum of entries, at the elements that they name
abbrev pub vector_of : List RawEntry → Comb ℕ
vector_of es = map (λ e. (e.coef, e.to)) es

-- the product of two elements, by the entries
abbrev pub entries_product : List RawEntry → ℕ → ℕ → Comb ℕ
entries_product es i j = vector_of (filter (λ e. e.left == i && e.right == j) es)

abbrev pub element_product : Raw → ℕ → ℕ → Comb ℕ
element_product t = entries_product t.entries

-- the value of a generator: its element, or zero
abbrev pub at_element : Option ℕ → Comb ℕ
at_element None = []
at_element (Some k) = unit k

abbrev pub generator_value : Raw → ℕ → Comb ℕ
generator_value t g = at_element (slice_index_or t.generators g None)

-- the value of a polynomial, with each generator at its element
abbrev pub value : Raw → Poly → Comb ℕ
value t f = evaluate_poly (element_product t) (generator_value t) f

-- the elements of a list as vectors, by their places
abbrev pub units : List ℕ → ℕ → Comb ℕ
units ks i = slice_index_or (map unit ks) i []

-- the value of a form at a tuple of elements
abbrev pub form_value : Raw → Form → List ℕ → Comb ℕ
form_value t f ks = evaluate_poly (element_product t) (units ks) f.terms

-- the number of an element
pub record IsElement (t : Raw) (k : ℕ) : Type 0 where
  pub low : 1 ≤ k
  pub high : k ≤ length t.elements

-- as many elements as the form has positions
pub record IsTuple (t : Raw) (f : Form) (ks : List ℕ) : Type 0 where
  pub long : length ks ≡ f.degree
  pub elements : Each (IsElement t) ks

-- the form is zero at the tuple, and at all tuples of elements
abbrev pub IsZeroAtTuple : ℕ → Raw → Form → List ℕ → Type 0
IsZeroAtTuple p t f ks = AreSameVectors p (form_value t f ks) []

abbrev pub IsZeroAtTuples : ℕ → Raw → Form → Type 0
IsZeroAtTuples p t f = (ks : List ℕ) → IsTuple t f ks → IsZeroAtTuple p t f ks

-- a vector over the elements
abbrev pub IsVector : Raw → Comb ℕ → Type 0
IsVector t u = Each (λ c. IsElement t c.1) u

-- the value of the polynomial is zero at all vectors for its variables
abbrev pub TableSatisfies : ℕ → Raw → Poly → Type 0
TableSatisfies p t f = (u : ℕ → Comb ℕ) → ((v : ℕ) → IsVector t (u v)) → AreSameVectors p (evaluate_poly (element_product t) u f) []

-- every product of more vectors than the degree of the top type is zero
abbrev pub IsNilpotent : ℕ → Raw → Type 0
IsNilpotent p t =
    (m : Tree) → sum t.top < degree m → (u : ℕ → Comb ℕ) → ((v : ℕ) → IsVector t (u v))
    → AreSameVectors p (evaluate (element_product t) u m) []

-- ---- the first identity, and the first tuple of elements, at which a linearization is not zero

-- the form is not zero at the tuple `ks`, and zero at those before it in lexicographic order
pub record IsFirstTuple (p : ℕ) (t : Raw) (f : Form) (ks : List ℕ) : Type 0 where
  pub tuple : IsTuple t f ks
  pub fails : IsZeroAtTuple p t f ks → ⊥
  pub first : (js : List ℕ) → IsTuple t f js → slice_cmp nat_cmp js ks ≡ Less → IsZeroAtTuple p t f js

-- every form is zero at all tuples of elements
abbrev pub AreZeroAtTuples : ℕ → Raw → List Form → Type 0
AreZeroAtTuples p t fs = Each (IsZeroAtTuples p t) fs

-- The form of the number `i`, counted from 1, fails first at the tuple `ks`, and those before it are zero at all tuples.
pub record FirstFailure (p : ℕ) (t : Raw) (fs : List Form) (i : ℕ) (ks : List ℕ) : Type 0 where
  pub place : ℕ
  pub number : i ≡ place + 1
  pub named : place < length fs
  pub tuple : IsFirstTuple p t (form_at fs place) ks
  pub before : (k : ℕ) → k < place → IsZeroAtTuples p t (form_at fs k)
