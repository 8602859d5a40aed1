-- Homogeneous identities, full linearization and instances.
use Rattle.std.specs.Prelude.{◌≡◌, ℕ, zero, suc, ◌+◌, take, drop, sum, List, [], ◌∷◌, ◌++◌, map, slice_index_or, ◌≢◌, ◌%◌, ◌<◌, IsTrue, length}
use Rattle.std.specs.List.{flat_map}
use Rattle.gf_sums.specs.Sums.{reindex, coefficient}
use Rattle.alb_mono.specs.Listing.{Each}
use Rattle.alb_mono.specs.Tree.{Tree, leaf, node, count, type_of, type_le, AreBelow, same_tree}
use Rattle.alb_poly.specs.Poly.{Poly, IsSamePoly}

-- ---- the full linearization of a homogeneous identity, and its instances

-- positions replaced by the monomials of a list
abbrev pub fill : List Tree → Tree → Tree
fill ms (leaf k) = slice_index_or ms k (leaf k)
fill ms (node l r) = node (fill ms l) (fill ms r)

-- `x` put in at every place of a list
abbrev pub insertions : {X : Type 0} → X → List X → List (List X)
insertions x [] = (x ∷ []) ∷ []
insertions x (y ∷ ys) = (x ∷ y ∷ ys) ∷ map (λ zs. y ∷ zs) (insertions x ys)

-- all orders of a list
abbrev pub orders : {X : Type 0} → List X → List (List X)
orders [] = [] ∷ []
orders (x ∷ xs) = flat_map (insertions x) (orders xs)

-- all orders of each of the blocks, whose lengths are `e`
abbrev pub arrangements : {X : Type 0} → List ℕ → List X → List (List X)
arrangements [] xs = [] ∷ []
arrangements (n ∷ e) xs = flat_map (λ a. map (λ b. a ++ b) (arrangements e (drop n xs))) (orders (take n xs))

-- each occurrence of a variable replaced by its number: `next v` for the first of `v` from the left, and so on
abbrev pub numbered : (ℕ → ℕ) → Tree → Tree
numbered next (leaf v) = leaf (next v)
numbered next (node l r) = node (numbered next l) (numbered (λ v. next v + count v l) r)

-- the first number of a variable: the degrees of those before it
abbrev pub first_number : List ℕ → ℕ → ℕ
first_number e v = sum (take v e)

-- The instance of an identity of type `e` at monomials: for every term and every arrangement, the occurrences of the
-- variables are replaced by the monomials of their blocks, in the order of the arrangement.
abbrev pub identity_instance : List ℕ → Poly → List Tree → Poly
identity_instance e f ms = flat_map (λ t. map (λ a. (t.0, fill a (numbered (first_number e) t.1))) (arrangements e ms)) f

-- the numbers from `k` on, `n` of them, as monomials
abbrev pub positions : ℕ → ℕ → List Tree
positions k zero = []
positions k (suc n) = leaf k ∷ positions (suc k) n

-- a multilinear form: monomials over the positions below `degree`
pub record Form : Type 0 where
  pub degree : ℕ
  pub terms : Poly

-- the full linearization: the instance at the positions themselves
abbrev pub linearization : List ℕ → Poly → Form
linearization e f = record { degree = sum e; terms = identity_instance e f (positions 0 (sum e)) }

-- the instance of a form at monomials
abbrev pub instance : Form → List Tree → Poly
instance f ms = reindex (fill ms) f.terms

-- the sum of `w` over the leaves
abbrev pub leaves : (ℕ → ℕ) → Tree → ℕ
leaves w (leaf k) = w k
leaves w (node l r) = leaves w l + leaves w r

-- `w k` and so on, `n` of them, added up
abbrev pub total_from : (ℕ → ℕ) → ℕ → ℕ → ℕ
total_from w k zero = 0
total_from w k (suc n) = w k + total_from w (suc k) n

-- each position below `n` is a leaf once, and there is no other leaf
abbrev pub IsMultilinear : ℕ → Tree → Type 0
IsMultilinear n m = (w : ℕ → ℕ) → leaves w m ≡ total_from w 0 n

-- every term is multilinear
abbrev pub IsMultilinearForm : Form → Type 0
IsMultilinearForm f = Each (λ t. IsMultilinear f.degree t.1) f.terms

-- ---- homogeneous identities, and the forms that stand for them

-- the monomial has the type `e`
pub record HasType (e : List ℕ) (m : Tree) : Type 0 where
  pub below : AreBelow (length e) m
  pub counts : (v : ℕ) → v < length e → count v m ≡ slice_index_or e v 0

-- every term has the type `e`
abbrev pub IsHomogeneous : List ℕ → Poly → Type 0
IsHomogeneous e f = Each (λ t. HasType e t.1) f

-- a polynomial with the degrees of its variables
pub record Identity : Type 0 where
  pub degrees : List ℕ
  pub terms : Poly

-- every term of every identity has its type
abbrev pub AreHomogeneous : List Identity → Type 0
AreHomogeneous fs = Each (λ f. IsHomogeneous f.degrees f.terms) fs

abbrev pub linearizations : List Identity → List Form
linearizations fs = map (λ f. linearization f.degrees f.terms) fs

abbrev pub polynomials : List Identity → List Poly
polynomials fs = map (λ f. f.terms) fs

-- the monomial has no other generators than the target's, and each at most as often as the target says
pub record IsAtMost (target : List ℕ) (m : Tree) : Type 0 where
  pub below : AreBelow (length target) m
  pub counts : IsTrue (type_le (type_of (length target) m) target)

-- every monomial with a coefficient that is not 0 modulo `p` is at most the target
abbrev pub IsWithin : ℕ → List ℕ → Poly → Type 0
IsWithin p target g = (m : Tree) → coefficient same_tree g m % p ≢ 0 → IsAtMost target m

-- the forms have the same degree and equal terms
pub record IsSameForm (p : ℕ) (f g : Form) : Type 0 where
  pub degree : f.degree ≡ g.degree
  pub terms : IsSamePoly p f.terms g.terms

-- as many forms, each the same
abbrev pub AreSameForms : ℕ → List Form → List Form → Type 0
AreSameForms p [] [] = Unit {0}
AreSameForms p [] (g ∷ gs) = ⊥
AreSameForms p (f ∷ fs) [] = ⊥
AreSameForms p (f ∷ fs) (g ∷ gs) = IsSameForm p f g × AreSameForms p fs gs
