-- Normal monomials, and right tables as a basis and an entry for each product.
use Rattle.std.specs.Prelude.{◌≡◌, ℕ, List, [], ◌∷◌, ◌++◌, ◌-◌, suc, if◌then◌else◌, ◌≤◌, IsTrue, length, slice_index_or, sum}
use Rattle.std.specs.declared.cmp.Ordering.TheVariants.{Greater}
use Rattle.gf_field.specs.Modular.{IsSameMod}
use Rattle.gf_sums.specs.Sums.{Comb, coefficient, scale, multiply, reindex}
use Rattle.alb_mono.specs.Tree.{Tree, count, cmp_trees, same_tree, leaf, node, degree, type_of, type_le, are_below}
use Rattle.alb_poly.specs.Poly.{Poly}
use Rattle.alb_poly.specs.Instance.{Form}
use Rattle.alb_poly.specs.Consequence.{IsConsequence}
use Rattle.std.specs.List.{Contains}
use Rattle.std.specs.List.Sorted.{IsStrictlySortedBy}
use Rattle.alb_mono.specs.Listing.{Each}
use Rattle.alb_poly.specs.Textbook.{evaluate, evaluate_poly, unit}

-- ---- leading and normal monomials, and congruence modulo consequences

-- each generator occurs equally often in both
pub record SameType (x y : Tree) : Type 0 where
  pub counts : (k : ℕ) → count k x ≡ count k y

-- the coefficient at a monomial is zero modulo `p`
abbrev pub IsZeroAt : ℕ → Poly → Tree → Type 0
IsZeroAt p g x = IsSameMod p (coefficient same_tree g x) 0

-- `m` is the leading monomial of `g`, whose monomials have one type
pub record LeadsWith (p : ℕ) (g : Poly) (m : Tree) : Type 0 where
  pub nonzero : IsZeroAt p g m → ⊥
  pub types : (x : Tree) → (IsZeroAt p g x → ⊥) → SameType x m
  pub greatest : (x : Tree) → cmp_trees x m ≡ Greater → IsZeroAt p g x

-- some consequence of one type leads with `m`
pub record IsLeading (p : ℕ) (fs : List Form) (m : Tree) : Type 0 where
  pub polynomial : Poly
  pub consequence : IsConsequence p fs polynomial
  pub leads : LeadsWith p polynomial m

-- a normal monomial: no consequence of one type leads with it
pub record IsNormal (p : ℕ) (fs : List Form) (m : Tree) : Type 0 where
  pub none : IsLeading p fs m → ⊥

-- `f` less `g`
abbrev pub difference : {I : Type 0} → ℕ → Comb I → Comb I → Comb I
difference p f g = f ++ scale (p - 1) g

-- the two differ by a consequence
pub record IsCongruent (p : ℕ) (fs : List Form) (f g : Poly) : Type 0 where
  pub differ : IsConsequence p fs (difference p f g)

-- the product of two combinations over pairs of their indices
abbrev pub outer : {I J K : Type 0} → (I → J → K) → Comb I → Comb J → Comb K
outer pair f g = multiply (λ i j. (1, pair i j) ∷ []) f g

-- ---- right tables over monomials, and their values. A table gives each type its basis, and each product of two basis monomials its
-- entry, a combination of basis monomials

-- every form has degree 2 or more
abbrev pub AreHigh : List Form → Type 0
AreHigh fs = Each (λ f. 2 ≤ f.degree) fs

-- ---- values

-- the value of a monomial by the entries of a table: a generator is itself
abbrev pub mono_value : (Tree → Tree → Poly) → Tree → Poly
mono_value entry m = evaluate entry (λ k. unit (leaf k)) m

-- the value of a polynomial
abbrev pub poly_value : (Tree → Tree → Poly) → Poly → Poly
poly_value entry f = evaluate_poly entry (λ k. unit (leaf k)) f

-- ---- entries

-- a basis monomial of the type of `m`
pub record IsPart (Basis : Tree → Type 0) (m x : Tree) : Type 0 where
  pub basis : Basis x
  pub type : SameType x m

-- `e` stands for `m`: a combination of basis monomials of its type that differs from it by a consequence
pub record StandsFor (p : ℕ) (fs : List Form) (Basis : Tree → Type 0) (m : Tree) (e : Poly) : Type 0 where
  pub parts : Each (λ t. IsPart Basis m t.1) e
  pub congruent : IsCongruent p fs (unit m) e

-- a normal monomial within the table
pub record IsBasis (p : ℕ) (fs : List Form) (Within : Tree → Type 0) (x : Tree) : Type 0 where
  pub within : Within x
  pub normal : IsNormal p fs x

-- ---- right tables

-- the monomial has the type `t`
pub record IsOfType (t : List ℕ) (m : Tree) : Type 0 where
  pub below : IsTrue (are_below (length t) m)
  pub counts : type_of (length t) m ≡ t

-- the type is at most the target, and the degree at most `d`
pub record IsWithinDegree (target : List ℕ) (d : ℕ) (m : Tree) : Type 0 where
  pub below : IsTrue (are_below (length target) m)
  pub type : IsTrue (type_le (type_of (length target) m) target)
  pub degree : degree m ≤ d

-- a basis monomial of the table of degree `d`
abbrev pub IsBasisTo : ℕ → List Form → List ℕ → ℕ → Tree → Type 0
IsBasisTo p fs target d x = IsBasis p fs (IsWithinDegree target d) x

-- the ascending list of the normal monomials of type `t`
pub record IsBasisOf (p : ℕ) (fs : List Form) (t : List ℕ) (ms : List Tree) : Type 0 where
  pub ascends : IsStrictlySortedBy cmp_trees ms
  pub types : Each (IsOfType t) ms
  pub normal : Each (IsNormal p fs) ms
  pub whole : (m : Tree) → IsOfType t m → IsNormal p fs m → Contains ms m

-- a type of the table of degree `d`
pub record IsTypeTo (target : List ℕ) (d : ℕ) (t : List ℕ) : Type 0 where
  pub counts : length t ≡ length target
  pub le : IsTrue (type_le t target)
  pub degree : sum t ≤ d

-- A right table to degree `d`: each type has its basis, and the entry of two basis monomials stands for their product.
pub record IsRight (p : ℕ) (fs : List Form) (target : List ℕ) (d : ℕ) (basis : List ℕ → List Tree) (entry : Tree → Tree → Poly) : Type 0 where
  pub bases : (t : List ℕ) → IsTypeTo target d t → IsBasisOf p fs t (basis t)
  pub entries : (b c : Tree) → IsBasisTo p fs target d b → IsBasisTo p fs target d c → IsWithinDegree target d (node b c)
      → StandsFor p fs (IsBasisTo p fs target d) (node b c) (entry b c)

-- ---- a table over the numbers of its basis monomials

-- the basis monomial of a number
abbrev pub basis_mono : List Tree → ℕ → Tree
basis_mono monos b = slice_index_or monos b (leaf 0)

-- the first place of a monomial
abbrev pub place_of : List Tree → Tree → ℕ
place_of [] x = 0
place_of (m ∷ monos) x = if same_tree m x then 0 else suc (place_of monos x)

-- the entries over monomials, by those over numbers
abbrev pub entry_by : List Tree → (ℕ → ℕ → Comb ℕ) → Tree → Tree → Poly
entry_by monos product x y = reindex (basis_mono monos) (product (place_of monos x) (place_of monos y))
