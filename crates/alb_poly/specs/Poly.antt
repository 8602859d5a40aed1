-- Polynomials and their normal form.
use Rattle.std.specs.Prelude.{ℕ, ◌<◌, length, ◌==◌, ◌&&◌, max, Bool, true, false, List, [], ◌∷◌, All, ◌+◌, ◌%◌, if◌then◌else◌}
use Rattle.std.specs.List.{filter}
use Rattle.gf_sums.specs.Sums.{Comb, AreSame, multiply, AllBefore}
use Rattle.alb_mono.specs.Tree.{Tree, leaf, node, degree, type_of, are_below, cmp_monos, same_tree}
use Rattle.std.specs.declared.cmp.Ordering.{Ordering}
use Rattle.std.specs.declared.cmp.Ordering.TheVariants.{Less, Equal, Greater}

-- ---- polynomials: combinations of monomials in the free nonassociative algebra

-- a list of (coefficient, monomial)
abbrev pub Poly : Type 0
Poly = Comb Tree

-- equal polynomials: the same coefficient modulo `p` at every monomial
abbrev pub IsSamePoly : ℕ → Poly → Poly → Type 0
IsSamePoly p f g = AreSame same_tree p f g

-- a generator by itself
abbrev pub generator : ℕ → Poly
generator k = (1, leaf k) ∷ []

-- the product of two polynomials
abbrev pub product : Poly → Poly → Poly
product f g = multiply (λ l r. (1, node l r) ∷ []) f g

-- every coefficient is below `p`
abbrev pub AreResidues : ℕ → Poly → Type 0
AreResidues p f = All (λ t. t.0 < p) f

-- strictly descending by the order of monomials, with no coefficient 0
abbrev pub IsDescending : Poly → Type 0
IsDescending [] = Unit {0}
IsDescending (t ∷ f) = (0 < t.0) × AllBefore cmp_monos t.1 f × IsDescending f

-- the greatest degree of a monomial; 0 where there is none
abbrev pub greatest_degree : Poly → ℕ
greatest_degree [] = 0
greatest_degree (t ∷ f) = max (degree t.1) (greatest_degree f)

-- whether two lists of numbers are one
abbrev pub list_eq : List ℕ → List ℕ → Bool
list_eq [] [] = true
list_eq [] (y ∷ ys) = false
list_eq (x ∷ xs) [] = false
list_eq (x ∷ xs) (y ∷ ys) = x == y && list_eq xs ys

-- whether a monomial has the type `e`: no generators past those of `e`, and each as often as `e` says
abbrev pub has_type : List ℕ → Tree → Bool
has_type e m = are_below (length e) m && list_eq (type_of (length e) m) e

-- the homogeneous part of the type `e`: the terms whose monomials have it
abbrev pub part : List ℕ → Poly → Poly
part e f = filter (λ t. has_type e t.1) f

-- ---- the sorted list without zeros that has the same coefficients

-- a term before a list, unless its coefficient is 0
abbrev pub before : ℕ → Tree → Poly → Poly
before c m f = if c == 0 then f else (c, m) ∷ f

-- A residue times a monomial, added to a list that descends. The first argument of `placed` is how the monomial compares with the first of the list.
abbrev pub placed : Ordering → ℕ → ℕ → Tree → ℕ × Tree → Poly → Poly → Poly
placed Greater p c m t f others = before c m (t ∷ f)
placed Equal p c m t f others = before ((c + t.0) % p) m f
placed Less p c m t f others = t ∷ others

abbrev pub put : ℕ → ℕ → Tree → Poly → Poly
put p c m [] = before c m []
put p c m (t ∷ f) = placed (cmp_monos m t.1) p c m t f (put p c m f)

unfoldable pub normal : ℕ → Poly → Poly
normal p [] = []
normal p (t ∷ f) = put p (t.0 % p) t.1 (normal p f)
