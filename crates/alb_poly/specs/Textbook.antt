-- Values of polynomials, and consequences in the textbook's sense.
use Rattle.std.specs.Prelude.{ℕ, [], ◌∷◌, ◌==◌, if◌then◌else◌, List, slice_index_or}
use Rattle.std.specs.List.{flat_map}
use Rattle.alb_mono.specs.Tree.{Tree, leaf, node}
use Rattle.gf_sums.specs.Sums.{Comb, scale, multiply, reindex}
use Rattle.alb_poly.specs.Poly.{Poly, IsSamePoly}
use Rattle.alb_mono.specs.declared.side.Side.{Side}
use Rattle.alb_poly.specs.Consequence.{within}

-- ---- values in an algebra with a basis: `prod` is the product of two basis elements

-- the value of a monomial at vectors for its generators
abbrev pub evaluate : {I : Type 0} → (I → I → Comb I) → (ℕ → Comb I) → Tree → Comb I
evaluate prod v (leaf k) = v k
evaluate prod v (node l r) = multiply prod (evaluate prod v l) (evaluate prod v r)

-- the value of a polynomial
abbrev pub evaluate_poly : {I : Type 0} → (I → I → Comb I) → (ℕ → Comb I) → Comb Tree → Comb I
evaluate_poly prod v f = flat_map (λ t. scale t.0 (evaluate prod v t.1)) f

-- a basis element
abbrev pub unit : {I : Type 0} → I → Comb I
unit i = (1, i) ∷ []

-- the vectors with `u` at place `k`
abbrev pub put : {I : Type 0} → (ℕ → Comb I) → ℕ → Comb I → ℕ → Comb I
put v k u j = if j == k then u else v j

-- ---- the textbook's consequences: multiples of values of the identities at arbitrary polynomials, in contexts

-- the product of two monomials, as a polynomial
abbrev pub free_product : Tree → Tree → Poly
free_product l r = (1, node l r) ∷ []

-- the value of a polynomial at polynomials for its variables
abbrev pub value_at : Poly → (ℕ → Poly) → Poly
value_at f us = evaluate_poly free_product us f

-- a multiple of a value in a context
pub record Instance : Type 0 where
  pub coef : ℕ
  pub identity : ℕ
  pub args : ℕ → Poly
  pub context : List (Side × Tree)

abbrev pub instance_value : List Poly → Instance → Poly
instance_value fs it = scale it.coef (reindex (within it.context) (value_at (slice_index_or fs it.identity []) it.args))

-- `g` equals the sum of such values
pub record IsTextConsequence (p : ℕ) (fs : List Poly) (g : Poly) : Type 0 where
  pub items : List Instance
  pub same : IsSamePoly p g (flat_map (instance_value fs) items)
