-- Which polynomials are homogeneous identities, and what their linearizations are.
use Rattle.std.specs.Prelude.{◌≡◌, ℕ, zero, suc, ◌*◌, ◌<◌, ◌≤◌, ◌==◌, nat_lt, if◌then◌else◌, List, [], ◌∷◌, length, sum, Option, None, Some, Result, Ok, Err}
use Rattle.alb_mono.specs.Tree.{Tree, type_of, tree}
use Rattle.alb_poly.specs.Poly.{Poly, list_eq, AreResidues, normal}
use Rattle.alb_poly.specs.Instance.{Form, linearization, IsMultilinearForm}
use Rattle.alb_poly.specs.Consequence.{form}
use Rattle.alb_poly.specs.declared.rules.Linear.{Linear}
use Rattle.alb_linear.specs.declared.identity.Identity.{Identity}
use Rattle.alb_linear.specs.declared.error.IdentityError.{IdentityError}
use Rattle.alb_linear.specs.declared.error.IdentityError.TheVariants as errors

-- the type of the leading term over the 26 letters
abbrev pub leading_type : Poly → List ℕ
leading_type [] = []
leading_type (t ∷ f) = type_of 26 t.1

-- the first monomial whose type is not `e`
abbrev pub other_term : List ℕ → Poly → Option Tree
other_term e [] = None
other_term e (t ∷ f) = if list_eq (type_of 26 t.1) e then other_term e f else Some t.1

-- the rules that an identity may break
pub data IdentityFault : Type 0 where
  Zero : IdentityFault
  NotHomogeneous : Tree → IdentityFault
  DegreeOne : IdentityFault
  DegreeOver8 : IdentityFault

abbrev pub degree_fault : ℕ → Option IdentityFault
degree_fault n = if n == 1 then Some DegreeOne else if nat_lt 8 n then Some DegreeOver8 else None

abbrev pub type_fault : List ℕ → Option Tree → Option IdentityFault
type_fault e (Some m) = Some (NotHomogeneous m)
type_fault e None = degree_fault (sum e)

-- the first rule that a polynomial breaks
abbrev pub identity_fault : Poly → Option IdentityFault
identity_fault [] = Some Zero
identity_fault (t ∷ f) = type_fault (type_of 26 t.1) (other_term (type_of 26 t.1) f)

-- the letters that occur, with their degrees, from the letter `k` on
abbrev pub variables : ℕ → List ℕ → List (ℕ × ℕ)
variables k [] = []
variables k (zero ∷ e) = variables (suc k) e
variables k (suc n ∷ e) = (k, suc n) ∷ variables (suc k) e

-- an identity as `Identity::of` gives it
pub record IsIdentity (f : Identity) : Type 0 where
  pub no_fault : identity_fault f.poly ≡ None
  pub degrees : f.degrees.items ≡ variables 0 (leading_type f.poly)

-- what `Identity::of` answers; it takes no memory
abbrev pub Accepts : Result Identity IdentityError → Poly → Type 0
Accepts (Ok f) poly = IsIdentity f × (f.poly ≡ poly)
Accepts (Err errors.Zero) poly = identity_fault poly ≡ Some Zero
Accepts (Err (errors.NotHomogeneous m)) poly = identity_fault poly ≡ Some (NotHomogeneous (tree m))
Accepts (Err errors.DegreeOne) poly = identity_fault poly ≡ Some DegreeOne
Accepts (Err errors.DegreeOver8) poly = identity_fault poly ≡ Some DegreeOver8
Accepts (Err (errors.TooManyLinear n)) poly = ⊥
Accepts (Err errors.NoMemory) poly = ⊥

abbrev pub factorial : ℕ → ℕ
factorial zero = 1
factorial (suc n) = suc n * factorial n

-- the number of all orders of blocks of these lengths
abbrev pub factorials : List ℕ → ℕ
factorials [] = 1
factorials (n ∷ e) = factorial n * factorials e

-- the number of terms of the linearization
abbrev pub linear_count : Poly → ℕ
linear_count f = length f * factorials (leading_type f)

-- a multilinear form whose coefficients are residues
pub record IsLinearized (p : ℕ) (f : Form) : Type 0 where
  pub residues : AreResidues p f.terms
  pub multilinear : IsMultilinearForm f

-- what `linearize` answers
abbrev pub Linearizes : ℕ → Result Linear IdentityError → Poly → Type 0
Linearizes p (Ok l) f =
    (linear_count f ≤ 100000) × (l.degree ≡ sum (leading_type f)) × (l.terms ≡ normal p (linearization (leading_type f) f).terms) × IsLinearized p (form l)
Linearizes p (Err (errors.TooManyLinear n)) f = (n ≡ linear_count f) × (100000 < n)
Linearizes p (Err errors.NoMemory) f = Unit {0}
Linearizes p (Err other) f = ⊥
