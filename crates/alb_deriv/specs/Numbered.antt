-- The polynomials of lines by the numbers of monomials. Only private contracts cite this.
use Rattle.std.specs.Prelude.{◌≡◌, ℕ, ◌<◌, ◌==◌, if◌then◌else◌, Bool, true, false, not, List, [], ◌∷◌, length, All, Result, Ok, Err}
use Rattle.std.specs.List.{list_any}
use Rattle.gf_field.specs.Modular.{IsSameMod}
use Rattle.gf_sums.specs.Sums.{weigh, reindex}
use Rattle.alb_mono.specs.Listing.{Each}
use Rattle.alb_mono.specs.Tree.{Tree, type_of, type_le}
use Rattle.alb_poly.specs.Poly.{Poly, normal}
use Rattle.alb_poly.specs.Instance.{IsAtMost}
use Rattle.alb_nodes.specs.Nodes.{at}
use Rattle.alb_deriv.specs.declared.values.LineFault.{LineFault}
use Rattle.alb_deriv.specs.declared.values.LineFault.TheVariants as faults

-- the polynomial of terms by numbers
abbrev pub read : List Tree → List (ℕ × ℕ) → Poly
read ts f = reindex (at ts) f

-- the same sums at every number
abbrev pub AreAlike : ℕ → List (ℕ × ℕ) → List (ℕ × ℕ) → Type 0
AreAlike p f g = (w : ℕ → ℕ) → IsSameMod p (weigh w f) (weigh w g)

-- no index stands twice
abbrev pub AreApart : {I : Type 0} → List (ℕ × I) → Type 0
AreApart [] = Unit {0}
AreApart (t ∷ f) = Each (λ u. t.1 ≡ u.1 → ⊥) f × AreApart f

-- a residue that is not 0
abbrev pub IsCoefficient : {I : Type 0} → ℕ → ℕ × I → Type 0
IsCoefficient p t = (0 < t.0) × (t.0 < p)

-- a number that there is, of a monomial within the target
abbrev pub IsFit : List ℕ → List Tree → ℕ → Type 0
IsFit target ts k = (k < length ts) × IsAtMost target (at ts k)

-- one term, unless its coefficient is 0
abbrev pub before : ℕ → ℕ → List (ℕ × ℕ)
before c k = if c == 0 then [] else (c, k) ∷ []

-- terms as the judgement keeps them
pub record IsNumbered (p : ℕ) (target : List ℕ) (ts : List Tree) (f : List (ℕ × ℕ)) : Type 0 where
  pub fit : Each (λ t. IsFit target ts t.1) f
  pub coefs : Each (IsCoefficient p) f
  pub apart : AreApart (read ts f)

-- the normal form of what terms by numbers say
abbrev pub said : ℕ → List Tree → List (ℕ × ℕ) → Poly
said p ts f = normal p (read ts f)

-- the same of a result
abbrev pub said_by : {E : Type 0} → ℕ → List Tree → Result (List (ℕ × ℕ)) E → Result Poly E
said_by p ts (Ok f) = Ok (said p ts f)
said_by p ts (Err e) = Err e

-- a monomial of the polynomial has a type that is not at most the target
abbrev pub is_past : List ℕ → Poly → Bool
is_past target g = list_any (λ t. not (type_le (type_of (length target) t.1) target)) g

-- terms that say `g`, where no monomial passes the target
pub record AreBeside (target : List ℕ) (ts : List Tree) (g : Poly) (f : List (ℕ × ℕ)) : Type 0 where
  pub fits : is_past target g ≡ false
  pub is : read ts f ≡ g
  pub within : All (λ t. t.1 < length ts) f

-- terms that say `g`, or that a monomial of it passes the target
abbrev pub IsBeside : List ℕ → List Tree → Poly → Result (List (ℕ × ℕ)) LineFault → Type 0
IsBeside target ts g (Ok f) = AreBeside target ts g f
IsBeside target ts g (Err faults.OutOfType) = is_past target g ≡ true
IsBeside target ts g (Err faults.NoMemory) = Unit {0}
IsBeside target ts g (Err other) = ⊥
