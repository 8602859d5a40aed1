-- The laws of polynomials and consequences.
use Rattle.std.specs.Prelude.{◌≡◌, ◌<◌, ◌↔◌, ℕ, ◌++◌, IsTrue, Bool, List, length}
use Rattle.gf_sums.specs.Sums.{scale, reindex, IsCanonical}
use Rattle.alb_mono.specs.Tree.{Tree, cmp_monos}
use Rattle.alb_mono.specs.declared.side.Side.{Side}
use Rattle.alb_poly.specs.Poly.{Poly, IsSamePoly, has_type, part, normal}
use Rattle.alb_poly.specs.Consequence.{beside, IsConsequence, IsConsequenceOfType, AreMultilinear, form_at}
use Rattle.alb_poly.specs.Instance.{Form, instance, HasType}
use Rattle.alb_poly.specs.Textbook.{IsTextConsequence}
use Rattle.alb_poly.specs.Ideal.{IsIdeal, IsTIdeal, HoldsValues, Passing}

-- sums, multiples and products with a monomial of consequences are consequences
pub record ConsequencesAreClosed (p : ℕ) (fs : List Form) : Type 0 where
  pub instances : (k : ℕ) (ms : List Tree) → k < length fs → length ms ≡ (form_at fs k).degree → IsConsequence p fs (instance (form_at fs k) ms)
  pub sums : (f g : Poly) → IsConsequence p fs f → IsConsequence p fs g → IsConsequence p fs (f ++ g)
  pub multiples : (c : ℕ) (f : Poly) → IsConsequence p fs f → IsConsequence p fs (scale c f)
  pub products : (s : Side × Tree) (f : Poly) → IsConsequence p fs f → IsConsequence p fs (reindex (beside s) f)

abbrev pub ClosureLaw : Type 0
ClosureLaw = (p : ℕ) (fs : List Form) → ConsequencesAreClosed p fs

-- The normal form of a polynomial: the one descending list without zeros that has its coefficients.
pub record IsCanonicalForm (p : ℕ) (f g : Poly) : Type 0 where
  pub canonical : IsCanonical cmp_monos p g
  pub same : IsSamePoly p g f

abbrev pub NormalFormLaw : Type 0
NormalFormLaw = (p : ℕ) (f : Poly) → 0 < p → IsCanonicalForm p f (normal p f) × ((g : Poly) → IsCanonicalForm p f g → g ≡ normal p f)

-- the test of types is true of the monomials that have the type, and of no others
abbrev pub TypesAreTested : Type 0
TypesAreTested = (e : List ℕ) (m : Tree) → IsTrue (has_type e m) ↔ HasType e m

-- a polynomial is a consequence exactly where each of its homogeneous parts is, by items of its type
abbrev pub PartsDecide : Type 0
PartsDecide = (p : ℕ) (fs : List Form) (g : Poly) → AreMultilinear fs
    → IsConsequence p fs g ↔ ((e : List ℕ) → IsConsequenceOfType p fs e (part e g))

-- The textbook's consequences of some identities are a T-ideal, which holds all values of the identities.
pub record AreTIdealWithValues (p : ℕ) (fs : List Poly) : Type 0 where
  pub t_ideal : IsTIdeal p (IsTextConsequence p fs)
  pub values : HoldsValues fs (IsTextConsequence p fs)

abbrev pub ConsequencesAreTIdeal : Type 0
ConsequencesAreTIdeal = (p : ℕ) (fs : List Poly) → AreTIdealWithValues p fs

-- They are the least such set: each ideal that holds all values of the identities holds them.
abbrev pub ConsequencesAreLeast : Type 0
ConsequencesAreLeast = (p : ℕ) (fs : List Poly) (test : Poly → Bool) → IsIdeal p (Passing test) → HoldsValues fs (Passing test)
    → (g : Poly) → IsTextConsequence p fs g → Passing test g
