-- Laws that functions of `laws` state.
use Rattle.std.specs.Prelude.{◌≡◌, ◌≢◌, ◌≤◌, ◌%◌, ◌↔◌, ℕ, List, length, sum, None}
use Rattle.gf_sums.specs.Sums.{coefficient, IsCanonical}
use Rattle.alb_mono.specs.Listing.{Each}
use Rattle.alb_mono.specs.Tree.{Tree, AreBelow, cmp_monos, same_tree}
use Rattle.alb_poly.specs.Poly.{Poly, IsSamePoly, normal}
use Rattle.alb_poly.specs.Instance.{HasType, IsHomogeneous, identity_instance, instance, linearization}
use Rattle.alb_linear.specs.Identity.{identity_fault}

-- A polynomial over the 26 letters with some coefficient that is not 0 modulo `p`, where all monomials with such a coefficient
-- have one type, of degree 2 to 8.
pub record IsHomogeneousIdentity (p : ℕ) (e : List ℕ) (f : Poly) : Type 0 where
  pub letters : length e ≡ 26
  pub occurs : Tree
  pub nonzero : coefficient same_tree f occurs % p ≢ 0
  pub homogeneous : (m : Tree) → coefficient same_tree f m % p ≢ 0 → HasType e m
  pub low : 2 ≤ sum e
  pub high : sum e ≤ 8

-- a canonical list that breaks no rule is a homogeneous identity, and one that is a homogeneous identity breaks none
abbrev pub IdentitiesAreAccepted : Type 0
IdentitiesAreAccepted =
    (p : ℕ) (f : Poly) → IsCanonical cmp_monos p f → Each (λ t. AreBelow 26 t.1) f
    → (identity_fault f ≡ None) ↔ ((e : List ℕ) × IsHomogeneousIdentity p e f)

-- the instance of a linearization is that of the identity, at every list of monomials
abbrev pub InstancesAreThoseOfTheIdentity : Type 0
InstancesAreThoseOfTheIdentity =
    (p : ℕ) (e : List ℕ) (f : Poly) (ms : List Tree) → IsHomogeneous e f → length ms ≡ sum e
    → IsSamePoly p (instance (record { degree = sum e; terms = normal p (linearization e f).terms }) ms) (identity_instance e f ms)
