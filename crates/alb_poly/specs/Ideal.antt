-- Ideals of the free algebra. A set of polynomials is given by what holds of its elements.
use Rattle.std.specs.Prelude.{ℕ, ◌++◌, Bool, IsTrue, List, []}
use Rattle.gf_sums.specs.Sums.{scale}
use Rattle.alb_mono.specs.Listing.{Each}
use Rattle.alb_poly.specs.Poly.{Poly, IsSamePoly, product}
use Rattle.alb_poly.specs.Textbook.{value_at}

-- an ideal: zero, sums, multiples, and products with any polynomial on either side
pub record IsIdeal (p : ℕ) (P : Poly → Type 0) : Type 0 where
  pub zero : P []
  pub same : (f g : Poly) → IsSamePoly p f g → P f → P g
  pub sums : (f g : Poly) → P f → P g → P (f ++ g)
  pub multiples : (c : ℕ) (f : Poly) → P f → P (scale c f)
  pub left : (f g : Poly) → P f → P (product f g)
  pub right : (f g : Poly) → P g → P (product f g)

-- a T-ideal: an ideal that holds what becomes of its elements where polynomials are put for the generators
pub record IsTIdeal (p : ℕ) (P : Poly → Type 0) : Type 0 where
  pub ideal : IsIdeal p P
  pub substituted : (us : ℕ → Poly) (f : Poly) → P f → P (value_at f us)

-- the values of the polynomials, at all polynomials for their variables, are in it
abbrev pub HoldsValues : List Poly → (Poly → Type 0) → Type 0
HoldsValues fs P = Each (λ f. (us : ℕ → Poly) → P (value_at f us)) fs

-- the set of the polynomials of which a test is true
abbrev pub Passing : (Poly → Bool) → Poly → Type 0
Passing test f = IsTrue (test f)
