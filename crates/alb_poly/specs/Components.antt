-- The homogeneous parts of a polynomial.
use Rattle.std.specs.Prelude.{◌≡◌, ◌≢◌, ℕ, List, [], length}
use Rattle.std.specs.declared.cmp.Ordering.{Ordering}
use Rattle.alb_mono.specs.Tree.{cmp_types}
use Rattle.alb_poly.specs.Poly.{Poly, part}

-- a type over `gens` generators, with the part of `f` that has it, which is not zero
pub record IsComponent (gens : ℕ) (f : Poly) (c : List ℕ × Poly) : Type 0 where
  pub long : length c.0 ≡ gens
  pub same : c.1 ≡ part c.0 f
  pub not_zero : c.1 ≢ []

-- the order of the types
abbrev pub by_type : List ℕ × Poly → List ℕ × Poly → Ordering
by_type c d = cmp_types c.0 d.0
