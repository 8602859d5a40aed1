-- Derivations whose sums have few items, and what their lines have.
use Rattle.std.specs.Prelude.{◌<◌, ◌≤◌, ℕ, List, [], length}
use Rattle.std.specs.List.{flat_map}
use Rattle.gf_sums.specs.Sums.{scale}
use Rattle.alb_mono.specs.Listing.{Each}
use Rattle.alb_poly.specs.Poly.{Poly, IsSamePoly}
use Rattle.alb_poly.specs.Instance.{Form}
use Rattle.alb_deriv.specs.Derivation.{Line, Instance, Times, Sum, earlier, line_values, AreSound, IsDerivation, IsLineBelow}

-- the line has at most `most` items, where it is a sum
abbrev pub IsShort : ℕ → Line → Type 0
IsShort most (Instance i ms) = Unit {0}
IsShort most (Times k s) = Unit {0}
IsShort most (Sum cs) = length cs ≤ most

-- no line has a fault, another generator than the target's, or a sum of more than `most` items
pub record AreFine (p most : ℕ) (target : List ℕ) (fs : List Form) (ls : List Line) : Type 0 where
  pub sound : AreSound p target fs [] ls
  pub lettered : Each (IsLineBelow (length target)) ls
  pub short : Each (IsShort most) ls

-- the number `k` is that of a line
pub record IsPlace (ls : List Line) (k : ℕ) : Type 0 where
  pub above : 0 < k
  pub among : k ≤ length ls

-- the polynomial of line `k`
abbrev pub value_of : List Form → List Line → ℕ → Poly
value_of fs ls k = earlier (line_values fs [] ls) k

-- line `k` has the polynomial `f`
pub record IsLineOf (p : ℕ) (fs : List Form) (ls : List Line) (k : ℕ) (f : Poly) : Type 0 where
  pub place : IsPlace ls k
  pub same : IsSamePoly p (value_of fs ls k) f

-- the sum of the multiples `cs` of lines
abbrev pub sum_of : List Form → List Line → List (ℕ × ℕ) → Poly
sum_of fs ls cs = flat_map (λ c. scale c.0 (value_of fs ls c.1)) cs

-- the multiples `cs` of lines add up to the polynomial `f`
pub record IsSumOf (p : ℕ) (fs : List Form) (ls : List Line) (cs : List (ℕ × ℕ)) (f : Poly) : Type 0 where
  pub places : Each (λ c. IsPlace ls c.1) cs
  pub same : IsSamePoly p (sum_of fs ls cs) f

-- a derivation of `g` whose monomials have the target's generators only and whose sums have at most `most` items
pub record IsShortDerivation (p most : ℕ) (target : List ℕ) (fs : List Form) (g : Poly) (ls : List Line) : Type 0 where
  pub derives : IsDerivation p target fs g ls
  pub lettered : Each (IsLineBelow (length target)) ls
  pub short : Each (IsShort most) ls

-- there is such a derivation
pub record HasShortDerivation (p most : ℕ) (target : List ℕ) (fs : List Form) (g : Poly) : Type 0 where
  pub lines : List Line
  pub are : IsShortDerivation p most target fs g lines
