-- Derivations, their faults and their limits.
use Rattle.std.specs.Prelude.{◌≡◌, ℕ, ◌+◌, ◌-◌, ◌%◌, ◌==◌, ◌||◌, ◌&&◌, not, nat_lt, Bool, true, false, if◌then◌else◌, List, [], ◌∷◌, ◌++◌, length, slice_index_or, Option, Some, None, ◌<◌, ◌≤◌, ◌^◌}
use Rattle.std.specs.List.{flat_map, list_any}
use Rattle.gf_sums.specs.Sums.{total, coefficient, scale, reindex}
use Rattle.alb_mono.specs.Tree.{Tree, same_tree, count, listed, type_of, type_le, AreBelow, degree, are_below}
use Rattle.alb_mono.specs.declared.side.Side.{Side}
use Rattle.alb_poly.specs.Poly.{Poly, IsSamePoly, normal}
use Rattle.alb_poly.specs.Consequence.{beside, form_at}
use Rattle.alb_poly.specs.Instance.{Form, instance}
use Rattle.alb_mono.specs.Listing.{Each}

-- ---- derivations: lists of lines, each with a polynomial

-- an instance of an identity at monomials; an earlier line beside a monomial; a sum of multiples of earlier lines
pub data Line : Type 0 where
  Instance : ℕ → List Tree → Line
  Times : ℕ → Side × Tree → Line
  Sum : List (ℕ × ℕ) → Line

-- the polynomial of line `k` of those before
abbrev pub earlier : List Poly → ℕ → Poly
earlier gs k = slice_index_or gs (k - 1) []

-- the polynomial of a line, after lines with the polynomials `gs`
abbrev pub line_value : List Form → List Poly → Line → Poly
line_value fs gs (Instance i ms) = instance (form_at fs (i - 1)) ms
line_value fs gs (Times k s) = reindex (beside s) (earlier gs k)
line_value fs gs (Sum cs) = flat_map (λ c. scale c.0 (earlier gs c.1)) cs

-- the polynomials of all lines
abbrev pub line_values : List Form → List Poly → List Line → List Poly
line_values fs gs [] = gs
line_values fs gs (l ∷ ls) = line_values fs (gs ++ line_value fs gs l ∷ []) ls

pub data DerivationFault : Type 0 where
  BadIdentity : DerivationFault
  WrongCount : DerivationFault
  LaterLine : DerivationFault
  OutOfType : DerivationFault
  NotTheClaim : DerivationFault

-- `k` is no number from 1 to `n`
abbrev pub is_no_place : ℕ → ℕ → Bool
is_no_place n k = k == 0 || nat_lt n k

-- the types of the monomials together are at most the target
abbrev pub are_within : List ℕ → List Tree → Bool
are_within target ms = type_le (listed (λ g. total (count g) ms) 0 (length target)) target

-- a monomial with a coefficient that is not 0 modulo `p` has a type that is not at most the target
abbrev pub passes_target : ℕ → List ℕ → Poly → Bool
passes_target p target g =
    list_any (λ t. not (coefficient same_tree g t.1 % p == 0) && not (type_le (type_of (length target) t.1) target)) g

-- the first fault of a line after lines with the polynomials `gs`
abbrev pub fault : ℕ → List ℕ → List Form → List Poly → Line → Option DerivationFault
fault p target fs gs (Instance i ms) =
    if is_no_place (length fs) i then Some BadIdentity
    else if not (length ms == (form_at fs (i - 1)).degree) then Some WrongCount
    else if not (are_within target ms) then Some OutOfType
    else None
fault p target fs gs (Times k s) =
    if is_no_place (length gs) k then Some LaterLine
    else if passes_target p target (reindex (beside s) (earlier gs k)) then Some OutOfType
    else None
fault p target fs gs (Sum cs) = if list_any (λ c. is_no_place (length gs) c.1) cs then Some LaterLine else None

-- no line has a fault
abbrev pub AreSound : ℕ → List ℕ → List Form → List Poly → List Line → Type 0
AreSound p target fs gs [] = Unit {0}
AreSound p target fs gs (l ∷ ls) = (fault p target fs gs l ≡ None) × AreSound p target fs (gs ++ line_value fs gs l ∷ []) ls

-- the polynomial of the last line, or zero
abbrev pub last_value : List Form → List Line → Poly
last_value fs ls = earlier (line_values fs [] ls) (length ls)

-- lines without faults, the last of which has the polynomial `g`
pub record IsDerivation (p : ℕ) (target : List ℕ) (fs : List Form) (g : Poly) (ls : List Line) : Type 0 where
  pub sound : AreSound p target fs [] ls
  pub last : IsSamePoly p (last_value fs ls) g

-- all generators of the monomials are below `n`
abbrev pub AreAllBelow : ℕ → List Tree → Type 0
AreAllBelow n [] = Unit {0}
AreAllBelow n (m ∷ ms) = AreBelow n m × AreAllBelow n ms

-- all generators of the line are below `n`
abbrev pub IsLineBelow : ℕ → Line → Type 0
IsLineBelow n (Instance i ms) = AreAllBelow n ms
IsLineBelow n (Times k s) = AreBelow n s.1
IsLineBelow n (Sum cs) = Unit {0}

-- ---- the first faulty line

abbrev pub or_later : ℕ → Option DerivationFault → Option (DerivationFault × ℕ) → Option (DerivationFault × ℕ)
or_later k (Some x) later = Some (x, k)
or_later k None later = later

-- the first faulty line, with its first fault and its number, counted from 1
abbrev pub first_fault : ℕ → List ℕ → List Form → List Poly → List Line → Option (DerivationFault × ℕ)
first_fault p target fs gs [] = None
first_fault p target fs gs (l ∷ ls) =
    or_later (length gs + 1) (fault p target fs gs l) (first_fault p target fs (gs ++ line_value fs gs l ∷ []) ls)

-- whether two lists of terms are one
abbrev pub same_terms : Poly → Poly → Bool
same_terms [] [] = true
same_terms [] (t ∷ g) = false
same_terms (s ∷ f) [] = false
same_terms (s ∷ f) (t ∷ g) = s.0 == t.0 && same_tree s.1 t.1 && same_terms f g

abbrev pub or_claim : Option (DerivationFault × ℕ) → Bool → Option (DerivationFault × ℕ)
or_claim (Some x) same = Some x
or_claim None true = None
or_claim None false = Some (NotTheClaim, 0)

-- What keeps the lines from being a derivation of `g`: the first faulty line, or that the last polynomial is another one.
-- The last polynomial and `g` are compared by their normal forms.
abbrev pub claim_fault : ℕ → List ℕ → List Form → Poly → List Line → Option (DerivationFault × ℕ)
claim_fault p target fs g ls = or_claim (first_fault p target fs [] ls) (same_terms (normal p (last_value fs ls)) (normal p g))

-- ---- the limits that a derivation keeps where it is to be written as text and read back

-- monomials over the first n generators, of degree at most 64
abbrev pub AreMonos : ℕ → List Tree → Type 0
AreMonos n [] = Unit {0}
AreMonos n (m ∷ ms) = (are_below n m ≡ true) × (degree m ≤ 64) × AreMonos n ms

-- residues, and numbers of at most 18 digits
abbrev pub AreSumItems : ℕ → List (ℕ × ℕ) → Type 0
AreSumItems p [] = Unit {0}
AreSumItems p (c ∷ cs) = (c.0 < p) × (c.1 < 10 ^ 18) × AreSumItems p cs

-- THE LIMITS OF A LINE: numbers of at most 18 digits, monomials over the first n generators of degree at most 64, coefficients
-- that are residues, and at most 64 monomials or items
abbrev pub IsLimited : ℕ → ℕ → Line → Type 0
IsLimited p n (Instance i ms) = (i < 10 ^ 18) × AreMonos n ms × (length ms ≤ 64)
IsLimited p n (Times k m) = (k < 10 ^ 18) × (are_below n m.1 ≡ true) × (degree m.1 ≤ 64)
IsLimited p n (Sum cs) = AreSumItems p cs × (length cs ≤ 64)

-- a derivation of `g` of fewer than 10^18 lines, each within the limits
pub record IsLimitedDerivation (p : ℕ) (target : List ℕ) (fs : List Form) (g : Poly) (ls : List Line) : Type 0 where
  pub derives : IsDerivation p target fs g ls
  pub few : length ls < 10 ^ 18
  pub limited : Each (IsLimited p (length target)) ls

-- there is such a derivation
pub record HasLimitedDerivation (p : ℕ) (target : List ℕ) (fs : List Form) (g : Poly) : Type 0 where
  pub lines : List Line
  pub are : IsLimitedDerivation p target fs g lines
