-- What the judges of derivations answer.
use Rattle.std.specs.Prelude.{◌≡◌, ◌≤◌, ℕ, sum, List, length, Option, Some, None, Result, Ok, Err}
use Rattle.gf_field.specs.Modular.{IsInTable}
use Rattle.alb_mono.specs.Listing.{Each}
use Rattle.alb_poly.specs.Poly.{Poly}
use Rattle.alb_poly.specs.Instance.{Form, IsAtMost}
use Rattle.alb_linear.specs.Identity.{IsLinearized}
use Rattle.alb_deriv.specs.Derivation.{DerivationFault, BadIdentity, WrongCount, LaterLine, OutOfType, NotTheClaim}
use Rattle.alb_deriv.specs.declared.error.DerivError.{DerivError}
use Rattle.alb_deriv.specs.declared.error.DerivError.TheVariants as errors
use Rattle.alb_deriv.specs.declared.values.LineFault.{LineFault}
use Rattle.alb_deriv.specs.declared.values.LineFault.TheVariants as faults

-- the error tells this fault, unless memory ran out
abbrev pub TellsFault : DerivError → Option (DerivationFault × ℕ) → Type 0
TellsFault (errors.BadIdentity k) found = found ≡ Some (BadIdentity, k)
TellsFault (errors.WrongCount k) found = found ≡ Some (WrongCount, k)
TellsFault (errors.LaterLine k) found = found ≡ Some (LaterLine, k)
TellsFault (errors.OutOfType k) found = found ≡ Some (OutOfType, k)
TellsFault errors.NotTheClaim found = found ≡ Some (NotTheClaim, 0)
TellsFault errors.NoMemory found = Unit {0}

-- no fault, and this polynomial; or the fault
abbrev pub DerivationAnswers : Result Poly DerivError → Option (DerivationFault × ℕ) → Poly → Type 0
DerivationAnswers (Ok g) found value = (found ≡ None) × (g ≡ value)
DerivationAnswers (Err e) found value = TellsFault e found

abbrev pub ClaimAnswers : Result (Unit {0}) DerivError → Option (DerivationFault × ℕ) → Type 0
ClaimAnswers (Ok u) found = found ≡ None
ClaimAnswers (Err e) found = TellsFault e found

-- every monomial is at most the target
abbrev pub IsPolyAtMost : List ℕ → Poly → Type 0
IsPolyAtMost target g = Each (λ t. IsAtMost target t.1) g

-- a target that types and degrees are measured by, and forms that are linearized
pub record AreDerivationRules (p : ℕ) (target : List ℕ) (fs : List Form) : Type 0 where
  pub prime : IsInTable p
  pub long : length target ≤ 26
  pub low : sum target ≤ 12
  pub linearized : Each (IsLinearized p) fs

-- no fault, and this polynomial; or the fault of a line
abbrev pub IsValue : Result Poly LineFault → Option DerivationFault → Poly → Type 0
IsValue (Ok g) found value = (found ≡ None) × (g ≡ value)
IsValue (Err faults.BadIdentity) found value = found ≡ Some BadIdentity
IsValue (Err faults.WrongCount) found value = found ≡ Some WrongCount
IsValue (Err faults.LaterLine) found value = found ≡ Some LaterLine
IsValue (Err faults.OutOfType) found value = found ≡ Some OutOfType
IsValue (Err faults.NoMemory) found value = Unit {0}

-- the fault of a line as an error
abbrev pub error_at : LineFault → ℕ → DerivError
error_at faults.BadIdentity k = errors.BadIdentity k
error_at faults.WrongCount k = errors.WrongCount k
error_at faults.LaterLine k = errors.LaterLine k
error_at faults.OutOfType k = errors.OutOfType k
error_at faults.NoMemory k = errors.NoMemory
