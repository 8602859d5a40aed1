-- What the judge of tables answers.
use Rattle.std.specs.Prelude.{◌≡◌, ◌<◌, ◌≤◌, ℕ, sum, List, [], length, None, Some, Result, Ok, Err}
use Rattle.gf_field.specs.Modular.{IsInTable}
use Rattle.alb_mono.specs.Listing.{Each}
use Rattle.alb_poly.specs.Poly.{Poly}
use Rattle.alb_poly.specs.Instance.{Form, Identity, AreHomogeneous, AreSameForms, linearizations, polynomials}
use Rattle.alb_poly.specs.Textbook.{IsTextConsequence}
use Rattle.alb_linear.specs.Identity.{IsLinearized}
use Rattle.alb_problem.specs.Satisfied.{AreSameVectors}
use Rattle.alb_rows.specs.Row.{comb, AreCellResidues}
use Rattle.alb_check.specs.declared.check.Counter.{Counter}
use Rattle.alb_check.specs.declared.error.TableError.{TableError}
use Rattle.alb_check.specs.Raw.{Raw, shape_fault}
use Rattle.alb_check.specs.TableAlgebra.{value, TableSatisfies, AreZeroAtTuples, FirstFailure}
use Rattle.alb_check.specs.declared.error.TableError.TheVariants as errors

-- ---- what the judge of tables answers

-- what the rules of an accepted problem are: a prime above the degree of the target, and few linearized forms
pub record AreCheckRules (p : ℕ) (target : List ℕ) (fs : List Form) : Type 0 where
  pub prime : IsInTable p
  pub large : sum target < p
  pub low : sum target ≤ 12
  pub long : length target ≤ 26
  pub few : length fs ≤ 32
  pub linearized : Each (IsLinearized p) fs

-- the table has its shape, and every form is zero at all tuples of its elements
pub record IsModel (p : ℕ) (target : List ℕ) (fs : List Form) (t : Raw) : Type 0 where
  pub shape : shape_fault target p t ≡ None
  pub zero : AreZeroAtTuples p t fs

-- a row of residues with the value of `g`, which is not zero
pub record Refutes (p : ℕ) (target : List ℕ) (fs : List Form) (t : Raw) (g : Poly) (c : Counter) : Type 0 where
  pub model : IsModel p target fs t
  pub is_value : AreSameVectors p (comb c.value) (value t g)
  pub nonzero : AreSameVectors p (value t g) [] → ⊥
  pub residues : AreCellResidues p c.value

-- a value of zero does not
pub record IsValueZero (p : ℕ) (target : List ℕ) (fs : List Form) (t : Raw) (g : Poly) : Type 0 where
  pub model : IsModel p target fs t
  pub zero : AreSameVectors p (value t g) []

-- the first fault, or a value that is not zero
abbrev pub TableAnswers : ℕ → List ℕ → List Form → Raw → Poly → Result Counter TableError → Type 0
TableAnswers p target fs t g (Ok c) = Refutes p target fs t g c
TableAnswers p target fs t g (Err (errors.BadShape r)) = shape_fault target p t ≡ Some r
TableAnswers p target fs t g (Err (errors.Fails i ks)) = (shape_fault target p t ≡ None) × FirstFailure p t fs i ks.items
TableAnswers p target fs t g (Err errors.ValueZero) = IsValueZero p target fs t g
TableAnswers p target fs t g (Err errors.NoMemory) = Unit {0}

-- the table refutes the polynomial, or there was no memory
abbrev pub IsTableAccepted : Result Counter TableError → Type 0
IsTableAccepted (Ok c) = Unit {0}
IsTableAccepted (Err errors.NoMemory) = Unit {0}
IsTableAccepted (Err other) = ⊥

-- each identity of every list that the forms stand for is satisfied
abbrev pub SatisfiesIdentities : ℕ → List Form → Raw → Type 0
SatisfiesIdentities p ls t =
    (fs : List Identity) → AreHomogeneous fs → AreSameForms p ls (linearizations fs) → Each (λ f. TableSatisfies p t f.terms) fs

-- `g` is a textbook consequence of no list that the forms stand for
abbrev pub RefutesText : ℕ → List Form → Poly → Type 0
RefutesText p ls g =
    (fs : List Identity) → AreHomogeneous fs → AreSameForms p ls (linearizations fs) → IsTextConsequence p (polynomials fs) g → ⊥

-- every form is zero at all tuples, or the first that is not
abbrev pub FindsFailure : ℕ → List Form → Raw → Result (Unit {0}) TableError → Type 0
FindsFailure p fs t (Ok u) = AreZeroAtTuples p t fs
FindsFailure p fs t (Err (errors.Fails i ks)) = FirstFailure p t fs i ks.items
FindsFailure p fs t (Err errors.NoMemory) = Unit {0}
FindsFailure p fs t (Err other) = ⊥

-- ---- the verdict on a table

-- a value that is not zero; the first rule of shape that fails; the number of the first form that is not zero at all tuples of
-- elements, with the first tuple where it is not; or a value of zero
pub data TableVerdict : Type 0 where
  Refuted : TableVerdict
  BadShape : ℕ → TableVerdict
  Fails : ℕ → List ℕ → TableVerdict
  ValueZero : TableVerdict

-- what the verdict says of the table
abbrev pub IsTableVerdict : ℕ → List ℕ → List Form → Raw → Poly → TableVerdict → Type 0
IsTableVerdict p target fs t g Refuted = IsModel p target fs t × (AreSameVectors p (value t g) [] → ⊥)
IsTableVerdict p target fs t g (BadShape r) = shape_fault target p t ≡ Some r
IsTableVerdict p target fs t g (Fails i ks) = (shape_fault target p t ≡ None) × FirstFailure p t fs i ks
IsTableVerdict p target fs t g ValueZero = IsValueZero p target fs t g
