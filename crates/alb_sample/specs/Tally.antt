-- How many polynomials of a sample are answered zero, and how many not zero.
use Rattle.std.specs.Prelude.{◌≡◌, ℕ, ◌+◌, Bool, true, false, List, [], ◌∷◌, count_by}
use Rattle.alb_poly.specs.Poly.{Poly}
use Rattle.alb_query.specs.Answer.{Answer, Zero, NotZero, IsAnswer}
use Rattle.alb_table.specs.Table.{Table}
use Rattle.alb_sample.specs.Problem.{sample_forms}
use Rattle.alb_sample.specs.Sample.{polynomials}
use Rattle.alb_sample.specs.declared.tally.Kind.{Kind}
use Rattle.alb_sample.specs.declared.tally.Kind.TheVariants as kinds

-- the answer to a polynomial about the sample's problem, by the table
abbrev pub IsSampleAnswer : Table → Poly → Answer → Type 0
IsSampleAnswer t g a = IsAnswer t.p sample_forms t.target t.degree g a

-- each polynomial has its answer
abbrev pub AreAnswers : Table → List Poly → List Answer → Type 0
AreAnswers t [] [] = Unit {0}
AreAnswers t [] (a ∷ others) = ⊥
AreAnswers t (g ∷ gs) [] = ⊥
AreAnswers t (g ∷ gs) (a ∷ others) = IsSampleAnswer t g a × AreAnswers t gs others

abbrev pub is_zero : Answer → Bool
is_zero Zero = true
is_zero other = false

abbrev pub is_not_zero : Answer → Bool
is_not_zero (NotZero f) = true
is_not_zero other = false

-- THE COUNT of the answers to the polynomials of the numbers 1 to `n`, drawn from the state `s` on: `z` are Zero, and `y` NotZero
pub record IsTally (t : Table) (s n z y : ℕ) : Type 0 where
  pub answers : List Answer
  pub are : AreAnswers t (polynomials t s n) answers
  pub zeros : count_by is_zero answers ≡ z
  pub non_zeros : count_by is_not_zero answers ≡ y

-- ---- one polynomial after the other. Contracts of private functions alone speak of it.

abbrev pub kind_of : Answer → Kind
kind_of Zero = kinds.Zero
kind_of (NotZero f) = kinds.NotZero
kind_of other = kinds.Other

-- the answer to the polynomial is of this kind
pub record HasKind (t : Table) (g : Poly) (kind : Kind) : Type 0 where
  pub answer : Answer
  pub is : IsSampleAnswer t g answer
  pub kind_is : kind_of answer ≡ kind

-- a count of Zero, and of NotZero, with one more answer of a kind
abbrev pub zeros_with : ℕ → Kind → ℕ
zeros_with z kinds.Zero = z + 1
zeros_with z kind = z

abbrev pub non_zeros_with : ℕ → Kind → ℕ
non_zeros_with y kinds.NotZero = y + 1
non_zeros_with y kind = y
