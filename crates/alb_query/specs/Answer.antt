-- What a question about a polynomial is answered.
use Rattle.std.specs.Prelude.{◌≡◌, ℕ, nat_lt, Bool, true, false, ◌&&◌, if◌then◌else◌, List, [], ◌∷◌, length, Option, None, Some, All, IsTrue}
use Rattle.alb_mono.specs.Listing.{Each}
use Rattle.alb_mono.specs.Tree.{Tree, are_below, type_of, type_le}
use Rattle.alb_poly.specs.Poly.{Poly, AreResidues, IsDescending, greatest_degree}
use Rattle.alb_poly.specs.Instance.{Form}
use Rattle.alb_poly.specs.Consequence.{IsConsequence}
use Rattle.alb_table.specs.Right.{IsNormal, IsCongruent}

pub data Answer : Type 0 where
  Zero : Answer
  NotZero : Poly → Answer
  NotBuilt : ℕ → Answer
  OutOfType : Tree → Answer

-- the monomial's type is at most the target
abbrev pub fits_target : List ℕ → Tree → Bool
fits_target target m = are_below (length target) m && type_le (type_of (length target) m) target

-- the first monomial whose type is not at most the target
abbrev pub misfit : List ℕ → Poly → Option Tree
misfit target [] = None
misfit target (t ∷ g) = if fits_target target t.1 then misfit target g else Some t.1

-- `f` is the normal form of `g`: the combination of normal monomials that differs from it by a consequence
pub record IsNormalForm (p : ℕ) (fs : List Form) (g f : Poly) : Type 0 where
  pub descending : IsDescending f
  pub residues : AreResidues p f
  pub normal : Each (λ t. IsNormal p fs t.1) f
  pub congruent : IsCongruent p fs g f

-- the coefficients of an answer are residues, and its monomials are over the first `n` generators
abbrev pub IsOver : ℕ → ℕ → Answer → Type 0
IsOver p n Zero = Unit {0}
IsOver p n (NotZero f) = AreResidues p f × All (λ t. IsTrue (are_below n t.1)) f
IsOver p n (NotBuilt k) = Unit {0}
IsOver p n (OutOfType m) = IsTrue (are_below n m)

-- the answer to `g` within the table
abbrev pub AnswersWithin : ℕ → List Form → Poly → Answer → Type 0
AnswersWithin p fs g Zero = IsConsequence p fs g
AnswersWithin p fs g (NotZero f) = (IsConsequence p fs g → ⊥) × IsNormalForm p fs g f
AnswersWithin p fs g other = ⊥

-- the answer to `g`, whose types are at most the target: whether its degree is above the table's
abbrev pub AnswersFitting : Bool → ℕ → List Form → Poly → Answer → Type 0
AnswersFitting true p fs g a = a ≡ NotBuilt (greatest_degree g)
AnswersFitting false p fs g a = AnswersWithin p fs g a

abbrev pub AnswersUnless : Option Tree → ℕ → List Form → ℕ → Poly → Answer → Type 0
AnswersUnless None p fs d g a = AnswersFitting (nat_lt d (greatest_degree g)) p fs g a
AnswersUnless (Some m) p fs d g a = a ≡ OutOfType m

-- THE ANSWER to `g` at the degree `d`
abbrev pub IsAnswer : ℕ → List Form → List ℕ → ℕ → Poly → Answer → Type 0
IsAnswer p fs target d g a = AnswersUnless (misfit target g) p fs d g a
