-- Laws that functions of `laws` state.
use Rattle.std.specs.Prelude.{◌≡◌, ℕ, true, List, [], ◌∷◌, ◌++◌, Option, None, Some, codes}
use Rattle.alb_io.specs.Reader.{lines_of}
use Rattle.alb_poly.specs.Poly.{Poly}
use Rattle.alb_problem.specs.Builder.{Builder, finish_refusal, forms_of, IsSoundProblem}
use Rattle.alb_table.specs.RightTable.{IsRightFor}
use Rattle.alb_table.specs.Table.{Table}
use Rattle.alb_query.specs.Answer.{Zero, NotZero}
use Rattle.alb_evidence.specs.Block.{evidence_of}
use Rattle.alb_evidence.specs.Reads.{HasNoEnd}
use Rattle.alb_judge.specs.Verdict.{Verdict, AcceptedZero, AcceptedNotZero, IsVerdict}
use Rattle.alb_question.specs.Question.{Shot, pair_of, rules_of, IsBuilt, Question, Prove, Finding, Proved, IsFinding, answer_text, proof_text, IsTrueOf}

-- an accepted problem
pub record IsProblem (b : Builder) : Type 0 where
  pub sound : IsSoundProblem b
  pub accepted : finish_refusal b ≡ None

-- the building of each accepted problem ends
abbrev pub EachIsBuilt : Type 0
EachIsBuilt = (b : Builder) → IsProblem b → (s : Shot) × IsBuilt (rules_of b) s

-- it ends at one degree and in one way
abbrev pub BuiltIsUnique : Type 0
BuiltIsUnique = (b : Builder) (s u : Shot) → IsProblem b → IsBuilt (rules_of b) s → IsBuilt (rules_of b) u → pair_of s ≡ pair_of u

-- for each question something is found by each right table
abbrev pub EachIsFound : Type 0
EachIsFound = (b : Builder) (t : Table) (q : Question) → IsProblem b → IsRightFor (rules_of b) t → (f : Finding) × IsFinding (rules_of b) t q f

-- what is found is true of the problem's identities
abbrev pub FindingsAreTrue : Type 0
FindingsAreTrue = (b : Builder) (t : Table) (q : Question) (f : Finding) → IsProblem b → IsRightFor (rules_of b) t → IsFinding (rules_of b) t q f
    → IsTrueOf t.p b.identities q f

-- right tables of one degree give answers that print the same, but for the evidence
abbrev pub AnswersPrintAlike : Type 0
AnswersPrintAlike = (b : Builder) (t u : Table) (q : Question) (f g : Finding) → IsProblem b → IsRightFor (rules_of b) t → IsRightFor (rules_of b) u → t.degree ≡ u.degree
    → IsFinding (rules_of b) t q f → IsFinding (rules_of b) u q g → answer_text b.letters t f ≡ answer_text b.letters u g

-- ---- evidence

-- the verdict that evidence for an answer gets, None where there is none
abbrev pub verdict_of : Finding → Option Verdict
verdict_of (Proved Zero s) = Some AcceptedZero
verdict_of (Proved (NotZero f) s) = Some AcceptedNotZero
verdict_of other = None

-- the text has the lines of a block and then `end`, and the block gets this verdict, as evidence for `g`
pub record IsBlockFor (b : Builder) (g : Poly) (text : List ℕ) (v : Verdict) : Type 0 where
  pub lines : List (List ℕ)
  pub cut : lines_of text ≡ lines ++ codes "end" ∷ []
  pub no_end : HasNoEnd lines
  pub verdict : IsVerdict b.field b.counts (forms_of b) g (evidence_of b.field b.letters lines true) v

-- WHAT IS PRINTED AS EVIDENCE IS ACCEPTED, read back from its text
abbrev pub ProofsAreAccepted : Type 0
ProofsAreAccepted = (b : Builder) (t : Table) (g : Poly) (f : Finding) (v : Verdict) → IsProblem b → IsRightFor (rules_of b) t → IsFinding (rules_of b) t (Prove g) f
    → verdict_of f ≡ Some v → IsBlockFor b g (proof_text b.letters t f) v
