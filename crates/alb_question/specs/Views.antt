-- What contracts see of questions, findings and topics.
use Rattle.std.specs.Prelude.{ℕ, List, length, Some, All, IsTrue}
use Rattle.alb_mono.specs.Tree.{are_below}
use Rattle.alb_poly.specs.Poly.{Poly, AreResidues}
use Rattle.alb_problem.specs.Problem.{IsAccepted}
use Rattle.alb_table.specs.RightTable.{rules_view}
use Rattle.alb_table.specs.End.{end_of}
use Rattle.alb_query.specs.Answer.{IsOver}
use Rattle.alb_query.specs.Views.{answer_of}
use Rattle.alb_trace.specs.Deriver.{IsDeriverFor}
use Rattle.alb_trace.specs.Proof.{shown, CanBePrinted}
use Rattle.alb_question.specs.Question.{Shot, IsBuilt}
use Rattle.alb_question.specs.Question as asking
use Rattle.alb_question.specs.declared.question.Question.{Question}
use Rattle.alb_question.specs.declared.question.Question.TheVariants as question
use Rattle.alb_question.specs.declared.finding.Finding.{Finding}
use Rattle.alb_question.specs.declared.finding.Finding.TheVariants as finding
use Rattle.alb_question.specs.declared.topic.Topic.{Topic}

abbrev pub question_of : Question → asking.Question
question_of (question.Polynomial g) = asking.Polynomial g
question_of (question.Prove g) = asking.Prove g
question_of question.Dimensions = asking.Dimensions
question_of question.Products = asking.Products

abbrev pub finding_of : Finding → asking.Finding
finding_of (finding.Answered a) = asking.Answered (answer_of a)
finding_of (finding.Proved a s) = asking.Proved (answer_of a) (shown s)
finding_of finding.OfDimensions = asking.OfDimensions
finding_of finding.OfProducts = asking.OfProducts

-- a polynomial over the field and over the first `n` generators
pub record IsPolyOver (p n : ℕ) (g : Poly) : Type 0 where
  pub residues : AreResidues p g
  pub known : All (λ t. IsTrue (are_below n t.1)) g

-- a question about such a polynomial, or about the table itself
abbrev pub IsQuestionOver : ℕ → ℕ → asking.Question → Type 0
IsQuestionOver p n (asking.Polynomial g) = IsPolyOver p n g
IsQuestionOver p n (asking.Prove g) = IsPolyOver p n g
IsQuestionOver p n asking.Dimensions = Unit {0}
IsQuestionOver p n asking.Products = Unit {0}

-- what is found can be printed with `n` letters
abbrev pub IsPrintable : ℕ → ℕ → Finding → Type 0
IsPrintable p n (finding.Answered a) = IsOver p n (answer_of a)
IsPrintable p n (finding.Proved a s) = IsOver p n (answer_of a) × CanBePrinted p n s
IsPrintable p n other = Unit {0}

-- the table of a topic, with the end of its building
abbrev pub shot_of : Topic → Shot
shot_of t = record { table = t.tables; end = Some (end_of t.end) }

-- the problem of a topic is accepted, its table is the one at which the building ends, and its derivations are by this table
pub record IsTopic (t : Topic) : Type 0 where
  pub accepted : IsAccepted t.problem
  pub built : IsBuilt (rules_view t.problem.rules) (shot_of t)
  pub deriver : IsDeriverFor (rules_view t.problem.rules) t.tables t.deriver
