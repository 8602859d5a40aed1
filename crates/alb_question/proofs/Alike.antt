-- The building of a problem ends at one degree and in one way, and right tables of one degree give answers that print the same.
use Rattle.std.proofs.Common.{◌≡◌, ℕ, ◌<◌, List, Some, refl, sym, ap, ap₂, ◌∙◌, subst}
use Rattle.alb_poly.specs.Poly.{Poly}
use Rattle.alb_problem.specs.Builder.{Builder, forms_of}
use Rattle.alb_problem.proofs.SoundLemmas.{table-positive}
use Rattle.alb_table.specs.End.{End}
use Rattle.alb_table.specs.RightTable.{IsRightFor}
use Rattle.alb_table.specs.Table.{Table}
use Rattle.alb_query.specs.Answer.{Answer, IsAnswer}
use Rattle.alb_answer.specs.Answers.{answer_line}
use Rattle.alb_unique.specs.Laws.{AreRightFor}
use Rattle.alb_unique.proofs.SamePrints.{print-alike}
use Rattle.alb_unique.proofs.UniqueAnswer.{answer-unique}
use Rattle.alb_unique.proofs.UniqueEnd.{end-unique}
use Rattle.alb_question.specs.Question.{Shot, Pair, pair_of, rules_of, IsBuilt, Question, Finding, IsFinding, answer_text}
use Rattle.alb_question.specs.Question as asking
use Rattle.alb_question.specs.Laws.{IsProblem, BuiltIsUnique, AnswersPrintAlike}
use Rattle.alb_question.proofs.ProblemRules.{problem-multilinear, problem-high}

two-right : (b : Builder) (t u : Table) → IsProblem b → IsRightFor (rules_of b) t → IsRightFor (rules_of b) u → AreRightFor (forms_of b) t u
two-right b t u h one other = record {
  multilinear = problem-multilinear b h.sound;
  high = problem-high b h.sound;
  table = one.table;
  other_table = other.table;
  field = other.field ∙ sym one.field;
  goal = other.target ∙ sym one.target;
  right = one.right;
  other_right = other.right;
}

pub built-unique : BuiltIsUnique
built-unique b s u h one other =
    let e = end-unique (forms_of b) s.table u.table one.end other.end (two-right b s.table u.table h one.right other.right) one.ends other.ends in
    ap₂ (λ d x. record { degree = d; end = x }) e.0 (one.known ∙ ap (λ (x : End). Some x) e.1 ∙ sym other.known)

-- the answer to a polynomial is the same
same-answer : (b : Builder) (t u : Table) (g : Poly) (x y : Answer) → IsProblem b → IsRightFor (rules_of b) t → IsRightFor (rules_of b) u → t.degree ≡ u.degree
    → IsAnswer t.p (forms_of b) t.target t.degree g x → IsAnswer u.p (forms_of b) u.target u.degree g y → x ≡ y
same-answer b t u g x y h one other same is k =
    let field : u.p ≡ t.p = other.field ∙ sym one.field in
    let goal : u.target ≡ t.target = other.target ∙ sym one.target in
    let k' : IsAnswer t.p (forms_of b) t.target t.degree g y =
    subst (λ p. IsAnswer p (forms_of b) t.target t.degree g y) field
    (subst (λ e. IsAnswer u.p (forms_of b) e t.degree g y) goal (subst (λ d. IsAnswer u.p (forms_of b) u.target d g y) (sym same) k)) in
    answer-unique t.p (forms_of b) t.target t.degree g x y (subst (λ p. 0 < p) (sym one.field) (table-positive b.field h.sound.field)) (problem-multilinear b h.sound) is k'

same-line : (b : Builder) (t u : Table) (g : Poly) (x y : Answer) → IsProblem b → IsRightFor (rules_of b) t → IsRightFor (rules_of b) u → t.degree ≡ u.degree
    → IsAnswer t.p (forms_of b) t.target t.degree g x → IsAnswer u.p (forms_of b) u.target u.degree g y
    → answer_line t.p b.letters t.degree x ≡ answer_line u.p b.letters u.degree y
same-line b t u g x y h one other same is k =
    let field : u.p ≡ t.p = other.field ∙ sym one.field in
    ap (λ p. answer_line p b.letters t.degree x) (sym field) ∙ ap (λ d. answer_line u.p b.letters d x) same ∙ ap (answer_line u.p b.letters u.degree) (same-answer b t u g x y h one other same is k)

pub answers-alike : AnswersPrintAlike
answers-alike b t u (asking.Polynomial g) (asking.Answered x) (asking.Answered y) h one other same is k = same-line b t u g x y h one other same is k
answers-alike b t u (asking.Prove g) (asking.Proved x s) (asking.Proved y z) h one other same is k = same-line b t u g x y h one other same is.answer k.answer
answers-alike b t u asking.Dimensions asking.OfDimensions asking.OfDimensions h one other same is k =
    (print-alike (forms_of b) t u b.letters (two-right b t u h one other) same).0
answers-alike b t u asking.Products asking.OfProducts asking.OfProducts h one other same is k =
    (print-alike (forms_of b) t u b.letters (two-right b t u h one other) same).1
answers-alike b t u q f g h one other same is k = search
