-- The rules of an accepted problem, and its topics.
use Rattle.std.proofs.Common.{◌≡◌, ℕ, ◌+◌, ◌<◌, ◌^◌, Bool, true, false, List, [], ◌∷◌, length, sum, All, Some, None, refl, subst, arith}
use Rattle.std.specs.Prelude.{if◌then◌else◌, nat_le, ◌==◌}
use Rattle.std.proofs.lemmas.Bool.Decides.{nat_tests}
use Rattle.alb_poly.specs.Instance as instances
use Rattle.alb_poly.specs.Consequence.{forms, AreMultilinear}
use Rattle.alb_poly.proofs.Multilinear.{sum_cons}
use Rattle.alb_problem.specs.Builder.{Builder, finish_refusal, forms_of, IsSoundProblem}
use Rattle.alb_problem.specs.Problem.{problem, IsAccepted}
use Rattle.alb_problem.specs.Builder as refusals
use Rattle.alb_problem.proofs.SoundLemmas.{problem-forms, forms-multilinear, forms-rules}
use Rattle.alb_table.specs.Right.{AreHigh}
use Rattle.alb_table.specs.RightTable.{RulesView, rules_view, AreRules}
use Rattle.alb_table.specs.Table.{IsTarget}
use Rattle.alb_table.proofs.AcceptedRules.{accepted-rules}
use Rattle.alb_question.specs.Question.{Question, Finding, IsFinding, Shot, rules_of, IsBuilt}
use Rattle.alb_question.specs.Views.{shot_of, IsTopic}
use Rattle.alb_question.specs.declared.topic.Topic.{Topic}

finish-some : (a c : Bool) → (if a then Some refusals.NoGenerators else if c then Some refusals.FieldTooSmall else None) ≡ None → a ≡ false
finish-some true c h = absurd (cc)
finish-some false c h = refl

some_sum : (ns : List ℕ) → 0 < length ns → All (λ n. 0 < n) ns → 0 < sum ns
some_sum [] some h = absurd (omega arith)
some_sum (n ∷ ns) some h = let first : 0 < n = h 0 n (omega arith) in omega (arith, first, sum_cons n ns)

-- what an accepted problem goes up to
pub problem-target : (b : Builder) → IsSoundProblem b → finish_refusal b ≡ None → IsTarget b.counts
problem-target b h accepted =
    let some : (length b.letters == 0) ≡ false = finish-some (length b.letters == 0) (nat_le b.field (sum b.counts)) accepted in
    let positive : 0 < length b.letters = grind (arith, nat_tests, some) in
    record { positive = h.generators.positive; some = some_sum b.counts (omega (arith, positive, h.generators.named)) h.generators.positive; small = h.generators.low }

-- the forms of an accepted problem
pub problem-multilinear : (b : Builder) → IsSoundProblem b → AreMultilinear (forms_of b)
problem-multilinear b h = forms-multilinear b.field (forms_of b) (problem-forms b h).linearized

pub problem-high : (b : Builder) → IsSoundProblem b → AreHigh (forms_of b)
problem-high b h = (problem-forms b h).high

-- a topic is about what its problem says
pub topic-built : (t : Topic) → IsTopic t → IsBuilt (rules_of (problem t.problem)) (shot_of t)
topic-built t h =
    let over : List instances.Form → RulesView = λ fs. record { p = t.problem.rules.field; target = t.problem.rules.target; forms = fs } in
    subst (λ fs. IsBuilt (over fs) (shot_of t)) (forms-rules t.problem h.accepted) h.built

-- what is found by the table of a topic is found for its problem
pub topic-finding : (t : Topic) (q : Question) (f : Finding) → IsTopic t → IsFinding (rules_view t.problem.rules) t.tables q f → IsFinding (rules_of (problem t.problem)) t.tables q f
topic-finding t q f h is =
    let over : List instances.Form → RulesView = λ fs. record { p = t.problem.rules.field; target = t.problem.rules.target; forms = fs } in
    subst (λ fs. IsFinding (over fs) t.tables q f) (forms-rules t.problem h.accepted) is

-- the rules of a topic are rules that a table is built for
pub topic-rules : (t : Topic) → IsTopic t → AreRules (rules_view t.problem.rules)
topic-rules t h = accepted-rules t.problem h.accepted
