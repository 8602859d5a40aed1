-- What is found is true of the identities.
use Rattle.std.proofs.Common.{arith, ◌≡◌, ℕ, ◌<◌, Bool, true, false, List, [], ◌∷◌, length, map, sum, Option, Some, None, refl, sym, subst, nat_lt}
use Rattle.std.specs.Prelude.{if◌then◌else◌}
use Rattle.gf_field.proofs.Table.{IsPrime-from_table}
use Rattle.alb_mono.specs.Listing.{Each}
use Rattle.alb_mono.specs.Tree.{Tree, type_le}
use Rattle.alb_mono.proofs.Both.{and_left, and_right}
use Rattle.alb_mono.proofs.Leaves.{below_from_test}
use Rattle.alb_poly.specs.Poly.{Poly, greatest_degree}
use Rattle.alb_poly.specs.Instance.{IsAtMost}
use Rattle.alb_poly.specs.Consequence.{IsConsequence}
use Rattle.alb_poly.specs.Textbook.{IsTextConsequence}
use Rattle.alb_problem.specs.Builder.{Builder, with_degrees, finish_refusal, forms_of, IsSoundProblem}
use Rattle.alb_poly.proofs.AtMost.{IsWithin-terms}
use Rattle.alb_problem.proofs.TextbookLemmas.{MatchesTextbook-linearizations}
use Rattle.alb_table.specs.Table.{Table}
use Rattle.alb_table.specs.Right.{difference}
use Rattle.alb_query.specs.Answer.{Answer, Zero, NotZero, NotBuilt, OutOfType, fits_target, misfit, IsAnswer, AnswersUnless, AnswersFitting, AnswersWithin}
use Rattle.alb_check.specs.Raw.{Raw, IsRaw}
use Rattle.alb_check.specs.TableAlgebra.{TableSatisfies}
use Rattle.alb_check.specs.Verdict as tables
use Rattle.alb_check.proofs.TableLemmas.{shaped, nilpotent, le_sum}
use Rattle.alb_check.proofs.RefuteLemmas.{all_satisfied}
use Rattle.alb_table.proofs.TableLemmas.{each-unmap}
use Rattle.alb_trace.specs.Proof.{Shown, ByLines, ByTable, ByNothing, Shows}
use Rattle.alb_question.specs.Question.{IsTrueAnswer, IsCounterexample, IsTrueProof, IsTrueOf, Question, Finding, IsFinding, rules_of}
use Rattle.alb_question.specs.Question as asking
use Rattle.alb_question.specs.Laws.{FindingsAreTrue}
use Rattle.alb_table.specs.RightTable.{IsRightFor}
use Rattle.alb_problem.proofs.SoundLemmas.{text-consequence, table-positive, same-named, all-homogeneous, polynomials-named, accepted-large}

fits-first : (b : Bool) (target : List ℕ) (m : Tree) (rest : Option Tree) → fits_target target m ≡ b → (if b then rest else Some m) ≡ None → (fits_target target m ≡ true) × (rest ≡ None)
fits-first true target m rest is k = (is, k)
fits-first false target m rest is k = absurd (cc)

-- a polynomial without a misfit has no type that is not at most the target
fitting : (target : List ℕ) (g : Poly) → misfit target g ≡ None → Each (λ t. IsAtMost target t.1) g
fitting target [] h = tt
fitting target (t ∷ g) h =
    let k = fits-first (fits_target target t.1) target t.1 (misfit target g) refl h in
    (record { below = below_from_test (length target) t.1 (and_left _ _ k.0); counts = and_right _ _ k.0 }, fitting target g k.1)

-- within the target of an accepted problem the textbook's consequences are those of the linearizations
from-text : (b : Builder) (g : Poly) → IsSoundProblem b → finish_refusal b ≡ None → misfit b.counts g ≡ None → IsTextConsequence b.field b.identities g → IsConsequence b.field (forms_of b) g
from-text b g h accepted fit c =
    (MatchesTextbook-linearizations b.field b.counts (forms_of b) (map with_degrees b.identities) (IsPrime-from_table b.field h.field) (accepted-large b accepted) (all-homogeneous b h)
    (same-named b.field b.identities) g (IsWithin-terms b.field b.counts g (table-positive b.field h.field) (fitting b.counts g fit))).1
    (subst (λ fs. IsTextConsequence b.field fs g) (sym (polynomials-named b.identities)) c)

meant-within : (b : Builder) (g : Poly) (a : Answer) → IsSoundProblem b → finish_refusal b ≡ None → misfit b.counts g ≡ None → AnswersWithin b.field (forms_of b) g a → IsTrueAnswer b.field b.identities g a
meant-within b g Zero h accepted fit is = text-consequence b g h is
meant-within b g (NotZero f) h accepted fit is = (λ c. is.0 (from-text b g h accepted fit c), text-consequence b (difference b.field g f) h is.1.congruent.differ)
meant-within b g (NotBuilt n) h accepted fit is = tt
meant-within b g (OutOfType m) h accepted fit is = tt

meant-fitting : (b : Builder) (g : Poly) (a : Answer) (high : Bool) → IsSoundProblem b → finish_refusal b ≡ None → misfit b.counts g ≡ None → AnswersFitting high b.field (forms_of b) g a
    → IsTrueAnswer b.field b.identities g a
meant-fitting b g a true h accepted fit is = subst (IsTrueAnswer b.field b.identities g) (sym is) tt
meant-fitting b g a false h accepted fit is = meant-within b g a h accepted fit is

meant-unless : (b : Builder) (d : ℕ) (g : Poly) (a : Answer) (o : Option Tree) → misfit b.counts g ≡ o → IsSoundProblem b → finish_refusal b ≡ None → AnswersUnless o b.field (forms_of b) d g a
    → IsTrueAnswer b.field b.identities g a
meant-unless b d g a None fit h accepted is = meant-fitting b g a (nat_lt d (greatest_degree g)) h accepted fit is
meant-unless b d g a (Some m) fit h accepted is = subst (IsTrueAnswer b.field b.identities g) (sym is) tt

-- an answer means what it says of the identities
pub answer-meant : (b : Builder) (t : Table) (g : Poly) (a : Answer) → IsSoundProblem b → finish_refusal b ≡ None → IsRightFor (rules_of b) t → IsAnswer t.p (forms_of b) t.target t.degree g a
    → IsTrueAnswer t.p b.identities g a
answer-meant b t g a h accepted table is =
    let at_field : IsAnswer b.field (forms_of b) b.counts t.degree g a =
    subst (λ p. IsAnswer p (forms_of b) b.counts t.degree g a) table.field (subst (λ target. IsAnswer t.p (forms_of b) target t.degree g a) table.target is) in
    subst (λ p. IsTrueAnswer p b.identities g a) (sym table.field) (meant-unless b t.degree g a (misfit b.counts g) refl h accepted at_field)

-- ---- what is shown

-- a table with the verdict that it refutes is a counterexample
table-counterexample : (b : Builder) (g : Poly) (r : Raw) → IsSoundProblem b → finish_refusal b ≡ None → IsRaw b.field (length b.counts) r → tables.IsTableVerdict b.field b.counts (forms_of b) r g tables.Refuted
    → IsCounterexample b.field b.identities g r
table-counterexample b g r h accepted raw is =
    let right = shaped b.counts b.field r is.0.shape in
    let within : type_le r.top b.counts ≡ true = and_left (type_le r.top b.counts) _ (and_right (nat_lt 0 (sum r.top)) _ right.top) in
    let below : sum r.top < b.field = omega (arith, accepted-large b accepted, le_sum r.top b.counts raw.top within) in
    record {
      nilpotent = nilpotent b.field b.counts r raw right;
      satisfies = each-unmap (λ i. TableSatisfies b.field r i.terms) with_degrees b.identities
          (all_satisfied b.field b.counts r raw right (IsPrime-from_table b.field h.field) below (forms_of b) (map with_degrees b.identities) is.0.zero (all-homogeneous b h) (same-named b.field b.identities));
      nonzero = is.1;
    }

-- what is shown of an answer is what it is to be
pub shown-meant : (b : Builder) (t : Table) (g : Poly) (a : Answer) (s : Shown) → IsSoundProblem b → finish_refusal b ≡ None → IsRightFor (rules_of b) t → Shows (forms_of b) t g a s → IsTrueProof t.p b.identities g s
shown-meant b t g Zero (ByLines ls) h accepted table e = tt
shown-meant b t g (NotZero f) (ByTable r) h accepted table e =
    let raw : IsRaw b.field (length b.counts) r = subst (λ p. IsRaw p (length b.counts) r) table.field (subst (λ target. IsRaw t.p (length target) r) table.target e.over) in
    let is : tables.IsTableVerdict b.field b.counts (forms_of b) r g tables.Refuted =
    subst (λ p. tables.IsTableVerdict p b.counts (forms_of b) r g tables.Refuted) table.field (subst (λ target. tables.IsTableVerdict t.p target (forms_of b) r g tables.Refuted) table.target e.refutes) in
    subst (λ p. IsCounterexample p b.identities g r) (sym table.field) (table-counterexample b g r h accepted raw is)
shown-meant b t g (NotBuilt n) ByNothing h accepted table e = tt
shown-meant b t g (OutOfType m) ByNothing h accepted table e = tt
shown-meant b t g a s h accepted table e = absurd e

-- ---- findings

pub findings-true : FindingsAreTrue
findings-true b t (asking.Polynomial g) (asking.Answered a) h right is = answer-meant b t g a h.sound h.accepted right is
findings-true b t (asking.Prove g) (asking.Proved a s) h right is =
    (answer-meant b t g a h.sound h.accepted right is.answer, shown-meant b t g a s h.sound h.accepted right is.shows)
findings-true b t q f h right is = tt
