-- What is printed as evidence is accepted.
use Rattle.std.proofs.Common.{◌≡◌, ℕ, ◌<◌, List, [], ◌∷◌, ◌++◌, length, Option, Some, None, Result, Ok, refl, sym, ap, subst, arith}
use Rattle.gf_field.proofs.Table.{IsPrime-from_table}
use Rattle.alb_poly.specs.Poly.{Poly}
use Rattle.alb_poly.specs.Instance as instances
use Rattle.alb_problem.specs.Builder.{Builder, forms_of}
use Rattle.alb_syntax.proofs.Kept.{table-small}
use Rattle.alb_table.specs.RightTable.{RulesView, IsRightFor}
use Rattle.alb_table.specs.Table.{Table, IsTarget}
use Rattle.alb_table.proofs.FirstLemmas.{few_generators}
use Rattle.alb_check.specs.Verdict as tables
use Rattle.alb_query.specs.Answer.{Answer, Zero, NotZero, NotBuilt, OutOfType}
use Rattle.alb_trace.specs.Proof.{Shown, ByLines, ByTable, ByNothing, Shows}
use Rattle.alb_evidence.specs.Block as block
use Rattle.alb_evidence.specs.Accepted.{ReadsBack, JudgeAccepts, IsAcceptedBack, IsProofOf, evidence_text}
use Rattle.alb_evidence.specs.Texts.{lines_text, table_text}
use Rattle.alb_evidence.proofs.TextLengths as evidence
use Rattle.alb_judge.specs.Verdict.{Verdict, AcceptedZero, AcceptedNotZero, IsVerdict, of_derivation}
use Rattle.alb_question.specs.Question.{rules_of, Finding, IsFinding, shown_text, answer_text, proof_text, finding_text}
use Rattle.alb_question.specs.Question as asking
use Rattle.alb_question.specs.Laws.{IsProblem, IsBlockFor, verdict_of, ProofsAreAccepted}
use Rattle.alb_question.proofs.ProblemRules.{problem-target}

-- the verdict on evidence that its judge accepts
abbrev verdict_on : block.Evidence → Verdict
verdict_on (block.Zero ls) = AcceptedZero
verdict_on (block.NotZero t) = AcceptedNotZero

judge-verdict : (p : ℕ) (target : List ℕ) (fs : List instances.Form) (g : Poly) (e : block.Evidence) → JudgeAccepts p target fs g e → IsVerdict p target fs g (Ok e) (verdict_on e)
judge-verdict p target fs g (block.Zero ls) h = ap of_derivation (sym h)
judge-verdict p target fs g (block.NotZero t) h = (tables.Refuted, h, refl)

some-letters : (ns : List ℕ) → IsTarget ns → 0 < length ns
some-letters [] h = absurd (omega (arith, h.some))
some-letters (n ∷ ns) h = omega arith

module _ (b : Builder) (h : IsProblem b) (g : Poly) where
  -- evidence about an accepted problem is read back
  read-back : (e : block.Evidence) → IsProofOf b.field b.counts (forms_of b) g e → IsAcceptedBack b.field b.letters b.counts (forms_of b) g e
  read-back e is =
      let target = problem-target b h.sound h.accepted in
      let few = few_generators b.counts target in
      let named = h.sound.generators.named in
      let some = some-letters b.counts target in
      evidence.proofs-accepted b.field b.letters b.counts (forms_of b) g e (IsPrime-from_table b.field h.sound.field).above_one (table-small b.field h.sound.field) h.sound.letters
      (omega (arith, some, named)) (omega (arith, few, named)) named is

  block-for : (e : block.Evidence) → IsProofOf b.field b.counts (forms_of b) g e → IsBlockFor b g (evidence_text b.field b.letters e) (verdict_on e)
  block-for e is =
      let a = read-back e is in
      record {
        lines = a.back.lines;
        cut = a.back.cut;
        no_end = a.back.no_end;
        verdict = subst (λ (r : Result block.Evidence block.BlockFault). IsVerdict b.field b.counts (forms_of b) g r (verdict_on e)) (sym a.back.says)
            (judge-verdict b.field b.counts (forms_of b) g e a.accepted);
      }

  module _ (t : Table) (right : IsRightFor (rules_of b) t) where
    over : (e : block.Evidence) → IsProofOf t.p t.target (forms_of b) g e → IsProofOf b.field b.counts (forms_of b) g e
    over e is = subst (λ p. IsProofOf p b.counts (forms_of b) g e) right.field (subst (λ target. IsProofOf t.p target (forms_of b) g e) right.target is)

    shown-block : (a : Answer) (x : Shown) (v : Verdict) → Shows (forms_of b) t g a x → verdict_of (asking.Proved a x) ≡ Some v → IsBlockFor b g (shown_text t.p b.letters x) v
    shown-block Zero (ByLines ls) v is e =
        let same : AcceptedZero ≡ v = cc in
        subst (IsBlockFor b g (lines_text t.p b.letters ls)) same
        (subst (λ p. IsBlockFor b g (lines_text p b.letters ls) AcceptedZero) (sym right.field) (block-for (block.Zero ls) (over (block.Zero ls) is)))
    shown-block (NotZero f) (ByTable r) v is e =
        let same : AcceptedNotZero ≡ v = cc in
        subst (IsBlockFor b g (table_text t.p b.letters r)) same
        (subst (λ p. IsBlockFor b g (table_text p b.letters r) AcceptedNotZero) (sym right.field) (block-for (block.NotZero r) (over (block.NotZero r) (is.fit, is.refutes))))
    shown-block (NotBuilt n) x v is e = absurd (cc)
    shown-block (OutOfType m) x v is e = absurd (cc)
    shown-block Zero (ByTable r) v is e = absurd is
    shown-block Zero ByNothing v is e = absurd is
    shown-block (NotZero f) (ByLines ls) v is e = absurd is
    shown-block (NotZero f) ByNothing v is e = absurd is

pub proofs-accepted : ProofsAreAccepted
proofs-accepted b t g (asking.Proved a x) v h right is e = shown-block b h g t right a x v is.shows e
proofs-accepted b t g (asking.Answered a) v h right is e = absurd is
proofs-accepted b t g asking.OfDimensions v h right is e = absurd is
proofs-accepted b t g asking.OfProducts v h right is e = absurd is

-- a finding for `prove` prints its answer and its evidence
pub proof-printed : (r : RulesView) (letters : List ℕ) (t : Table) (g : Poly) (f : Finding) → IsFinding r t (asking.Prove g) f → finding_text letters t f ≡ answer_text letters t f ++ proof_text letters t f
proof-printed r letters t g (asking.Proved a s) h = refl
proof-printed r letters t g (asking.Answered a) h = absurd h
proof-printed r letters t g asking.OfDimensions h = absurd h
proof-printed r letters t g asking.OfProducts h = absurd h
