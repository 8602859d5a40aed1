-- A question about a polynomial has one answer.
use Rattle.std.proofs.Common.{◌≡◌, ℕ, ◌<◌, Bool, true, false, List, Option, Some, None, sym, ap, ◌∙◌}
use Rattle.std.specs.Prelude.{nat_lt}
use Rattle.alb_mono.specs.Tree.{Tree}
use Rattle.alb_poly.specs.Poly.{Poly, greatest_degree}
use Rattle.alb_poly.specs.Instance.{Form}
use Rattle.alb_poly.specs.Consequence.{AreMultilinear}
use Rattle.alb_poly.proofs.NormalLemmas.{alike-is-normal, normal-canonical, descending-canonical}
use Rattle.alb_table.proofs.Congruent.{congruent-joined, congruent-turned}
use Rattle.alb_table.proofs.Values.{normal-unique}
use Rattle.alb_query.specs.Answer.{Answer, Zero, NotZero, NotBuilt, OutOfType, misfit, IsNormalForm, AnswersWithin, AnswersFitting, AnswersUnless}
use Rattle.alb_unique.specs.Laws.{AnswerIsUnique}

module _ (p : ℕ) (pos : 0 < p) (fs : List Form) (multi : AreMultilinear fs) (g : Poly) where
  -- there is one normal form
  form-unique : (e f : Poly) → IsNormalForm p fs g e → IsNormalForm p fs g f → e ≡ f
  form-unique e f a b =
      let same = normal-unique p pos fs multi e f a.normal b.normal (congruent-joined p fs pos (congruent-turned p fs pos a.congruent) b.congruent) in
      alike-is-normal p f e pos (descending-canonical p e a.descending a.residues) same ∙ normal-canonical p f (descending-canonical p f b.descending b.residues)

  within-unique : (a b : Answer) → AnswersWithin p fs g a → AnswersWithin p fs g b → a ≡ b
  within-unique Zero Zero h k = λ i. Zero
  within-unique Zero (NotZero f) h k = absurd (k.0 h)
  within-unique Zero (NotBuilt n) h k = absurd k
  within-unique Zero (OutOfType m) h k = absurd k
  within-unique (NotZero e) Zero h k = absurd (h.0 k)
  within-unique (NotZero e) (NotZero f) h k = ap NotZero (form-unique e f h.1 k.1)
  within-unique (NotZero e) (NotBuilt n) h k = absurd k
  within-unique (NotZero e) (OutOfType m) h k = absurd k
  within-unique (NotBuilt n) b h k = absurd h
  within-unique (OutOfType m) b h k = absurd h

  fitting-unique : (above : Bool) (a b : Answer) → AnswersFitting above p fs g a → AnswersFitting above p fs g b → a ≡ b
  fitting-unique true a b h k = h ∙ sym k
  fitting-unique false a b h k = within-unique a b h k

  unless-unique : (o : Option Tree) (d : ℕ) (a b : Answer) → AnswersUnless o p fs d g a → AnswersUnless o p fs d g b → a ≡ b
  unless-unique None d a b h k = fitting-unique (nat_lt d (greatest_degree g)) a b h k
  unless-unique (Some m) d a b h k = h ∙ sym k

pub answer-unique : AnswerIsUnique
answer-unique p fs target d g a b pos multi h k = unless-unique p pos fs multi g (misfit target g) d a b h k
