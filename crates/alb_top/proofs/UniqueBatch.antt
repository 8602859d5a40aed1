-- The transcript of a batch is unique but for the evidence that `prove` prints.
use Rattle.std.proofs.Common.{◌≡◌, ℕ, Bool, true, false, List, [], ◌∷◌, ◌++◌, length, Option, Some, None, Result, Ok, Err, refl, sym, ap, ap₂, ◌∙◌, subst, ◌⊎◌, inl, inr, append_assoc}
use Rattle.std.specs.Prelude.{nat_lt, option_map}
use Rattle.alb_poly.specs.Poly.{Poly}
use Rattle.alb_problem.specs.Builder.{Builder, finish_refusal, forms_of}
use Rattle.alb_problem.specs.Builder as refusals
use Rattle.alb_script.specs.Asked as asking
use Rattle.alb_script.specs.Asked.{Asked, command_word}
use Rattle.alb_script.specs.declared.error.CommandError.{CommandError}
use Rattle.alb_script.specs.declared.form.Form.TheVariants as form
use Rattle.alb_evidence.specs.Block as block
use Rattle.alb_evidence.specs.Block.{evidence_of, is_end}
use Rattle.alb_judge.proofs.VerdictLemmas.{verdict-only}
use Rattle.alb_question.specs.Laws.{IsProblem}
use Rattle.alb_question.specs.Question as questions
use Rattle.alb_question.specs.Question.{Question, Finding, IsFinding, answer_text, proof_text, finding_text, Shot, Pair, pair_of, pair_line, rules_of, IsBuilt, built_text}
use Rattle.alb_question.proofs.Alike.{built-unique, answers-alike}
use Rattle.alb_top.specs.Script.{Response, Nothing, Accepted, Numbered, Ready, Built, Found, Refused, Judged, TooLong, OfCommand, OfProblem, shot_text, found_text, pair_shown, State, Open, NoBlock, Claimed, Skipped, start, stated, unless, respond, obey, Builds, BuildsBy, BuildsUnless, question_in, Finds, FindsBy, ObeysAs, Obeys, ObeysLine, Commands, refuse, is_claim, asked_of, letters_of, total_of, shut, JudgesClaim, EndsBlock, inside, OfBlock, AnswersIn, AnswersLine, AnswersEnd, Step, Finish, text_of}
use Rattle.alb_top.specs.Outcome.{Run, AnswersAll}
use Rattle.alb_top.specs.Sound.{IsSoundState}
use Rattle.alb_top.specs.View.{StandsBy}
use Rattle.alb_top.specs.Laws.{batch, HaveOwnEvidence, AnswerAlike, BatchIsUnique}
use Rattle.alb_top.specs.declared.mode.Mode as modes
use Rattle.alb_top.specs.declared.mode.Mode.TheVariants as mode
use Rattle.alb_top.proofs.AskedLemmas.{asked-timely}
use Rattle.alb_top.proofs.SoundLemmas.{sound-start, step-sound, built-problem}

-- ---- two states that differ in their shots

-- before `build` there is no shot, and after it there are two of one degree and one end, or none
abbrev AreTwins : Bool → Builder → Option Shot → Option Shot → Type 0
AreTwins false b o p = (o ≡ None) × (p ≡ None)
AreTwins true b (Some s) (Some u) = IsBuilt (rules_of b) s × IsBuilt (rules_of b) u × (pair_of s ≡ pair_of u)
AreTwins true b None None = Unit {0}
AreTwins true b (Some s) None = ⊥
AreTwins true b None (Some u) = ⊥

abbrev with_shot : State → Option Shot → State
with_shot s o = record s { shot = o }

abbrev HasTwin : State → Option Shot → Type 0
HasTwin s o = AreTwins s.built s.problem s.shot o

record Twin (m n : State) : Type 0 where
  other : Option Shot
  is : n ≡ with_shot m other
  shots : HasTwin m other

-- twins show the same
twins-pairs : (built : Bool) (b : Builder) (o p : Option Shot) → AreTwins built b o p → option_map pair_of o ≡ option_map pair_of p
twins-pairs false b o p w = ap (option_map pair_of) w.0 ∙ sym (ap (option_map pair_of) w.1)
twins-pairs true b (Some s) (Some u) w = ap (λ (x : Pair). Some x) w.2
twins-pairs true b None None w = refl
twins-pairs true b (Some s) None w = absurd w
twins-pairs true b None (Some u) w = absurd w

abbrev pair_text : Option Pair → List ℕ
pair_text None = []
pair_text (Some q) = pair_line q.degree q.end

shot-text : (o : Option Shot) → shot_text o ≡ pair_text (option_map pair_of o)
shot-text None = refl
shot-text (Some s) = refl

-- a response that rests on no table but by its degree and end
abbrev IsPlain : Response → Type 0
IsPlain (Found f) = ⊥
IsPlain other = Unit {0}

-- what is written and shown in a state
record WritesAlike (m n : State) (r q : Response) : Type 0 where
  text : text_of m r ≡ text_of n q
  pair : pair_shown m.shot r ≡ pair_shown n.shot q

plain-alike : (m : State) (o : Option Shot) (r : Response) → HasTwin m o → IsPlain r → WritesAlike m (with_shot m o) r r
plain-alike m o Nothing w p = record { text = refl; pair = refl }
plain-alike m o Accepted w p = record { text = refl; pair = refl }
plain-alike m o (Numbered k) w p = record { text = refl; pair = refl }
plain-alike m o Ready w p = record { text = refl; pair = refl }
plain-alike m o Built w p =
    let e = twins-pairs m.built m.problem m.shot o w in
    record { text = shot-text m.shot ∙ ap pair_text e ∙ sym (shot-text o); pair = e }
plain-alike m o (Found f) w p = absurd p
plain-alike m o (Refused x) w p = record { text = refl; pair = refl }
plain-alike m o (Judged v) w p = record { text = refl; pair = refl }

-- the same plain response, and states that differ in their shots
abbrev AreSame : (Response → State → Type 0) → (Response → State → Type 0) → Type 0
AreSame P Q = (r q : Response) (m n : State) → P r m → Q q n → (r ≡ q) × IsPlain r × Twin m n

-- the same text, but for evidence
abbrev AreAlike : List ℕ → (Response → State → Type 0) → (Response → State → Type 0) → Type 0
AreAlike line P Q = (r q : Response) (m n : State) → P r m → Q q n
    → ((text_of m r ≡ text_of n q) ⊎ HaveOwnEvidence line (text_of m r) (text_of n q)) × (pair_shown m.shot r ≡ pair_shown n.shot q) × Twin m n

same-alike : (m n : State) (r q : Response) → r ≡ q → IsPlain r → Twin m n → WritesAlike m n r q
same-alike m n r q e p t =
    subst (λ (x : Response). WritesAlike m n r x) e (subst (λ (x : State). WritesAlike m x r r) (sym t.is) (plain-alike m t.other r t.shots p))

alike : (line : List ℕ) (P Q : Response → State → Type 0) → AreSame P Q → AreAlike line P Q
alike line P Q h r q m n x y =
    let s = h r q m n x y in
    let a = same-alike m n r q s.0 s.1 s.2 in
    (inl a.text, a.pair, s.2)

-- a response, with another shot
abbrev other_of : Response × State → Option Shot → Response × State
other_of a o = (a.0, with_shot a.1 o)

given-same : (a : Response × State) (o : Option Shot) → IsPlain a.0 → HasTwin a.1 o → AreSame (λ r n. (r, n) ≡ a) (λ r n. (r, n) ≡ other_of a o)
given-same a o p w r q m n h k =
    let here : m ≡ a.1 = ap (λ x. x.1) h in
    let there : n ≡ with_shot a.1 o = ap (λ x. x.1) k in (
      ap (λ x. x.0) h ∙ sym (ap (λ x. x.0) k),
      subst IsPlain (sym (ap (λ x. x.0) h)) p,
      record { other = o; is = there ∙ ap (λ s. with_shot s o) (sym here); shots = subst (λ (s : State). HasTwin s o) (sym here) w },
    )

nothing-same : (s : State) (o : Option Shot) → HasTwin s o → AreSame (λ r n. (r ≡ Nothing) × (n ≡ s)) (λ r n. (r ≡ Nothing) × (n ≡ with_shot s o))
nothing-same s o w r q m n h k = (
  h.0 ∙ sym k.0,
  subst IsPlain (sym h.0) tt,
  record { other = o; is = k.1 ∙ ap (λ x. with_shot x o) (sym h.1); shots = subst (λ (x : State). HasTwin x o) (sym h.1) w },
)

-- ---- commands

-- before `build` the problem may change
early-twins : (built : Bool) (b c : Builder) (o p : Option Shot) → built ≡ false → AreTwins built b o p → AreTwins built c o p
early-twins true b c o p e w = absurd (cc)
early-twins false b c o p e w = w

late-twins : (built : Bool) (b : Builder) (o p : Option Shot) → built ≡ true → AreTwins built b o p → AreTwins true b o p
late-twins true b o p e w = w
late-twins false b o p e w = absurd (cc)

-- there is no shot yet
none-twins : (built : Bool) (b : Builder) (o p : Option Shot) → built ≡ false → AreTwins built b o p → AreTwins true b o p
none-twins true b o p e w = absurd (cc)
none-twins false b o p e w = subst (λ x. AreTwins true b x p) (sym w.0) (subst (λ x. AreTwins true b None x) (sym w.1) tt)

-- a statement is answered plainly
unless-plain : (o : Option refusals.ProblemRefusal) (r : Response) (new old : Builder) → IsPlain r → IsPlain (unless o r new old).0
unless-plain None r new old p = p
unless-plain (Some x) r new old p = tt

-- texts that are the same
text-alike : {line : List ℕ} (t u x y : List ℕ) → t ≡ x → u ≡ y → (x ≡ y) ⊎ HaveOwnEvidence line x y → (t ≡ u) ⊎ HaveOwnEvidence line t u
text-alike t u x y a b (inl e) = inl (a ∙ e ∙ sym b)
text-alike t u x y a b (inr e) = inr (record {
  state = e.state;
  polynomial = e.polynomial;
  asks = e.asks;
  shot = e.shot;
  finding = e.finding;
  found = e.found;
  here = e.here;
  there = e.there;
  left = a ∙ e.left;
  right = b ∙ e.right;
})

module _ (old : State) (o : Option Shot) (sound : IsSoundState old) where
  abbrev old' : State
  old' = with_shot old o

  builds-same : (m : modes.Mode) → finish_refusal old.problem ≡ None → old.built ≡ false → HasTwin old o → AreSame (λ r n. BuildsBy m old r n) (λ r n. BuildsBy m old' r n)
  builds-same mode.Check none early w r q m n h k = given-same (respond Ready (record old { built = true })) o tt (none-twins old.built old.problem old.shot o early w) r q m n h k
  builds-same mode.Batch none early w r q m n h k =
      let same = built-unique old.problem h.shot k.shot (record { sound = sound.problem; accepted = none }) h.built k.built in
      let here : State = (respond Built (record old { built = true; shot = Some h.shot })).1 in
      let is : m ≡ here = ap (λ x. x.1) h.responds in (
        ap (λ x. x.0) h.responds ∙ sym (ap (λ x. x.0) k.responds),
        subst IsPlain (sym (ap (λ x. x.0) h.responds)) tt,
        record {
          other = Some k.shot;
          is = ap (λ x. x.1) k.responds ∙ ap (λ s. with_shot s (Some k.shot)) (sym is);
          shots = subst (λ (s : State). HasTwin s (Some k.shot)) (sym is) (h.built, k.built, same);
        },
      )
  builds-same (mode.Sample j) none early w r q m n h k = absurd h

  unless-same : (x : Option refusals.ProblemRefusal) → finish_refusal old.problem ≡ x → old.built ≡ false → HasTwin old o → AreSame (λ r n. BuildsUnless x old r n) (λ r n. BuildsUnless x old' r n)
  unless-same None none early w = builds-same old.mode none early w
  unless-same (Some x) is early w = given-same (respond (Refused (OfProblem x)) old) o tt w

  -- ---- questions

  module _ (s u : Shot) (here : old.shot ≡ Some s) (there : o ≡ Some u) (problem : IsProblem old.problem) (one : IsBuilt (rules_of old.problem) s) (other : IsBuilt (rules_of old.problem) u)
      (same : pair_of s ≡ pair_of u) (w : HasTwin old o) (line : List ℕ) where
    abbrev letters : List ℕ
    letters = old.problem.letters

    -- the texts of two findings, of which each may have its own evidence
    found-alike : (q : Question) (f g : Finding) → ((p : Poly) → q ≡ questions.Prove p → asked_of old line ≡ Ok (asking.Prove p)) → IsFinding (rules_of old.problem) s.table q f
        → IsFinding (rules_of old.problem) u.table q g
        → (finding_text letters s.table f ≡ finding_text letters u.table g) ⊎ HaveOwnEvidence line (finding_text letters s.table f) (finding_text letters u.table g)
    found-alike (questions.Prove p) (questions.Proved a x) (questions.Proved b y) asks h k =
        let e = answers-alike old.problem s.table u.table (questions.Prove p) (questions.Proved a x) (questions.Proved b y) problem one.right other.right (ap (λ (x : Pair). x.degree) same) h k in
        inr (record {
          state = old;
          polynomial = p;
          asks = asks p refl;
          shot = s;
          finding = questions.Proved a x;
          found = h;
          here = proof_text letters s.table (questions.Proved a x);
          there = proof_text letters u.table (questions.Proved b y);
          left = refl;
          right = ap (λ l. l ++ proof_text letters u.table (questions.Proved b y)) (sym e);
        })
    found-alike (questions.Polynomial p) (questions.Answered a) (questions.Answered b) asks h k =
        inl (answers-alike old.problem s.table u.table (questions.Polynomial p) (questions.Answered a) (questions.Answered b) problem one.right other.right (ap (λ (x : Pair). x.degree) same) h k)
    found-alike questions.Dimensions questions.OfDimensions questions.OfDimensions asks h k =
        inl (answers-alike old.problem s.table u.table questions.Dimensions questions.OfDimensions questions.OfDimensions problem one.right other.right (ap (λ (x : Pair). x.degree) same) h k)
    found-alike questions.Products questions.OfProducts questions.OfProducts asks h k =
        inl (answers-alike old.problem s.table u.table questions.Products questions.OfProducts questions.OfProducts problem one.right other.right (ap (λ (x : Pair). x.degree) same) h k)
    found-alike q f g asks h k = search

    finds-alike : (q : Question) → ((p : Poly) → q ≡ questions.Prove p → asked_of old line ≡ Ok (asking.Prove p)) → AreAlike line (λ r n. Finds old s q r n) (λ r n. Finds old' u q r n)
    finds-alike q asks r x m n h k =
        let next : m ≡ (respond (Found h.finding) old).1 = ap (λ y. y.1) h.responds in
        let mine : text_of m r ≡ finding_text letters s.table h.finding = ap (λ y. text_of y.1 y.0) h.responds ∙ ap (λ z. found_text letters z h.finding) here in
        let your : text_of n x ≡ finding_text letters u.table k.finding = ap (λ y. text_of y.1 y.0) k.responds ∙ ap (λ z. found_text letters z k.finding) there in
        let a : pair_shown m.shot r ≡ Some (pair_of s) = ap (λ y. pair_shown y.1.shot y.0) h.responds ∙ ap (option_map pair_of) here in
        let b : pair_shown n.shot x ≡ Some (pair_of u) = ap (λ y. pair_shown y.1.shot y.0) k.responds ∙ ap (option_map pair_of) there in (
          text-alike (text_of m r) (text_of n x) _ _ mine your (found-alike q h.finding k.finding asks h.is k.is),
          a ∙ ap (λ (y : Pair). Some y) same ∙ sym b,
          record {
            other = o;
            is = ap (λ y. y.1) k.responds ∙ ap (λ z. with_shot z o) (sym next);
            shots = subst (λ (z : State). HasTwin z o) (sym next) w;
          },
        )

  question-alike : (x y : Option Shot) → old.shot ≡ x → o ≡ y → IsProblem old.problem → AreTwins true old.problem x y → HasTwin old o → (line : List ℕ) (q : Question)
      → ((p : Poly) → q ≡ questions.Prove p → asked_of old line ≡ Ok (asking.Prove p)) → AreAlike line (λ r n. FindsBy x old q r n) (λ r n. FindsBy y old' q r n)
  question-alike (Some s) (Some u) here there problem z w line q asks r x m n h k = finds-alike s u here there problem z.0 z.1 z.2 w line q asks r x m n h k
  question-alike None y here there problem z w line q asks r x m n h k = absurd h
  question-alike (Some s) None here there problem z w line q asks r x m n h k = absurd z

  asks-alike : HasTwin old o → old.built ≡ true → (line : List ℕ) (q : Question) → ((p : Poly) → q ≡ questions.Prove p → asked_of old line ≡ Ok (asking.Prove p))
      → AreAlike line (λ r n. FindsBy old.shot old q r n) (λ r n. FindsBy o old' q r n)
  asks-alike w built line q asks =
      question-alike old.shot o refl refl (built-problem old sound built) (late-twins old.built old.problem old.shot o built w) w line q asks

  obeys-alike : HasTwin old o → (line : List ℕ) (a : Asked) → asked_of old line ≡ Ok a → StandsBy old.built a → AreAlike line (λ r n. Obeys old a r n) (λ r n. Obeys old' a r n)
  obeys-alike w line asking.Build is t = alike line _ _ (unless-same (finish_refusal old.problem) refl t w)
  obeys-alike w line (asking.Polynomial g) is t = asks-alike w t line (questions.Polynomial g) (λ p e. absurd (cc))
  obeys-alike w line (asking.Prove g) is t = asks-alike w t line (questions.Prove g) (λ p e. let same : g ≡ p = cc in is ∙ ap (λ x. Ok (asking.Prove x)) same)
  obeys-alike w line asking.Dimensions is t = asks-alike w t line questions.Dimensions (λ p e. absurd (cc))
  obeys-alike w line asking.Table is t = asks-alike w t line questions.Products (λ p e. absurd (cc))
  obeys-alike w line asking.Blank is t = alike line _ _ (given-same (obey old asking.Blank) o tt w)
  obeys-alike w line (asking.Field p) is t =
      alike line _ _ (given-same (obey old (asking.Field p)) o (unless-plain (refusals.field_refusal old.problem p) Accepted _ _ tt)
      (early-twins old.built old.problem (obey old (asking.Field p)).1.problem old.shot o t w))
  obeys-alike w line (asking.Generators ts end) is t =
      alike line _ _ (given-same (obey old (asking.Generators ts end)) o (unless-plain (refusals.generators_refusal old.problem ts end) Accepted _ _ tt)
      (early-twins old.built old.problem (obey old (asking.Generators ts end)).1.problem old.shot o t w))
  obeys-alike w line (asking.Identity f) is t =
      alike line _ _ (given-same (obey old (asking.Identity f)) o (unless-plain (refusals.identity_refusal old.problem f) (Numbered _) _ _ tt)
      (early-twins old.built old.problem (obey old (asking.Identity f)).1.problem old.shot o t w))
  obeys-alike w line (asking.Claim f) is t = alike line _ _ (given-same (obey old (asking.Claim f)) o tt w)
  obeys-alike w line (asking.Await i) is t = alike line _ _ (given-same (obey old (asking.Await i)) o tt w)
  obeys-alike w line asking.Quit is t = alike line _ _ (given-same (obey old asking.Quit) o tt w)

  -- ---- lines

  refused-same : (b : Bool) (e : CommandError) → HasTwin old o → AreSame (λ r n. (r, n) ≡ refuse b old e) (λ r n. (r, n) ≡ refuse b old' e)
  refused-same true e w = given-same (respond Nothing (record old { block = Skipped e })) o tt w
  refused-same false e w = given-same (respond (Refused (OfCommand e)) old) o tt w

  line_obeyed-alike : (line : List ℕ) (x : Result Asked CommandError) → asked_of old line ≡ x → HasTwin old o → AreAlike line (λ r n. ObeysLine old line x r n) (λ r n. ObeysLine old' line x r n)
  line_obeyed-alike line (Ok a) is w =
      obeys-alike w line a is (asked-timely old.form old.built (total_of old) old.problem.field (letters_of old) line a is).stands
  line_obeyed-alike line (Err e) is w = alike line _ _ (refused-same (is_claim (command_word old.form line)) e w)

  commands-alike : (long : Bool) (line : List ℕ) → HasTwin old o → AreAlike line (λ r n. Commands long old line r n) (λ r n. Commands long old' line r n)
  commands-alike true line w = alike line _ _ (given-same (respond (Refused TooLong) old) o tt w)
  commands-alike false line w = line_obeyed-alike line (asked_of old line) refl w

  -- ---- blocks

  judges-same : (f : Poly) (given : Result block.Evidence block.BlockFault) → HasTwin old o → AreSame (λ r n. JudgesClaim old f given r n) (λ r n. JudgesClaim old' f given r n)
  judges-same f given w r q m n h k =
      let e = verdict-only old.problem.field old.problem.counts (forms_of old.problem) f given h.verdict k.verdict h.judged k.judged in
      given-same (respond (Judged h.verdict) (shut old)) o tt w r q m n h.responds (k.responds ∙ ap (λ v. respond (Judged v) (shut old')) (sym e))

  ends-same : (x : Open) (has_end : Bool) → HasTwin old o → AreSame (λ r n. EndsBlock x old has_end r n) (λ r n. EndsBlock x old' has_end r n)
  ends-same NoBlock has_end w = nothing-same old o w
  ends-same (Claimed f lines) has_end w = judges-same f (evidence_of old.problem.field (letters_of old) lines has_end) w
  ends-same (Skipped e) has_end w = given-same (respond (Refused (OfCommand e)) (shut old)) o tt w

  inside-same : (x : Open) (line : List ℕ) → HasTwin old o → AreSame (λ r n. (r ≡ Nothing) × (n ≡ inside x old line)) (λ r n. (r ≡ Nothing) × (n ≡ inside x old' line))
  inside-same NoBlock line w = nothing-same old o w
  inside-same (Claimed f lines) line w = nothing-same (record old { block = Claimed f (lines ++ line ∷ []) }) o w
  inside-same (Skipped e) line w = nothing-same old o w

  of_block-same : (ends : Bool) (line : List ℕ) → HasTwin old o → AreSame (λ r n. OfBlock ends old line r n) (λ r n. OfBlock ends old' line r n)
  of_block-same true line w = ends-same old.block true w
  of_block-same false line w = inside-same old.block line w

  in-alike : (x : Open) (line : List ℕ) → HasTwin old o → AreAlike line (λ r n. AnswersIn x old line r n) (λ r n. AnswersIn x old' line r n)
  in-alike NoBlock line w = commands-alike (nat_lt 65536 (length line)) line w
  in-alike (Claimed f lines) line w = alike line _ _ (of_block-same (is_end line) line w)
  in-alike (Skipped e) line w = alike line _ _ (of_block-same (is_end line) line w)

  line-alike : (closed : Bool) (line : List ℕ) → HasTwin old o → AreAlike line (λ r n. AnswersLine closed old line r n) (λ r n. AnswersLine closed old' line r n)
  line-alike true line w = alike line _ _ (nothing-same old o w)
  line-alike false line w = in-alike old.block line w

  end-same : (closed : Bool) → HasTwin old o → AreSame (λ r n. AnswersEnd closed old r n) (λ r n. AnswersEnd closed old' r n)
  end-same true w = nothing-same old o w
  end-same false w = ends-same old.block false w

-- ---- transcripts

step-alike : (old m n : State) (o : Option Shot) (line t u : List ℕ) (a b : Option Pair) → IsSoundState old → HasTwin old o → Step old line a t m → Step (with_shot old o) line b u n
    → ((t ≡ u) ⊎ HaveOwnEvidence line t u) × (a ≡ b) × Twin m n
step-alike old m n o line t u a b sound w x y =
    let e = line-alike old o sound old.closed line w x.response y.response m n x.answers y.answers in
    (text-alike t u _ _ x.responds y.responds e.0, x.shows ∙ e.1 ∙ sym y.shows, e.2)

record AreRuns (lines : List (List ℕ)) (ps qs : List (Option Pair)) (t u : List ℕ) (m n : State) : Type 0 where
  texts : (x y : List ℕ) → x ≡ y → AnswerAlike lines (t ++ x) (u ++ y)
  pairs : ps ≡ qs
  states : Twin m n
  sound : IsSoundState m

run-alike : (old m n : State) (o : Option Shot) (lines : List (List ℕ)) (ps qs : List (Option Pair)) (t u : List ℕ) → IsSoundState old → HasTwin old o → Run Step old lines ps t m
    → Run Step (with_shot old o) lines qs u n → AreRuns lines ps qs t u m n
run-alike old m n o [] ps qs t u sound w a b = record {
  texts = λ x y e. ap (λ l. l ++ x) a.1 ∙ e ∙ sym (ap (λ l. l ++ y) b.1);
  pairs = a.0 ∙ sym b.0;
  states = record { other = o; is = b.2 ∙ ap (λ s. with_shot s o) (sym a.2); shots = subst (λ (s : State). HasTwin s o) (sym a.2) w };
  sound = subst (λ (s : State). IsSoundState s) (sym a.2) sound;
}
run-alike old m n o (line ∷ lines) ps qs t u sound w a b =
    let e = step-alike old a.4 b.4 o line a.2 b.2 a.0 b.0 sound w a.7 b.7 in
    let r = run-alike a.4 m n e.2.other lines a.1 b.1 a.3 b.3 (step-sound old a.4 line a.2 a.0 sound a.7) e.2.shots a.8 (subst (λ (s : State). Run Step s lines b.1 b.3 n) e.2.is b.8) in
    record {
      texts = λ x y z. (
        a.2,
        b.2,
        a.3 ++ x,
        b.3 ++ y,
        ap (λ l. l ++ x) a.6 ∙ append_assoc a.2 a.3 x,
        ap (λ l. l ++ y) b.6 ∙ append_assoc b.2 b.3 y,
        e.0,
        r.texts x y z,
      );
      pairs = a.5 ∙ ap₂ (λ x xs. x ∷ xs) e.1 r.pairs ∙ sym b.5;
      states = r.states;
      sound = r.sound;
    }

finish-same : (old m n : State) (o : Option Shot) (t u : List ℕ) → IsSoundState old → HasTwin old o → Finish old t m → Finish (with_shot old o) u n → (t ≡ u) × Twin m n
finish-same old m n o t u sound w a b =
    let e = end-same old o sound old.closed w a.response b.response m n a.answers b.answers in
    let x = same-alike m n a.response b.response e.0 e.1 e.2 in
    (a.responds ∙ x.text ∙ sym b.responds, e.2)

twin-shot : (m n : State) → Twin m n → n ≡ with_shot m n.shot
twin-shot m n t = t.is ∙ ap (with_shot m) (sym (ap (λ (s : State). s.shot) t.is))

pub batch-unique : BatchIsUnique
batch-unique lines ps qs t u last end a b =
    let r = run-alike batch a.2 b.2 None lines ps qs a.0 b.0 (sound-start mode.Batch form.Batch refl) (refl, refl) a.4 b.4 in
    let f = finish-same a.2 last end r.states.other a.1 b.1 r.sound r.states.shots a.5 (subst (λ (s : State). Finish s b.1 end) r.states.is b.5) in (
      subst (λ x. AnswerAlike lines x u) (sym a.3) (subst (λ y. AnswerAlike lines (a.0 ++ a.1) y) (sym b.3) (r.texts a.1 b.1 f.0)),
      r.pairs,
      twin-shot last end f.1,
    )
