-- How a line is answered by one shot.
use Rattle.std.proofs.Common.{◌≡◌, ◌⊎◌, ℕ, ◌<◌, ◌≤◌, Bool, true, false, List, [], ◌∷◌, ◌++◌, length, Option, None, Some, Result, Ok, Err, refl, sym, ap, ◌∙◌, subst, inl, inr, arith}
use Rattle.std.specs.Prelude.{nat_lt}
use Rattle.std.proofs.lemmas.Bool.Decides.{nat_tests}
use Rattle.std.proofs.lemmas.List.{append-nil}
use Rattle.std.specs.Arc.{arc_value}
use Rattle.alb_board.specs.Calls.{ShowsShot, ShowsNothing}
use Rattle.alb_board.specs.declared.kept.PassView.{PassView}
use Rattle.alb_board.specs.declared.kept.Shot as board
use Rattle.alb_io.specs.Reader.{Reader}
use Rattle.alb_poly.specs.declared.rules.Rules.{Rules}
use Rattle.alb_problem.specs.Builder.{Builder}
use Rattle.alb_question.specs.Laws.{IsProblem}
use Rattle.alb_question.specs.Question.{Question, Finding, IsFinding, IsTrueOf, pair_of, rules_of}
use Rattle.alb_question.proofs.FindingLemmas.{findings-true}
use Rattle.alb_script.specs.Asked.{Asked, Blank, Field, Generators, Identity, Build, Polynomial, Prove, Dimensions, Table, Claim, Await, Quit}
use Rattle.alb_script.specs.Refusals.{command_text, too_long_text}
use Rattle.alb_script.specs.declared.error.CommandError.{CommandError}
use Rattle.alb_session.specs.Session.{Session, Support, nothing, seen_pair, AreBefore, Finds, LacksMemory, AnswersUnless, AnswersShort, AnswersLine, Step, TellsWhether, asked_of, is_skipped, question_in, no_memory_text}
use Rattle.alb_session.specs.Served.{session_of}
use Rattle.alb_session.specs.Turns.{ReadsLine, TakesAsked, TakesTurn}
use Rattle.alb_session.specs.View.{AnswersBy, AsksFor, response_text, IsFoundText, Took, Waiting, shot_of}
use Rattle.alb_session.specs.declared.request.Request.{Request}
use Rattle.alb_session.specs.declared.taken.Taken.{Taken}
use Rattle.alb_session.specs.declared.taken.Taken.TheVariants as took
use Rattle.alb_session.proofs.ShotLemmas.{same-spends, by_shot, shot-rests, shot-took, by_none, none-seen, none-took, wait_support, wait-rests, wait-took, lacks-rests, lacks-took}
use Rattle.alb_table.specs.RightTable.{RulesView, rules_view, IsRightFor}
use Rattle.alb_table.specs.Table as tables

-- what is found is true of the identities of each problem with these rules
pub found-holds : (r : RulesView) (t : tables.Table) (q : Question) (f : Finding) → IsRightFor r t → IsFinding r t q f → (b : Builder) → IsProblem b → rules_of b ≡ r → IsTrueOf t.p b.identities q f
found-holds r t q f right is b problem same =
    findings-true b t q f problem (subst (λ (x : RulesView). IsRightFor x t) (sym same) right) (subst (λ (x : RulesView). IsFinding x t q f) (sym same) is)

some_question : (x y : Question) → Some x ≡ Some y → x ≡ y
some_question x y h = cc

module _ (r : RulesView) (letters : List ℕ) (old : Session) (support : Support) (text : List ℕ) (new : Session) where
  -- a question is answered
  pub finds-answers : (a : Asked) (q : Question) → question_in a ≡ Some q → Finds r letters old a q support text new → AnswersUnless (is_skipped (Ok a)) r letters old (Ok a) support text new
  finds-answers (Polynomial g) q is p = inl (subst (λ (x : Question). Finds r letters old (Polynomial g) x support text new) (sym (some_question _ q is)) p)
  finds-answers (Prove g) q is p = inl (subst (λ (x : Question). Finds r letters old (Prove g) x support text new) (sym (some_question _ q is)) p)
  finds-answers Dimensions q is p = inl (subst (λ (x : Question). Finds r letters old Dimensions x support text new) (sym (some_question _ q is)) p)
  finds-answers Table q is p = inl (subst (λ (x : Question). Finds r letters old Table x support text new) (sym (some_question _ q is)) p)
  finds-answers Blank q is p = absurd (cc)
  finds-answers (Field n) q is p = absurd (cc)
  finds-answers (Generators ts n) q is p = absurd (cc)
  finds-answers (Identity f) q is p = absurd (cc)
  finds-answers Build q is p = absurd (cc)
  finds-answers (Claim f) q is p = absurd (cc)
  finds-answers (Await k) q is p = absurd (cc)
  finds-answers Quit q is p = absurd (cc)

  -- there was no memory for it
  pub lacks-answers : (a : Asked) (q : Question) → question_in a ≡ Some q → LacksMemory r old (Ok a) support text new → AnswersUnless (is_skipped (Ok a)) r letters old (Ok a) support text new
  lacks-answers (Polynomial g) q is p = inr p
  lacks-answers (Prove g) q is p = inr p
  lacks-answers Dimensions q is p = inr p
  lacks-answers Table q is p = inr p
  lacks-answers Blank q is p = absurd (cc)
  lacks-answers (Field n) q is p = absurd (cc)
  lacks-answers (Generators ts n) q is p = absurd (cc)
  lacks-answers (Identity f) q is p = absurd (cc)
  lacks-answers Build q is p = absurd (cc)
  lacks-answers (Claim f) q is p = absurd (cc)
  lacks-answers (Await k) q is p = absurd (cc)
  lacks-answers Quit q is p = absurd (cc)

-- a question asks for one shot
pub question-before : (a : Asked) (q : Question) → question_in a ≡ Some q → AreBefore (Ok a) []
question-before (Polynomial g) q is = refl
question-before (Prove g) q is = refl
question-before Dimensions q is = refl
question-before Table q is = refl
question-before Blank q is = absurd (cc)
question-before (Field n) q is = absurd (cc)
question-before (Generators ts n) q is = absurd (cc)
question-before (Identity f) q is = absurd (cc)
question-before Build q is = absurd (cc)
question-before (Claim f) q is = absurd (cc)
question-before (Await k) q is = absurd (cc)
question-before Quit q is = absurd (cc)

-- ---- lines that ask for no shot

pub plain-took : (v : PassView) → Took nothing v v
plain-took v = record { shots = sym (append-nil v.shots); spends = same-spends v }

pub unasked-took : (v : PassView) → Took (record { pair = Some (seen_pair (session_of v false)); shots = [] }) v v
unasked-took v = record { shots = sym (append-nil v.shots); spends = same-spends v }

module _ (r : RulesView) (letters : List ℕ) (v : PassView) where
  pub skipped-by : (asks : Result Asked CommandError) → is_skipped asks ≡ true → AnswersBy r letters asks v v []
  skipped-by asks h = record {
    support = nothing;
    answers = subst (λ b. AnswersUnless b r letters (session_of v false) asks nothing [] (session_of v false)) (sym h) (refl, refl, refl);
    took = plain-took v;
  }

  pub refused-by : (asks : Result Asked CommandError) (e : CommandError) → asks ≡ Err e → AnswersBy r letters asks v v (command_text e)
  refused-by asks e h = subst (λ (x : Result Asked CommandError). AnswersBy r letters x v v (command_text e)) (sym h) (record { support = nothing; answers = inl (refl, refl, refl); took = plain-took v })

  pub unread-by : (asks : Result Asked CommandError) (d : ℕ) → is_skipped asks ≡ false → d ≡ v.seen → AnswersBy r letters asks v v (no_memory_text d)
  unread-by asks d h seen = record {
    support = record { pair = Some (seen_pair (session_of v false)); shots = [] };
    answers = subst (λ b. AnswersUnless b r letters (session_of v false) asks (record { pair = Some (seen_pair (session_of v false)); shots = [] }) (no_memory_text d) (session_of v false)) (sym h)
        (inr (record { rests = inl (refl, refl); text_is = ap no_memory_text seen }));
    took = unasked-took v;
  }

  -- ---- from what a line asks for to the line

  not_long : (n : ℕ) → n ≤ 65536 → nat_lt 65536 n ≡ false
  not_long n h = grind (arith, nat_tests)

  is_long : (n : ℕ) → 65536 < n → nat_lt 65536 n ≡ true
  is_long n h = grind (arith, nat_tests)

  pub asked-turn : (t : Taken) (w : PassView) (old new : Reader) (before now : Option (List ℕ)) (line : List ℕ) → length line ≤ 65536 → ReadsLine old new before now line
      → TakesAsked t r letters (asked_of r letters line) v w → TakesTurn t r letters v w old new before now
  asked-turn (took.Response a) w old new before now line short reads p = record {
    line = line;
    reads = reads;
    answers = record {
      support = p.support;
      step = subst (λ b. AnswersShort b r letters (session_of v false) line p.support (response_text a) (session_of w false)) (sym (not_long (length line) short)) p.answers;
      took = p.took;
    };
  }
  asked-turn took.Quit w old new before now line short reads p = (record { line = line; reads = reads; short = short; asks = p.0 }, p.1)
  asked-turn took.End w old new before now line short reads p = absurd p
  asked-turn took.ReadFault w old new before now line short reads p = absurd p
  asked-turn took.InputLimit w old new before now line short reads p = absurd p

  pub long-step : (line : List ℕ) → 65536 < length line → Step r letters (session_of v false) line nothing too_long_text (session_of v false)
  long-step line long = subst (λ b. AnswersShort b r letters (session_of v false) line nothing too_long_text (session_of v false)) (sym (is_long (length line) long)) (refl, refl, refl)

-- ---- a question

module _ (rules : Rules) (letters : List ℕ) (v w : PassView) (a : Asked) (q : Question) (is : question_in a ≡ Some q) where
  pub question-found : (k : board.Shot) → (p : ShowsShot rules v k w) → (text : List ℕ) → IsFoundText (rules_view rules) letters (arc_value k.tables) q text → AnswersBy (rules_view rules) letters (Ok a) v w text
  question-found k p text f = record {
    support = by_shot rules v w k p;
    answers = finds-answers (rules_view rules) letters (session_of v false) (by_shot rules v w k p) text (session_of w false) a q is (record {
      shot = shot_of k;
      finding = f.finding;
      rests = shot-rests rules v w k p (Ok a) (question-before a q is);
      found = f.found;
      holds = found-holds (rules_view rules) (arc_value k.tables) q f.finding p.right f.found;
      text_is = f.text_is;
    });
    took = shot-took rules v w k p;
  }

  pub question-lacks : (k : board.Shot) → (p : ShowsShot rules v k w) → (d : ℕ) → d ≡ w.seen → AnswersBy (rules_view rules) letters (Ok a) v w (no_memory_text d)
  question-lacks k p d seen = record {
    support = by_shot rules v w k p;
    answers = lacks-answers (rules_view rules) letters (session_of v false) (by_shot rules v w k p) (no_memory_text d) (session_of w false) a q is
        (record { rests = inr (shot_of k, shot-rests rules v w k p (Ok a) (question-before a q is)); text_is = ap no_memory_text seen });
    took = shot-took rules v w k p;
  }

  pub question-unasked : (p : ShowsNothing v w) → (d : ℕ) → d ≡ w.seen → AnswersBy (rules_view rules) letters (Ok a) v w (no_memory_text d)
  question-unasked p d seen = record {
    support = by_none v w p;
    answers = lacks-answers (rules_view rules) letters (session_of v false) (by_none v w p) (no_memory_text d) (session_of w false) a q is
        (record { rests = inl (refl, none-seen v w p); text_is = ap no_memory_text seen });
    took = none-took v w p;
  }

-- ---- waiting

pub await-told : (rules : Rules) (k : ℕ) (letters : List ℕ) (v u w : PassView) (so_far : Waiting (rules_view rules) k v u) (s : board.Shot) (p : ShowsShot rules u s w) (text : List ℕ)
    → TellsWhether k (pair_of (shot_of s)) text → AnswersBy (rules_view rules) letters (Ok (Await k)) v w text
await-told rules k letters v u w so_far s p text tells = record {
  support = wait_support rules k v u w so_far s p;
  answers = inl (record { shot = shot_of s; rests = wait-rests rules k v u w so_far s p; tells = tells });
  took = wait-took rules k v u w so_far s p;
}

pub await-lacks : (r : RulesView) (k : ℕ) (letters : List ℕ) (v u w : PassView) (so_far : Waiting r k v u) (p : ShowsNothing u w) (d : ℕ) → d ≡ w.seen → AnswersBy r letters (Ok (Await k)) v w (no_memory_text d)
await-lacks r k letters v u w so_far p d seen = record {
  support = so_far.support;
  answers = inr (record { rests = lacks-rests r k v u w so_far p; text_is = ap no_memory_text seen });
  took = lacks-took r k v u w so_far p;
}

-- what a line asks for, by its case
pub asked-by : (a b : Request) (asks : Result Asked CommandError) → a ≡ b → AsksFor a asks → AsksFor b asks
asked-by a b asks is h = subst (λ (x : Request). AsksFor x asks) is h
