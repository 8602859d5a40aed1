-- Every state that a script comes to is sound, and each line has a response there.
use Rattle.std.proofs.Common.{◌≡◌, ◌≢◌, ℕ, ◌+◌, ◌<◌, Bool, true, false, List, [], ◌∷◌, ◌++◌, length, All, Option, Some, None, Result, Ok, Err, refl, sym, ap, ◌∙◌, subst, arith}
use Rattle.std.specs.Prelude.{if◌then◌else◌, IsTrue, nat_lt}
use Rattle.std.proofs.lemmas.List.Elements.{All-nil}
use Rattle.gf_field.specs.Modular.{IsInTable, is_in_table, primes}
use Rattle.alb_poly.specs.Poly.{Poly}
use Rattle.alb_problem.specs.Builder.{Builder, finish_refusal, forms_of, IsSoundProblem}
use Rattle.alb_problem.specs.Builder as refusals
use Rattle.alb_problem.proofs.SoundLemmas.{none-letters}
use Rattle.alb_script.specs.Asked as asking
use Rattle.alb_script.specs.Asked.{Asked, command_word, belongs}
use Rattle.alb_script.specs.declared.word.Word.TheVariants as word
use Rattle.alb_script.specs.declared.form.Form.{Form}
use Rattle.alb_script.specs.declared.form.Form.TheVariants as form
use Rattle.alb_script.specs.declared.error.CommandError.{CommandError}
use Rattle.alb_script.proofs.KnownLemmas.{IsKnown, asked-known}
use Rattle.alb_evidence.specs.Block as block
use Rattle.alb_evidence.specs.Block.{evidence_of, is_end}
use Rattle.alb_judge.specs.Verdict.{Verdict, IsVerdict, IsJustified}
use Rattle.alb_judge.proofs.VerdictLemmas.{IsRead, evidence-read, judged-some, verdict-justified}
use Rattle.alb_question.specs.Laws.{IsProblem}
use Rattle.alb_question.specs.Question.{Question, Finding, Shot, Pair, rules_of, IsBuilt}
use Rattle.alb_question.proofs.FindingLemmas.{findings-true}
use Rattle.alb_question.proofs.Totality.{each-built, each-found}
use Rattle.alb_top.specs.Does.{script_form}
use Rattle.alb_top.specs.Script.{Response, Nothing, Ready, Built, Found, Refused, Judged, TooLong, OfCommand, OfProblem, pair_shown, State, Open, NoBlock, Claimed, Skipped, start, stated, with_problem, respond, obey, Builds, BuildsBy, BuildsUnless, question_in, FindsBy, ObeysAs, Obeys, ObeysLine, Commands, refuse, is_claim, asked_of, letters_of, total_of, shut, JudgesClaim, EndsBlock, inside, OfBlock, AnswersIn, AnswersLine, AnswersEnd, Step, Finish, text_of}
use Rattle.alb_top.specs.Sound.{IsSoundState, IsAfterBuild, HasBuilt, HasShot}
use Rattle.alb_top.specs.View.{IsTimely, StandsBy, IsQuestion}
use Rattle.alb_top.specs.declared.mode.Mode.{Mode}
use Rattle.alb_top.specs.declared.mode.Mode.TheVariants as mode
use Rattle.alb_top.proofs.AskedLemmas.{asked-timely}
use Rattle.alb_top.proofs.ProblemLemmas.{stated-sound}

-- ---- commands

after_build : (o : Open) (built : Bool) → IsAfterBuild o built → IsAfterBuild o true
after_build NoBlock built h = tt
after_build (Claimed f lines) built h = refl
after_build (Skipped x) built h = tt

respond-sound : (s : State) (response : Response) → IsSoundState s → IsSoundState (respond response s).1
respond-sound s response h = record { problem = h.problem; accepted = h.accepted; claims = h.claims; reads = h.reads; shot = h.shot }

-- before `build` no shot is owed
has-early : (m : Mode) (b : Builder) (o : Option Shot) → HasShot m false b o
has-early mode.Batch b o = tt
has-early mode.Check b o = tt
has-early (mode.Sample n) b o = tt

with-sound : (s : State) (a : Asked) → s.built ≡ false → IsSoundState s → IsKnown a → IsSoundState (with_problem s (stated s.problem a)).1
with-sound s a early h k = record {
  problem = stated-sound s.problem a h.problem k;
  accepted = λ b. absurd (let e : false ≡ true = sym early ∙ b in cc);
  claims = h.claims;
  reads = h.reads;
  shot = subst (λ b. HasShot s.mode b (stated s.problem a).1 s.shot) (sym early) (has-early s.mode (stated s.problem a).1 s.shot);
}

-- a command that is no question, and not `build`
abbrev IsPlainOrder : Asked → Type 0
IsPlainOrder asking.Build = ⊥
IsPlainOrder (asking.Polynomial f) = ⊥
IsPlainOrder (asking.Prove f) = ⊥
IsPlainOrder asking.Dimensions = ⊥
IsPlainOrder asking.Table = ⊥
IsPlainOrder other = Unit {0}

obey-sound : (s : State) (a : Asked) → IsSoundState s → StandsBy s.built a → IsKnown a → IsPlainOrder a → IsSoundState (obey s a).1
obey-sound s asking.Blank h t k plain = respond-sound s Nothing h
obey-sound s (asking.Field p) h t k plain = with-sound s (asking.Field p) t h k
obey-sound s (asking.Generators ts end) h t k plain = with-sound s (asking.Generators ts end) t h k
obey-sound s (asking.Identity f) h t k plain = with-sound s (asking.Identity f) t h k
obey-sound s asking.Build h t k plain = absurd plain
obey-sound s (asking.Claim f) h t k plain = record { problem = h.problem; accepted = h.accepted; claims = t; reads = h.reads; shot = h.shot }
obey-sound s asking.Quit h t k plain = record { problem = h.problem; accepted = h.accepted; claims = h.claims; reads = h.reads; shot = h.shot }
obey-sound s (asking.Polynomial f) h t k plain = absurd plain
obey-sound s (asking.Prove f) h t k plain = absurd plain
obey-sound s asking.Dimensions h t k plain = absurd plain
obey-sound s asking.Table h t k plain = absurd plain
obey-sound s (asking.Await m) h t k plain = respond-sound s Nothing h

known-asked : (s : State) (line : List ℕ) (a : Asked) → asked_of s line ≡ Ok a → IsKnown a
known-asked s line a h = asked-known s.form s.built (total_of s) s.problem.field (letters_of s) line a h

-- a problem after `build` is accepted
pub built-problem : (s : State) → IsSoundState s → s.built ≡ true → IsProblem s.problem
built-problem s h built = record { sound = h.problem; accepted = h.accepted built }

-- a response of this kind, and a sound state after it
abbrev pub Some_response : (Response → State → Type 0) → Type 0
Some_response Answers = (response : Response) × (new : State) × Answers response new × IsSoundState new

-- ---- a response leads to a sound state

same-sound : (new : State) (response : Response) (answer : Response × State) → (response, new) ≡ answer → IsSoundState answer.1 → IsSoundState new
same-sound new response answer is h = subst (λ (s : State). IsSoundState s) (sym (ap (λ r. r.1) is)) h

builds-sound : (m : Mode) (old new : State) (response : Response) → old.mode ≡ m → IsSoundState old → finish_refusal old.problem ≡ None → BuildsBy m old response new → IsSoundState new
builds-sound mode.Check old new response is h none b = same-sound new response _ b (record {
  problem = h.problem;
  accepted = λ x. none;
  claims = after_build old.block old.built h.claims;
  reads = h.reads;
  shot = subst (λ m. HasShot m true old.problem old.shot) (sym is) tt;
})
builds-sound mode.Batch old new response is h none b = same-sound new response _ b.responds (record {
  problem = h.problem;
  accepted = λ x. none;
  claims = after_build old.block old.built h.claims;
  reads = h.reads;
  shot = subst (λ m. HasShot m true old.problem (Some b.shot)) (sym is) b.built;
})
builds-sound (mode.Sample n) old new response is h none b = absurd b

unless-sound : (o : Option refusals.ProblemRefusal) (old new : State) (response : Response) → finish_refusal old.problem ≡ o → IsSoundState old → BuildsUnless o old response new → IsSoundState new
unless-sound None old new response is h b = builds-sound old.mode old new response refl h is b
unless-sound (Some r) old new response is h b = same-sound new response _ b (respond-sound old (Refused (OfProblem r)) h)

finds-sound : (o : Option Shot) (old new : State) (q : Question) (response : Response) → IsSoundState old → FindsBy o old q response new → IsSoundState new
finds-sound None old new q response h e = absurd e
finds-sound (Some s) old new q response h e = same-sound new response _ e.responds (respond-sound old (Found e.finding) h)

obeys-sound : (old new : State) (a : Asked) (response : Response) → IsSoundState old → StandsBy old.built a → IsKnown a → Obeys old a response new → IsSoundState new
obeys-sound old new asking.Build response h t k e = unless-sound (finish_refusal old.problem) old new response refl h e
obeys-sound old new (asking.Polynomial g) response h t k e = finds-sound old.shot old new _ response h e
obeys-sound old new (asking.Prove g) response h t k e = finds-sound old.shot old new _ response h e
obeys-sound old new asking.Dimensions response h t k e = finds-sound old.shot old new _ response h e
obeys-sound old new asking.Table response h t k e = finds-sound old.shot old new _ response h e
obeys-sound old new asking.Blank response h t k e = same-sound new response _ e (obey-sound old asking.Blank h t k tt)
obeys-sound old new (asking.Field p) response h t k e = same-sound new response _ e (obey-sound old (asking.Field p) h t k tt)
obeys-sound old new (asking.Generators ts end) response h t k e = same-sound new response _ e (obey-sound old (asking.Generators ts end) h t k tt)
obeys-sound old new (asking.Identity f) response h t k e = same-sound new response _ e (obey-sound old (asking.Identity f) h t k tt)
obeys-sound old new (asking.Claim f) response h t k e = same-sound new response _ e (obey-sound old (asking.Claim f) h t k tt)
obeys-sound old new (asking.Await m) response h t k e = same-sound new response _ e (obey-sound old (asking.Await m) h t k tt)
obeys-sound old new asking.Quit response h t k e = same-sound new response _ e (obey-sound old asking.Quit h t k tt)

refuse-sound : (b : Bool) (s : State) (e : CommandError) → IsSoundState s → IsSoundState (refuse b s e).1
refuse-sound true s e h = record { problem = h.problem; accepted = h.accepted; claims = tt; reads = h.reads; shot = h.shot }
refuse-sound false s e h = respond-sound s (Refused (OfCommand e)) h

line_obeyed-sound : (old new : State) (line : List ℕ) (r : Result Asked CommandError) (response : Response) → asked_of old line ≡ r → IsSoundState old → ObeysLine old line r response new → IsSoundState new
line_obeyed-sound old new line (Ok a) response is h e =
    let t : IsTimely old.form old.built a = asked-timely old.form old.built (total_of old) old.problem.field (letters_of old) line a is in
    obeys-sound old new a response h t.stands (known-asked old line a is) e
line_obeyed-sound old new line (Err x) response is h e = same-sound new response _ e (refuse-sound (is_claim (command_word old.form line)) old x h)

commands-sound : (long : Bool) (old new : State) (line : List ℕ) (response : Response) → IsSoundState old → Commands long old line response new → IsSoundState new
commands-sound true old new line response h e = same-sound new response _ e (respond-sound old (Refused TooLong) h)
commands-sound false old new line response h e = line_obeyed-sound old new line (asked_of old line) response refl h e

-- ---- each command has a response

-- a sample reads no script
no-script : (n : ℕ) (f : Form) → script_form (mode.Sample n) ≡ Some f → ⊥
no-script n f e = cc

builds-some : (m : Mode) (old : State) → old.mode ≡ m → IsSoundState old → finish_refusal old.problem ≡ None → Some_response (BuildsBy m old)
builds-some mode.Check old is h none =
    let new : State = (respond Ready (record old { built = true })).1 in
    (Ready, new, refl, builds-sound mode.Check old new Ready is h none refl)
builds-some mode.Batch old is h none =
    let e = each-built old.problem (record { sound = h.problem; accepted = none }) in
    let new : State = (respond Built (record old { built = true; shot = Some e.0 })).1 in
    let b : BuildsBy mode.Batch old Built new = record { shot = e.0; built = e.1; responds = refl } in
    (Built, new, b, builds-sound mode.Batch old new Built is h none b)
builds-some (mode.Sample n) old is h none = absurd (no-script n old.form (subst (λ m. script_form m ≡ Some old.form) is h.reads))

unless-some : (o : Option refusals.ProblemRefusal) (old : State) → finish_refusal old.problem ≡ o → IsSoundState old → Some_response (BuildsUnless o old)
unless-some None old is h = builds-some old.mode old refl h is
unless-some (Some r) old is h = (Refused (OfProblem r), (respond (Refused (OfProblem r)) old).1, refl, respond-sound old (Refused (OfProblem r)) h)

-- a form that has questions is no check's
asking-form : (f : Form) (a : Asked) → IsQuestion a → IsTimely f true a → f ≢ form.Check
asking-form form.Batch a q t e = absurd (cc)
asking-form form.Session a q t e = absurd (cc)
asking-form form.Check (asking.Polynomial g) q t e = absurd (let h : false ≡ true = t.of_form in cc)
asking-form form.Check (asking.Prove g) q t e = absurd (let h : false ≡ true = t.of_form in cc)
asking-form form.Check asking.Dimensions q t e = absurd (let h : false ≡ true = t.of_form in cc)
asking-form form.Check asking.Table q t e = absurd (let h : false ≡ true = t.of_form in cc)
asking-form form.Check a q t e = absurd q

-- after `build` a script of a form with questions has its shot
has-shot : (m : Mode) (f : Form) (built : Bool) (b : Builder) (o : Option Shot) → script_form m ≡ Some f → f ≢ form.Check → built ≡ true → HasShot m built b o → HasBuilt b o
has-shot mode.Check f built b o is other k h = absurd (let e : f ≡ form.Check = cc in other e)
has-shot mode.Batch f true b o is other k h = h
has-shot mode.Batch f false b o is other k h = absurd (cc)
has-shot (mode.Sample n) f built b o is other k h = absurd (cc)

pub asked-shot : (s : State) (a : Asked) → IsQuestion a → IsSoundState s → IsTimely s.form s.built a → s.built ≡ true → HasBuilt s.problem s.shot
asked-shot s a q h t built =
    has-shot s.mode s.form s.built s.problem s.shot h.reads (asking-form s.form a q (subst (λ b. IsTimely s.form b a) built t)) built h.shot

pub letters-built : (b : Bool) (ls : List ℕ) → b ≡ true → (if b then ls else []) ≡ ls
letters-built true ls h = refl
letters-built false ls h = absurd (cc)

finds-some : (o : Option Shot) (old : State) (q : Question) → IsSoundState old → old.built ≡ true → HasBuilt old.problem o → Some_response (FindsBy o old q)
finds-some None old q h built has = absurd has
finds-some (Some s) old q h built has =
    let b = built-problem old h built in
    let e = each-found old.problem s.table q b has.right in
    let new : State = (respond (Found e.0) old).1 in
    let f : FindsBy (Some s) old q (Found e.0) new = record { finding = e.0; is = e.1; holds = findings-true old.problem s.table q e.0 b has.right e.1; responds = refl } in
    (Found e.0, new, f, finds-sound (Some s) old new q (Found e.0) h f)

-- with the soundness of the state after it
soundly : (old : State) (a : Asked) → IsSoundState old → StandsBy old.built a → IsKnown a → (response : Response) × (new : State) × Obeys old a response new → Some_response (Obeys old a)
soundly old a h t k e = (e.0, e.1, e.2, obeys-sound old e.1 a e.0 h t k e.2)

obeys-some : (old : State) (a : Asked) → IsSoundState old → IsTimely old.form old.built a → IsKnown a → Some_response (Obeys old a)
obeys-some old asking.Build h t k = unless-some (finish_refusal old.problem) old refl h
obeys-some old (asking.Polynomial g) h t k = finds-some old.shot old _ h t.stands (asked-shot old (asking.Polynomial g) tt h t t.stands)
obeys-some old (asking.Prove g) h t k = finds-some old.shot old _ h t.stands (asked-shot old (asking.Prove g) tt h t t.stands)
obeys-some old asking.Dimensions h t k = finds-some old.shot old _ h t.stands (asked-shot old asking.Dimensions tt h t t.stands)
obeys-some old asking.Table h t k = finds-some old.shot old _ h t.stands (asked-shot old asking.Table tt h t t.stands)
obeys-some old asking.Blank h t k = soundly old asking.Blank h t.stands k ((obey old asking.Blank).0, (obey old asking.Blank).1, refl)
obeys-some old (asking.Field p) h t k = soundly old (asking.Field p) h t.stands k ((obey old (asking.Field p)).0, (obey old (asking.Field p)).1, refl)
obeys-some old (asking.Generators ts end) h t k = soundly old (asking.Generators ts end) h t.stands k ((obey old (asking.Generators ts end)).0, (obey old (asking.Generators ts end)).1, refl)
obeys-some old (asking.Identity f) h t k = soundly old (asking.Identity f) h t.stands k ((obey old (asking.Identity f)).0, (obey old (asking.Identity f)).1, refl)
obeys-some old (asking.Claim f) h t k = soundly old (asking.Claim f) h t.stands k ((obey old (asking.Claim f)).0, (obey old (asking.Claim f)).1, refl)
obeys-some old (asking.Await m) h t k = soundly old (asking.Await m) h t.stands k ((obey old (asking.Await m)).0, (obey old (asking.Await m)).1, refl)
obeys-some old asking.Quit h t k = soundly old asking.Quit h t.stands k ((obey old asking.Quit).0, (obey old asking.Quit).1, refl)

line_obeyed-some : (old : State) (line : List ℕ) (r : Result Asked CommandError) → asked_of old line ≡ r → IsSoundState old → Some_response (ObeysLine old line r)
line_obeyed-some old line (Ok a) is h =
    obeys-some old a h (asked-timely old.form old.built (total_of old) old.problem.field (letters_of old) line a is) (known-asked old line a is)
line_obeyed-some old line (Err e) is h =
    ((refuse (is_claim (command_word old.form line)) old e).0, (refuse (is_claim (command_word old.form line)) old e).1, refl, refuse-sound (is_claim (command_word old.form line)) old e h)

commands-some : (long : Bool) (old : State) (line : List ℕ) → IsSoundState old → Some_response (Commands long old line)
commands-some true old line h =
    (Refused TooLong, (respond (Refused TooLong) old).1, refl, respond-sound old (Refused TooLong) h)
commands-some false old line h = line_obeyed-some old line (asked_of old line) refl h

judges-some : (old : State) (f : Poly) (given : Result block.Evidence block.BlockFault) → IsSoundState old → old.built ≡ true → IsRead old.problem given → Some_response (JudgesClaim old f given)
judges-some old f given h built raw =
    let v = judged-some old.problem.field old.problem.counts (forms_of old.problem) f given in (
      Judged v.0,
      (respond (Judged v.0) (shut old)).1,
      record {
        verdict = v.0;
        judged = v.1;
        responds = refl;
        justified = verdict-justified old.problem f given v.0 h.problem (h.accepted built) raw v.1;
      },
      record { problem = h.problem; accepted = h.accepted; claims = tt; reads = h.reads; shot = h.shot },
    )

pub read-evidence : (s : State) (lines : List (List ℕ)) (has_end : Bool) → IsSoundState s → s.built ≡ true → IsRead s.problem (evidence_of s.problem.field (letters_of s) lines has_end)
read-evidence s lines has_end h built =
    evidence-read s.problem (letters_of s) lines has_end h.problem.field (ap length (letters-built s.built s.problem.letters built) ∙ h.problem.generators.named)

ends-some : (o : Open) (old : State) (has_end : Bool) → old.block ≡ o → IsSoundState old → Some_response (EndsBlock o old has_end)
ends-some NoBlock old has_end is h = (Nothing, old, (refl, refl), h)
ends-some (Claimed f lines) old has_end is h =
    let built : old.built ≡ true = subst (λ o. IsAfterBuild o old.built) is h.claims in
    judges-some old f (evidence_of old.problem.field (letters_of old) lines has_end) h built (read-evidence old lines has_end h built)
ends-some (Skipped x) old has_end is h = (Refused (OfCommand x), (respond (Refused (OfCommand x)) (shut old)).1, refl, record { problem = h.problem; accepted = h.accepted; claims = tt; reads = h.reads; shot = h.shot })

inside-sound : (o : Open) (old : State) (line : List ℕ) → old.block ≡ o → IsSoundState old → IsSoundState (inside o old line)
inside-sound NoBlock old line is h = h
inside-sound (Claimed f lines) old line is h = record { problem = h.problem; accepted = h.accepted; claims = subst (λ o. IsAfterBuild o old.built) is h.claims; reads = h.reads; shot = h.shot }
inside-sound (Skipped x) old line is h = h

of_block-some : (ends : Bool) (old : State) (line : List ℕ) → IsSoundState old → Some_response (OfBlock ends old line)
of_block-some true old line h = ends-some old.block old true refl h
of_block-some false old line h = (Nothing, inside old.block old line, (refl, refl), inside-sound old.block old line refl h)

in-some : (o : Open) (old : State) (line : List ℕ) → IsSoundState old → Some_response (AnswersIn o old line)
in-some NoBlock old line h = commands-some (nat_lt 65536 (length line)) old line h
in-some (Claimed f lines) old line h = of_block-some (is_end line) old line h
in-some (Skipped x) old line h = of_block-some (is_end line) old line h

line-some : (closed : Bool) (old : State) (line : List ℕ) → IsSoundState old → Some_response (AnswersLine closed old line)
line-some true old line h = (Nothing, old, (refl, refl), h)
line-some false old line h = in-some old.block old line h

-- each line has an answer in a sound state, and leads to a sound one
pub step-some : (old : State) (line : List ℕ) → IsSoundState old → (shown : Option Pair) × (text : List ℕ) × (new : State) × Step old line shown text new × IsSoundState new
step-some old line h =
    let a = line-some old.closed old line h in
    (pair_shown a.1.shot a.0, text_of a.1 a.0, a.1, record { response = a.0; answers = a.2; shows = refl; responds = refl }, a.3)

end-some : (closed : Bool) (old : State) → IsSoundState old → Some_response (AnswersEnd closed old)
end-some true old h = (Nothing, old, (refl, refl), h)
end-some false old h = ends-some old.block old false refl h

-- the end of the lines has an answer in a sound state
pub finish-some : (old : State) → IsSoundState old → (text : List ℕ) × (new : State) × Finish old text new
finish-some old h =
    let a = end-some old.closed old h in
    (text_of a.1 a.0, a.1, record { response = a.0; answers = a.2; responds = refl })

-- ---- each step leads to a sound state

judges-sound : (old new : State) (f : Poly) (given : Result block.Evidence block.BlockFault) (response : Response) → IsSoundState old → JudgesClaim old f given response new → IsSoundState new
judges-sound old new f given response h j =
    subst (λ (s : State). IsSoundState s) (sym (ap (λ r. r.1) j.responds)) (record { problem = h.problem; accepted = h.accepted; claims = tt; reads = h.reads; shot = h.shot })

ends-sound : (o : Open) (old new : State) (has_end : Bool) (response : Response) → IsSoundState old → EndsBlock o old has_end response new → IsSoundState new
ends-sound NoBlock old new has_end response h e = subst (λ (s : State). IsSoundState s) (sym e.1) h
ends-sound (Claimed f lines) old new has_end response h e = judges-sound old new f (evidence_of old.problem.field (letters_of old) lines has_end) response h e
ends-sound (Skipped x) old new has_end response h e =
    subst (λ (s : State). IsSoundState s) (sym (ap (λ r. r.1) e)) (record { problem = h.problem; accepted = h.accepted; claims = tt; reads = h.reads; shot = h.shot })

of_block-sound : (ends : Bool) (old new : State) (line : List ℕ) (response : Response) → IsSoundState old → OfBlock ends old line response new → IsSoundState new
of_block-sound true old new line response h e = ends-sound old.block old new true response h e
of_block-sound false old new line response h e = subst (λ (s : State). IsSoundState s) (sym e.1) (inside-sound old.block old line refl h)

in-sound : (o : Open) (old new : State) (line : List ℕ) (response : Response) → IsSoundState old → AnswersIn o old line response new → IsSoundState new
in-sound NoBlock old new line response h e = commands-sound (nat_lt 65536 (length line)) old new line response h e
in-sound (Claimed f lines) old new line response h e = of_block-sound (is_end line) old new line response h e
in-sound (Skipped x) old new line response h e = of_block-sound (is_end line) old new line response h e

line-sound : (closed : Bool) (old new : State) (line : List ℕ) (response : Response) → IsSoundState old → AnswersLine closed old line response new → IsSoundState new
line-sound true old new line response h e = subst (λ (s : State). IsSoundState s) (sym e.1) h
line-sound false old new line response h e = in-sound old.block old new line response h e

pub step-sound : (old new : State) (line text : List ℕ) (shown : Option Pair) → IsSoundState old → Step old line shown text new → IsSoundState new
step-sound old new line text shown h s = line-sound old.closed old new line s.response h s.answers

pub sound-start : (m : Mode) (f : Form) → script_form m ≡ Some f → IsSoundState (start m f)
unfolding is_in_table primes
sound-start m f is = record {
  problem = record {
    field = refl;
    generators = record { named = refl; positive = All-nil _; low = omega arith };
    letters = none-letters;
    few = omega arith;
    homogeneous = tt;
    faultless = tt;
  };
  accepted = λ b. absurd (cc);
  claims = tt;
  reads = is;
  shot = has-early m (start m f).problem None;
}
