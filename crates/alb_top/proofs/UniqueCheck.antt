-- A script of `check` has one transcript.
use Rattle.std.proofs.Common.{◌≡◌, ℕ, Bool, true, false, List, [], ◌∷◌, ◌++◌, length, Option, Some, None, Result, Ok, Err, refl, sym, ap, ap₂, ◌∙◌, subst}
use Rattle.std.specs.Prelude.{nat_lt}
use Rattle.alb_poly.specs.Poly.{Poly}
use Rattle.alb_problem.specs.Builder as refusals
use Rattle.alb_problem.specs.Builder.{finish_refusal, forms_of}
use Rattle.alb_script.specs.Asked as asking
use Rattle.alb_script.specs.Asked.{Asked, command_word}
use Rattle.alb_script.specs.declared.error.CommandError.{CommandError}
use Rattle.alb_evidence.specs.Block as block
use Rattle.alb_evidence.specs.Block.{evidence_of, is_end}
use Rattle.alb_judge.specs.Verdict.{Verdict}
use Rattle.alb_judge.proofs.VerdictLemmas.{verdict-only}
use Rattle.alb_question.specs.Question.{Question, Shot, Pair}
use Rattle.alb_top.specs.Script.{Response, Nothing, Ready, Refused, Judged, TooLong, OfCommand, OfProblem, pair_shown, State, Open, NoBlock, Claimed, Skipped, start, stated, with_problem, respond, obey, BuildsBy, BuildsUnless, FindsBy, Obeys, ObeysLine, Commands, refuse, is_claim, asked_of, letters_of, shut, JudgesClaim, EndsBlock, inside, OfBlock, AnswersIn, AnswersLine, AnswersEnd, Step, Finish, text_of}
use Rattle.alb_top.specs.Outcome.{Run, AnswersAll}
use Rattle.alb_top.specs.Laws.{check, CheckIsUnique}
use Rattle.alb_top.specs.declared.mode.Mode as modes
use Rattle.alb_top.specs.declared.mode.Mode.TheVariants as mode

-- a script of `check`, which has no shot
pub record IsCheck (s : State) : Type 0 where
  pub mode : s.mode ≡ mode.Check
  pub shot : s.shot ≡ None

-- there is at most one response, and after it a script of `check`
abbrev IsOnly : (Response → State → Type 0) → Type 0
IsOnly AnswersAll = (r q : Response) (m n : State) → AnswersAll r m → AnswersAll q n → (r ≡ q) × (m ≡ n) × IsCheck m

-- an answer that is given outright
given-only : (a : Response × State) → IsCheck a.1 → IsOnly (λ r n. (r, n) ≡ a)
given-only a c r q m n h k =
    let e : (r, m) ≡ (q, n) = h ∙ sym k in
    (ap (λ x. x.0) e, ap (λ x. x.1) e, subst (λ (s : State). IsCheck s) (sym (ap (λ x. x.1) h)) c)

nothing-only : (s : State) → IsCheck s → IsOnly (λ r n. (r ≡ Nothing) × (n ≡ s))
nothing-only s c r q m n h k = (h.0 ∙ sym k.0, h.1 ∙ sym k.1, subst (λ (s : State). IsCheck s) (sym h.1) c)

-- ---- commands

respond-check : (response : Response) (s : State) → IsCheck s → IsCheck (respond response s).1
respond-check response s c = record { mode = c.mode; shot = c.shot }

stated-check : (s : State) (a : Asked) → IsCheck s → IsCheck (with_problem s (stated s.problem a)).1
stated-check s a c = record { mode = c.mode; shot = c.shot }

obey-check : (s : State) (a : Asked) → IsCheck s → IsCheck (obey s a).1
obey-check s asking.Blank c = record { mode = c.mode; shot = c.shot }
obey-check s (asking.Field p) c = record { mode = c.mode; shot = c.shot }
obey-check s (asking.Generators ts end) c = record { mode = c.mode; shot = c.shot }
obey-check s (asking.Identity f) c = record { mode = c.mode; shot = c.shot }
obey-check s asking.Build c = record { mode = c.mode; shot = c.shot }
obey-check s (asking.Polynomial g) c = record { mode = c.mode; shot = c.shot }
obey-check s (asking.Prove g) c = record { mode = c.mode; shot = c.shot }
obey-check s asking.Dimensions c = record { mode = c.mode; shot = c.shot }
obey-check s asking.Table c = record { mode = c.mode; shot = c.shot }
obey-check s (asking.Claim g) c = record { mode = c.mode; shot = c.shot }
obey-check s (asking.Await n) c = record { mode = c.mode; shot = c.shot }
obey-check s asking.Quit c = record { mode = c.mode; shot = c.shot }

builds-only : (old : State) (m : modes.Mode) → m ≡ mode.Check → IsCheck old → IsOnly (λ r n. BuildsBy m old r n)
builds-only old mode.Check is c = given-only (respond Ready (record old { built = true })) (record { mode = c.mode; shot = c.shot })
builds-only old mode.Batch is c = absurd (cc)
builds-only old (mode.Sample n) is c = absurd (cc)

unless-only : (o : Option refusals.ProblemRefusal) (old : State) → IsCheck old → IsOnly (λ r n. BuildsUnless o old r n)
unless-only None old c = builds-only old old.mode c.mode c
unless-only (Some x) old c = given-only (respond (Refused (OfProblem x)) old) (respond-check (Refused (OfProblem x)) old c)

-- there is no shot to ask
finds-only : (o : Option Shot) (old : State) (q : Question) → o ≡ None → IsOnly (λ r n. FindsBy o old q r n)
finds-only None old q is r x m n h k = absurd h
finds-only (Some s) old q is r x m n h k = absurd (cc)

obeys-only : (old : State) (a : Asked) → IsCheck old → IsOnly (λ r n. Obeys old a r n)
obeys-only old asking.Build c = unless-only (finish_refusal old.problem) old c
obeys-only old (asking.Polynomial g) c = finds-only old.shot old _ c.shot
obeys-only old (asking.Prove g) c = finds-only old.shot old _ c.shot
obeys-only old asking.Dimensions c = finds-only old.shot old _ c.shot
obeys-only old asking.Table c = finds-only old.shot old _ c.shot
obeys-only old asking.Blank c = given-only (obey old asking.Blank) (obey-check old asking.Blank c)
obeys-only old (asking.Field p) c = given-only (obey old (asking.Field p)) (obey-check old (asking.Field p) c)
obeys-only old (asking.Generators ts end) c = given-only (obey old (asking.Generators ts end)) (obey-check old (asking.Generators ts end) c)
obeys-only old (asking.Identity f) c = given-only (obey old (asking.Identity f)) (obey-check old (asking.Identity f) c)
obeys-only old (asking.Claim f) c = given-only (obey old (asking.Claim f)) (obey-check old (asking.Claim f) c)
obeys-only old (asking.Await m) c = given-only (obey old (asking.Await m)) (obey-check old (asking.Await m) c)
obeys-only old asking.Quit c = given-only (obey old asking.Quit) (obey-check old asking.Quit c)

refused-check : (b : Bool) (s : State) (e : CommandError) → IsCheck s → IsCheck (refuse b s e).1
refused-check true s e c = record { mode = c.mode; shot = c.shot }
refused-check false s e c = record { mode = c.mode; shot = c.shot }

line_obeyed-only : (old : State) (line : List ℕ) (r : Result Asked CommandError) → IsCheck old → IsOnly (λ q n. ObeysLine old line r q n)
line_obeyed-only old line (Ok a) c = obeys-only old a c
line_obeyed-only old line (Err e) c = given-only (refuse (is_claim (command_word old.form line)) old e) (refused-check (is_claim (command_word old.form line)) old e c)

commands-only : (long : Bool) (old : State) (line : List ℕ) → IsCheck old → IsOnly (λ r n. Commands long old line r n)
commands-only true old line c = given-only (respond (Refused TooLong) old) (respond-check (Refused TooLong) old c)
commands-only false old line c = line_obeyed-only old line (asked_of old line) c

-- ---- blocks

judges-only : (old : State) (f : Poly) (given : Result block.Evidence block.BlockFault) → IsCheck old → IsOnly (λ r n. JudgesClaim old f given r n)
judges-only old f given c r q m n h k =
    let e = verdict-only old.problem.field old.problem.counts (forms_of old.problem) f given h.verdict k.verdict h.judged k.judged in
    given-only (respond (Judged h.verdict) (shut old)) (record { mode = c.mode; shot = c.shot }) r q m n h.responds
    (k.responds ∙ ap (λ v. respond (Judged v) (shut old)) (sym e))

ends-only : (o : Open) (old : State) (has_end : Bool) → IsCheck old → IsOnly (λ r n. EndsBlock o old has_end r n)
ends-only NoBlock old has_end c = nothing-only old c
ends-only (Claimed f lines) old has_end c = judges-only old f (evidence_of old.problem.field (letters_of old) lines has_end) c
ends-only (Skipped e) old has_end c = given-only (respond (Refused (OfCommand e)) (shut old)) (record { mode = c.mode; shot = c.shot })

inside-check : (o : Open) (s : State) (line : List ℕ) → IsCheck s → IsCheck (inside o s line)
inside-check NoBlock s line c = c
inside-check (Claimed f lines) s line c = record { mode = c.mode; shot = c.shot }
inside-check (Skipped e) s line c = c

of_block-only : (ends : Bool) (old : State) (line : List ℕ) → IsCheck old → IsOnly (λ r n. OfBlock ends old line r n)
of_block-only true old line c = ends-only old.block old true c
of_block-only false old line c = nothing-only (inside old.block old line) (inside-check old.block old line c)

in-only : (o : Open) (old : State) (line : List ℕ) → IsCheck old → IsOnly (λ r n. AnswersIn o old line r n)
in-only NoBlock old line c = commands-only (nat_lt 65536 (length line)) old line c
in-only (Claimed f lines) old line c = of_block-only (is_end line) old line c
in-only (Skipped e) old line c = of_block-only (is_end line) old line c

line-only : (closed : Bool) (old : State) (line : List ℕ) → IsCheck old → IsOnly (λ r n. AnswersLine closed old line r n)
line-only true old line c = nothing-only old c
line-only false old line c = in-only old.block old line c

end-only : (closed : Bool) (old : State) → IsCheck old → IsOnly (λ r n. AnswersEnd closed old r n)
end-only true old c = nothing-only old c
end-only false old c = ends-only old.block old false c

-- ---- transcripts

-- the same text in the same state
same-text : (m n : State) (r q : Response) → r ≡ q → m ≡ n → text_of m r ≡ text_of n q
same-text m n r q e s = ap₂ (λ (x : State) (y : Response). text_of x y) s e

step-only : (old m n : State) (line t u : List ℕ) (a b : Option Pair) → IsCheck old → Step old line a t m → Step old line b u n → (t ≡ u) × (m ≡ n) × IsCheck m
step-only old m n line t u a b c x y =
    let e = line-only old.closed old line c x.response y.response m n x.answers y.answers in
    (x.responds ∙ same-text m n x.response y.response e.0 e.1 ∙ sym y.responds, e.1, e.2)

pub run-only : (old m n : State) (lines : List (List ℕ)) (ps qs : List (Option Pair)) (t u : List ℕ) → IsCheck old → Run Step old lines ps t m → Run Step old lines qs u n → (t ≡ u) × (m ≡ n) × IsCheck m
run-only old m n [] ps qs t u c a b = (a.1 ∙ sym b.1, a.2 ∙ sym b.2, subst (λ (s : State). IsCheck s) (sym a.2) c)
run-only old m n (line ∷ lines) ps qs t u c a b =
    let e = step-only old a.4 b.4 line a.2 b.2 a.0 b.0 c a.7 b.7 in
    let r = run-only a.4 m n lines a.1 b.1 a.3 b.3 e.2 a.8 (subst (λ (s : State). Run Step s lines b.1 b.3 n) (sym e.1) b.8) in
    (a.6 ∙ ap (λ l. l ++ a.3) e.0 ∙ ap (λ l. b.2 ++ l) r.0 ∙ sym b.6, r.1, r.2)

finish-only : (old m n : State) (t u : List ℕ) → IsCheck old → Finish old t m → Finish old u n → (t ≡ u) × (m ≡ n)
finish-only old m n t u c a b =
    let e = end-only old.closed old c a.response b.response m n a.answers b.answers in
    (a.responds ∙ same-text m n a.response b.response e.0 e.1 ∙ sym b.responds, e.1)

pub check-unique : CheckIsUnique
check-unique lines ps qs t u last end a b =
    let r = run-only check a.2 b.2 lines ps qs a.0 b.0 (record { mode = refl; shot = refl }) a.4 b.4 in
    let f = finish-only a.2 last end a.1 b.1 r.2 a.5 (subst (λ (s : State). Finish s b.1 end) (sym r.1) b.5) in
    (a.3 ∙ ap (λ l. l ++ a.1) r.0 ∙ ap (λ l. b.0 ++ l) f.0 ∙ sym b.3, f.1)
