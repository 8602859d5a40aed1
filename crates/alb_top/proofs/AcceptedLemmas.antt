-- Evidence that `prove` printed is accepted by `check`.
use Rattle.std.proofs.Common.{◌≡◌, ℕ, true, false, List, [], ◌∷◌, ◌++◌, length, Option, Some, None, Result, Ok, refl, sym, ap, ◌∙◌, subst, arith}
use Rattle.std.specs.Prelude.{codes, nat_le, nat_lt, ◌&&◌}
use Rattle.std.proofs.lemmas.Bool.Decides.{nat_tests}
use Rattle.alb_io.specs.Reader.{lines_of}
use Rattle.alb_poly.specs.Poly.{Poly}
use Rattle.alb_problem.specs.Builder.{Builder, forms_of}
use Rattle.alb_script.specs.Asked as asking
use Rattle.alb_script.specs.Asked.{Asked, Claim}
use Rattle.alb_script.specs.declared.error.CommandError.{CommandError}
use Rattle.alb_script.specs.declared.form.Form.TheVariants as form
use Rattle.alb_evidence.specs.Block as block
use Rattle.alb_evidence.specs.Block.{evidence_of, words, is_end, are_end}
use Rattle.alb_judge.specs.Verdict.{Verdict, IsVerdict, verdict_text}
use Rattle.alb_judge.proofs.VerdictLemmas.{verdict-justified}
use Rattle.alb_question.specs.Laws.{IsProblem, IsBlockFor, verdict_of}
use Rattle.alb_question.specs.Question as questions
use Rattle.alb_question.specs.Question.{Finding, IsFinding, answer_text, proof_text, finding_text, Shot, Pair, rules_of, IsBuilt}
use Rattle.alb_question.proofs.Accepted.{proofs-accepted, proof-printed}
use Rattle.alb_top.specs.Script.{Response, Judged, Found, found_text, State, Claimed, Step, FindsBy, Obeys, ObeysLine, Commands, AnswersIn, AnswersLine, OfBlock, JudgesClaim, asked_of, letters_of, total_of, text_of, shut, respond}
use Rattle.alb_top.specs.Outcome.{Run}
use Rattle.alb_top.specs.Sound.{IsSoundState, HasBuilt}
use Rattle.alb_top.specs.View.{IsTimely}
use Rattle.alb_top.specs.Turns.{claimed}
use Rattle.alb_top.specs.Laws.{check, batch, IsReached, Asks, AnswersOnly, PrintsEvidence, EvidenceIsAccepted}
use Rattle.alb_top.specs.declared.mode.Mode.TheVariants as mode
use Rattle.alb_top.proofs.AskedLemmas.{asked-timely}
use Rattle.alb_top.proofs.RunLemmas.{Run-join, Run-one, Run-sound, silent}
use Rattle.alb_top.proofs.SoundLemmas.{sound-start, built-problem, read-evidence, letters-built, asked-shot}
use Rattle.alb_top.proofs.TurnLemmas.{inside-claimed, step-claimed}
use Rattle.alb_top.proofs.UniqueCheck.{IsCheck, run-only}

end-words : words (codes "end") ≡ codes "end" ∷ []
unfolding words
end-words = refl

end-is_end : is_end (codes "end") ≡ true
end-is_end = ap (λ ws. nat_le 3 65536 && are_end ws) end-words

module _ (s : State) (is_check : IsCheck s) (sound : IsSoundState s) (built : s.built ≡ true) (claim : List ℕ) (g : Poly) (asks : Asks s claim (Claim g)) where
  -- the script after the lines of a block
  abbrev inside : List (List ℕ) → State
  inside lines = record s { block = Claimed g lines }

  abbrev given : List (List ℕ) → Result block.Evidence block.BlockFault
  given lines = evidence_of s.problem.field (letters_of s) lines true

  -- the verdict on the lines of a block stands in the transcript
  judged : (lines : List (List ℕ)) (v : Verdict) → IsVerdict s.problem.field s.problem.counts (forms_of s.problem) g (given lines) v
      → JudgesClaim (inside lines) g (given lines) (Judged v) (respond (Judged v) (shut s)).1
  judged lines v is = record {
    verdict = v;
    judged = is;
    justified = verdict-justified s.problem g (given lines) v sound.problem (sound.accepted built) (read-evidence s lines true sound built) is;
    responds = refl;
  }

  end-step : (lines : List (List ℕ)) (v : Verdict) → IsVerdict s.problem.field s.problem.counts (forms_of s.problem) g (given lines) v
      → Step (inside lines) (codes "end") None (verdict_text v) (respond (Judged v) (shut s)).1
  end-step lines v is = record {
    response = Judged v;
    answers = subst (λ c. AnswersLine c (inside lines) (codes "end") (Judged v) (respond (Judged v) (shut s)).1) (sym asks.runs)
        (subst (λ b. OfBlock b (inside lines) (codes "end") (Judged v) (respond (Judged v) (shut s)).1) (sym end-is_end) (judged lines v is));
    shows = refl;
    responds = refl;
  }

  -- a claim and the text of its evidence are answered by the verdict alone
  pub answered : (text : List ℕ) (v : Verdict) → IsBlockFor s.problem g text v → AnswersOnly s (claim ∷ lines_of text) (verdict_text v)
  answered text v b =
      let seen : IsVerdict s.problem.field s.problem.counts (forms_of s.problem) g (given b.lines) v =
      subst (λ ls. IsVerdict s.problem.field s.problem.counts (forms_of s.problem) g (evidence_of s.problem.field ls b.lines true) v) (sym (letters-built s.built s.problem.letters built)) b.verdict in
      let last = (respond (Judged v) (shut s)).1 in
      let block : Run Step (claimed g s) (lines_of text) (silent b.lines ++ None ∷ []) (verdict_text v) last =
      subst (λ (ls : List (List ℕ)). Run Step (claimed g s) ls (silent b.lines ++ None ∷ []) (verdict_text v) last) (sym b.cut)
      (Run-join Step (claimed g s) (inside b.lines) last b.lines (codes "end" ∷ []) (silent b.lines) (None ∷ []) [] (verdict_text v) (inside-claimed s g [] b.lines asks.runs b.no_end)
      (Run-one Step (inside b.lines) last (codes "end") None (verdict_text v) (end-step b.lines v seen))) in
      let run : Run Step s (claim ∷ lines_of text) (None ∷ (silent b.lines ++ None ∷ [])) (verdict_text v) last =
      (None, silent b.lines ++ None ∷ [], [], verdict_text v, claimed g s, refl, refl, step-claimed s claim g asks.runs asks.outside asks.short asks.asked, block) in
      record {
        shown = None ∷ (silent b.lines ++ None ∷ []);
        last = last;
        run = run;
        only = λ other t end r. let o = run-only s end last (claim ∷ lines_of text) other (None ∷ (silent b.lines ++ None ∷ [])) t (verdict_text v) is_check r run in (o.0, o.1);
      }

reached-check : (s : State) → IsReached check s → IsCheck s
reached-check s r = (run-only check s s r.lines r.shown r.shown r.text r.text (record { mode = refl; shot = refl }) r.run r.run).2

reached-sound : (s : State) → IsReached check s → IsSoundState s
reached-sound s r = Run-sound check s r.lines r.shown r.text (sound-start mode.Check form.Check refl) r.run

batch-sound : (s : State) → IsReached batch s → IsSoundState s
batch-sound s r = Run-sound batch s r.lines r.shown r.text (sound-start mode.Batch form.Batch refl) r.run

-- evidence about the problem of another script is accepted
accepted-by : (s : State) (b : Builder) (claim text : List ℕ) (g : Poly) (v : Verdict) → IsReached check s → s.problem ≡ b → s.built ≡ true → Asks s claim (Claim g) → IsBlockFor b g text v
    → AnswersOnly s (claim ∷ lines_of text) (verdict_text v)
accepted-by s b claim text g v reached same built asks is =
    answered s (reached-check s reached) (reached-sound s reached) built claim g asks text v (subst (λ (c : Builder). IsBlockFor c g text v) (sym same) is)

-- ---- what `prove` prints

-- a command that a script is asked outside all blocks
obeyed : (s new : State) (line text : List ℕ) (shown : Option Pair) (a : Asked) → Asks s line a → Step s line shown text new
    → (response : Response) × Obeys s a response new × (text ≡ text_of new response)
obeyed s new line text shown a asks st =
    let out : AnswersIn s.block s line st.response new = subst (λ c. AnswersLine c s line st.response new) asks.runs st.answers in
    let free : Commands (nat_lt 65536 (length line)) s line st.response new = subst (λ o. AnswersIn o s line st.response new) asks.outside out in
    let short : nat_lt 65536 (length line) ≡ false = (let h = asks.short in grind (arith, nat_tests)) in
    let is : ObeysLine s line (asked_of s line) st.response new = subst (λ b. Commands b s line st.response new) short free in
    (st.response, subst (λ (r : Result Asked CommandError). ObeysLine s line r st.response new) asks.asked is, st.responds)

-- `prove` of a shot
found-proved : (o : Option Shot) (old new : State) (g : Poly) (response : Response) → old.shot ≡ o → IsProblem old.problem → HasBuilt old.problem o → FindsBy o old (questions.Prove g) response new
    → PrintsEvidence old g (text_of new response)
found-proved None old new g response is problem right e = absurd right
found-proved (Some s) old new g response is problem right e = record {
  shot = s;
  finding = e.finding;
  evidence = proof_text old.problem.letters s.table e.finding;
  asked = is;
  found = e.is;
  text_is = ap (λ x. text_of x.1 x.0) e.responds ∙ ap (λ o. found_text old.problem.letters o e.finding) is ∙ proof-printed (rules_of old.problem) old.problem.letters s.table g e.finding e.is;
  accepts = λ v due s' claim reached same built asks. accepted-by s' old.problem claim (proof_text old.problem.letters s.table e.finding) g v reached same built asks
      (proofs-accepted old.problem s.table g e.finding v problem right.right e.is due);
}

-- THE LAW
pub evidence-is-accepted : EvidenceIsAccepted
evidence-is-accepted old new line text shown g reached asks st =
    let sound = batch-sound old reached in
    let timely : IsTimely old.form old.built (asking.Prove g) = asked-timely old.form old.built (total_of old) old.problem.field (letters_of old) line (asking.Prove g) asks.asked in
    let o = obeyed old new line text shown (asking.Prove g) asks st in
    subst (PrintsEvidence old g) (sym o.2)
    (found-proved old.shot old new g o.0 refl (built-problem old sound timely.stands) (asked-shot old (asking.Prove g) tt sound timely timely.stands) o.1)
