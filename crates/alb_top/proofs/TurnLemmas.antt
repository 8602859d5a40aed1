-- How a turn goes through the lines of a block.
use Rattle.std.proofs.Common.{◌≡◌, ◌≢◌, ℕ, ◌+◌, ◌<◌, ◌≤◌, Bool, true, false, List, [], ◌∷◌, ◌++◌, length, Option, None, Result, Ok, Err, refl, sym, ap, ◌∙◌, subst, inl, inr, append_assoc, arith}
use Rattle.std.specs.Prelude.{if◌then◌else◌, nat_lt}
use Rattle.std.proofs.lemmas.List.{append-nil, length-append}
use Rattle.std.proofs.lemmas.Bool.Decides.{nat_tests}
use Rattle.alb_poly.specs.Poly.{Poly}
use Rattle.alb_io.specs.Reader.{Reader}
use Rattle.alb_io.specs.declared.step.LineStep.{LineStep}
use Rattle.alb_io.specs.declared.step.LineStep.TheVariants as step
use Rattle.alb_evidence.specs.Block.{is_end}
use Rattle.alb_evidence.specs.Reads.{ReadsLine, ReadsLines, HasNoEnd, ReadsBlock, Breaks}
use Rattle.alb_question.specs.Question.{Pair}
use Rattle.alb_script.specs.Asked.{Asked, Claim, command_word}
use Rattle.alb_script.specs.declared.error.CommandError.{CommandError}
use Rattle.alb_top.specs.Outcome.{Run}
use Rattle.alb_top.specs.Script.{Response, Nothing, Refused, OfCommand, TooLong, pair_shown, State, Open, NoBlock, Claimed, Skipped, Step, AnswersLine, AnswersIn, OfBlock, EndsBlock, Obeys, ObeysLine, Commands, refuse, is_claim, asked_of, text_of, respond}
use Rattle.alb_top.specs.View.{state, response_of}
use Rattle.alb_top.specs.declared.response.Response as Rust
use Rattle.alb_top.specs.declared.script.Script.{Script}
use Rattle.alb_top.specs.declared.turn.Taken.{Taken}
use Rattle.alb_top.specs.declared.turn.Taken.TheVariants as took
use Rattle.alb_top.specs.Turns.{TakesTurn, AnswersLines, Pauses, EndsLines, Stops, claimed, skipping}
use Rattle.alb_top.proofs.RunLemmas.{silent}

-- ---- reading

length_some : (line : List ℕ) → line ≢ [] → 0 < length line
length_some [] some = absurd (some refl)
length_some (b ∷ line) some = omega arith

-- less is left after a line
pub line-fewer : (old new : Reader) (now now' : Option (List ℕ)) (line : List ℕ) → ReadsLine old new now now' line → new.room + length new.held < old.room + length old.held
line-fewer old new now now' line r =
    let all = length-append old.held r.reads.got in
    elim r.is_first.1 [
      | inl feed ↦ omega (arith, all, ap length feed, length-append line (10 ∷ new.held), r.reads.room)
      | inr rest ↦ omega (arith, all, ap length rest.0, ap length rest.2, length_some line rest.1, r.reads.room)
    ]

pub lines-fewer : (lines : List (List ℕ)) (old new : Reader) (now now' : Option (List ℕ)) → ReadsLines lines old new now now' → new.room + length new.held ≤ old.room + length old.held
lines-fewer [] old new now now' r = subst (λ (s : Reader). s.room + length s.held ≤ old.room + length old.held) (sym r.0) (omega arith)
lines-fewer (line ∷ lines) old new now now' r = omega (arith, line-fewer old r.0 now r.1 line r.2, lines-fewer lines r.0 new r.1 now' r.3)

pub lines-more : (lines : List (List ℕ)) (line : List ℕ) (old mid new : Reader) (now between now' : Option (List ℕ)) → ReadsLines lines old mid now between → ReadsLine mid new between now' line
    → ReadsLines (lines ++ line ∷ []) old new now now'
lines-more [] line old mid new now between now' r s =
    (new, now', subst (λ (m : Reader). ReadsLine m new now now' line) r.0 (subst (λ b. ReadsLine mid new b now' line) r.1 s), (refl, refl))
lines-more (x ∷ lines) line old mid new now between now' r s = (r.0, r.1, r.2, lines-more lines line r.0 mid new r.1 between now' r.3 s)

-- ---- steps

-- a line outside all blocks
pub step-command : (s new : State) (line : List ℕ) (response : Response) → s.closed ≡ false → s.block ≡ NoBlock → Commands (nat_lt 65536 (length line)) s line response new
    → Step s line (pair_shown new.shot response) (text_of new response) new
step-command s new line response going out is = record {
  response = response;
  answers = subst (λ c. AnswersLine c s line response new) (sym going) (subst (λ o. AnswersIn o s line response new) (sym out) is);
  shows = refl;
  responds = refl;
}

-- a line that is not too long is obeyed
pub commands-short : (s new : State) (line : List ℕ) (response : Response) (r : Result Asked CommandError) → length line ≤ 65536 → asked_of s line ≡ r → ObeysLine s line r response new
    → Commands (nat_lt 65536 (length line)) s line response new
commands-short s new line response r short is h =
    let e : nat_lt 65536 (length line) ≡ false = grind (arith, nat_tests) in
    subst (λ b. Commands b s line response new) (sym e) (subst (λ (x : Result Asked CommandError). ObeysLine s line x response new) (sym is) h)

pub commands-long : (s new : State) (line : List ℕ) (response : Response) → 65536 < length line → (response, new) ≡ respond (Refused TooLong) s → Commands (nat_lt 65536 (length line)) s line response new
commands-long s new line response long h =
    let e : nat_lt 65536 (length line) ≡ true = grind (arith, nat_tests) in
    subst (λ b. Commands b s line response new) (sym e) h

-- the lines of a claim's block, up to its end
pub inside-claimed : (s : State) (f : Poly) (before lines : List (List ℕ)) → s.closed ≡ false → HasNoEnd lines
    → Run Step (record s { block = Claimed f before }) lines (silent lines) [] (record s { block = Claimed f (before ++ lines) })
inside-claimed s f before [] going h = (refl, refl, ap (λ (l : List (List ℕ)). record s { block = Claimed f l }) (append-nil before))
inside-claimed s f before (line ∷ lines) going h =
    let old : State = record s { block = Claimed f before } in
    let mid : State = record s { block = Claimed f (before ++ line ∷ []) } in
    let rest : Run Step mid lines (silent lines) [] (record s { block = Claimed f (before ++ line ∷ lines) }) =
    subst (λ (l : List (List ℕ)). Run Step mid lines (silent lines) [] (record s { block = Claimed f l })) (append_assoc before (line ∷ []) lines) (inside-claimed s f (before ++ line ∷ []) lines going h.1) in (
      None,
      silent lines,
      [],
      [],
      mid,
      refl,
      refl,
      record {
        response = Nothing;
        answers = subst (λ c. AnswersLine c old line Nothing mid) (sym going) (subst (λ b. OfBlock b old line Nothing mid) (sym h.0) (refl, refl));
        shows = refl;
        responds = refl;
      },
      rest,
    )

-- the lines of a refused claim's block, up to its end
pub inside-skipped : (s : State) (e : CommandError) (lines : List (List ℕ)) → s.closed ≡ false → HasNoEnd lines
    → Run Step (skipping e s) lines (silent lines) [] (skipping e s)
inside-skipped s e [] going h = (refl, refl, refl)
inside-skipped s e (line ∷ lines) going h =
    let old : State = skipping e s in (
      None,
      silent lines,
      [],
      [],
      old,
      refl,
      refl,
      record {
        response = Nothing;
        answers = subst (λ c. AnswersLine c old line Nothing old) (sym going) (subst (λ b. OfBlock b old line Nothing old) (sym h.0) (refl, refl));
        shows = refl;
        responds = refl;
      },
      inside-skipped s e lines going h.1,
    )

-- ---- the end of a block

-- the line that ends a block
end-step : (mid new : State) (line : List ℕ) (response : Response) → mid.closed ≡ false → AnswersIn mid.block mid line response new
    → Step mid line (pair_shown new.shot response) (text_of new response) new
end-step mid new line response going is = record { response = response; answers = subst (λ c. AnswersLine c mid line response new) (sym going) is; shows = refl; responds = refl }

-- a block with its line `end` was read
pub block-answered : (old new : Reader) (s mid next : State) (now now' : Option (List ℕ)) (lines : List (List ℕ)) (response : Response) → ReadsBlock true lines old new now now'
    → Run Step s lines (silent lines) [] mid → mid.closed ≡ false → ((line : List ℕ) → is_end line ≡ true → AnswersIn mid.block mid line response next) → AnswersLines old new s next now now' response
block-answered old new s mid next now now' lines response r run going ends = record {
  lines = lines ++ r.closes.0 ∷ [];
  reads = lines-more lines r.closes.0 old r.last new now r.between now' r.inside r.closes.2;
  answers = record {
    before = lines;
    line = r.closes.0;
    body = [];
    end = text_of next response;
    mid = mid;
    shown = silent lines;
    last = pair_shown next.shot response;
    lines_are = refl;
    text_is = refl;
    run = run;
    runs = going;
    step = end-step mid next r.closes.0 response going (ends r.closes.0 r.closes.1);
  };
  running = r.closes.2.running;
  fewer = omega (arith, lines-fewer lines old r.last now r.between r.inside, line-fewer r.last new r.between now' r.closes.0 r.closes.2);
}

-- a block was read to the end of the input
pub block-ended : (old new : Reader) (s mid next : State) (now now' : Option (List ℕ)) (lines : List (List ℕ)) (response : Response) → ReadsBlock false lines old new now now'
    → Run Step s lines (silent lines) [] mid → mid.closed ≡ false → EndsBlock mid.block mid false response next → EndsLines old new s next now now' response
block-ended old new s mid next now now' lines response r run going ends = record {
  mid = mid;
  pauses = record { lines = lines; last = r.last; between = r.between; inside = r.inside; shown = silent lines; run = run; breaks = r.closes; runs = going };
  ends = ends;
}

-- a block broke off
pub block-broken : (answer : LineStep) (old new : Reader) (s mid : State) (now now' : Option (List ℕ)) (b : Breaks answer old new now now')
    → Run Step s b.lines (silent b.lines) [] mid → mid.closed ≡ false → Stops answer old new s now now'
block-broken answer old new s mid now now' b run going =
    (mid, record { lines = b.lines; last = b.last; between = b.between; inside = b.inside; shown = silent b.lines; run = run; breaks = b.breaks; runs = going })

-- ---- a line before

pub answers-after : (first old new : Reader) (s mid next : State) (was now now' : Option (List ℕ)) (line : List ℕ) (response : Response) → ReadsLine first old was now line → Step s line None [] mid
    → AnswersLines old new mid next now now' response → AnswersLines first new s next was now' response
answers-after first old new s mid next was now now' line response r st a = record {
  lines = line ∷ a.lines;
  reads = (old, now, r, a.reads);
  answers = record {
    before = line ∷ a.answers.before;
    line = a.answers.line;
    body = a.answers.body;
    end = a.answers.end;
    mid = a.answers.mid;
    shown = None ∷ a.answers.shown;
    last = a.answers.last;
    lines_are = ap (λ l. line ∷ l) a.answers.lines_are;
    text_is = a.answers.text_is;
    run = (None, a.answers.shown, [], a.answers.body, mid, refl, refl, st, a.answers.run);
    runs = a.answers.runs;
    step = a.answers.step;
  };
  running = a.running;
  fewer = omega (arith, line-fewer first old was now line r, a.fewer);
}

pub pauses-after : (answer : LineStep) (first old new : Reader) (s mid next : State) (was now now' : Option (List ℕ)) (line : List ℕ) → ReadsLine first old was now line → Step s line None [] mid
    → Pauses answer old new mid next now now' → Pauses answer first new s next was now'
pauses-after answer first old new s mid next was now now' line r st a = record {
  lines = line ∷ a.lines;
  last = a.last;
  between = a.between;
  inside = (old, now, r, a.inside);
  shown = None ∷ a.shown;
  run = (None, a.shown, [], [], mid, refl, refl, st, a.run);
  breaks = a.breaks;
  runs = a.runs;
}

-- a line was read and answered
pub answers-line : (first old : Reader) (s next : State) (was now : Option (List ℕ)) (line : List ℕ) (response : Response) → s.closed ≡ false → ReadsLine first old was now line
    → Step s line (pair_shown next.shot response) (text_of next response) next
    → AnswersLines first old s next was now response
answers-line first old s next was now line response going r st = record {
  lines = line ∷ [];
  reads = (old, now, r, (refl, refl));
  answers = record {
    before = [];
    line = line;
    body = [];
    end = text_of next response;
    mid = s;
    shown = [];
    last = pair_shown next.shot response;
    lines_are = refl;
    text_is = refl;
    run = (refl, refl, refl);
    runs = going;
    step = st;
  };
  running = r.running;
  fewer = line-fewer first old was now line r;
}

-- ---- answers to a block

-- the end of a block was answered, with its line or with the end of the input
pub block-taken : (old new : Reader) (s mid : State) (now now' : Option (List ℕ)) (lines : List (List ℕ)) (has_end ended : Bool) (response : Rust.Response) (next : Script) (taken : Taken)
    → ReadsBlock has_end lines old new now now' → Run Step s lines (silent lines) [] mid → mid.closed ≡ false
    → ((line : List ℕ) → is_end line ≡ true → has_end ≡ true → AnswersIn mid.block mid line (response_of response) (state next)) → (has_end ≡ false → EndsBlock mid.block mid false (response_of response) (state next))
    → ended ≡ new.ended → taken ≡ (if ended then took.Last response next else took.Response response next) → TakesTurn taken old new s now now'
block-taken old new s mid now now' lines true ended response next taken r run going at_end at_last e is =
    let running : ended ≡ false = e ∙ r.closes.2.running in
    subst (λ (t : Taken). TakesTurn t old new s now now') (sym (is ∙ ap (λ (b : Bool). if b then took.Last response next else took.Response response next) running))
    (block-answered old new s mid (state next) now now' lines (response_of response) r run going (λ line k. at_end line k refl))
block-taken old new s mid now now' lines false ended response next taken r run going at_end at_last e is =
    let over : ended ≡ true = e ∙ r.closes.gives.4 in
    subst (λ (t : Taken). TakesTurn t old new s now now') (sym (is ∙ ap (λ (b : Bool). if b then took.Last response next else took.Response response next) over))
    (block-ended old new s mid (state next) now now' lines (response_of response) r run going (at_last refl))

skipped-ends : (s : State) (e : CommandError) (response : Rust.Response) (next : Script) (has_end : Bool) → s.block ≡ NoBlock → (response_of response, state next) ≡ respond (Refused (OfCommand e)) s
    → EndsBlock (Skipped e) (skipping e s) has_end (response_of response) (state next)
skipped-ends s e response next has_end out responds = responds ∙ ap (λ (o : Open). respond (Refused (OfCommand e)) (record s { block = o })) out

-- the block of a refused claim was read, and the claim is refused
pub skipped-taken : (old new : Reader) (s : State) (e : CommandError) (now now' : Option (List ℕ)) (lines : List (List ℕ)) (has_end : Bool) (response : Rust.Response) (next : Script) (ended : Bool) (taken : Taken)
    → s.closed ≡ false → s.block ≡ NoBlock → ReadsBlock has_end lines old new now now' → (response_of response, state next) ≡ respond (Refused (OfCommand e)) s → ended ≡ new.ended
    → taken ≡ (if ended then took.Last response next else took.Response response next) → TakesTurn taken old new (skipping e s) now now'
skipped-taken old new s e now now' lines has_end response next ended taken going out r responds over is =
    block-taken old new (skipping e s) (skipping e s) now now' lines has_end ended response next taken r (inside-skipped s e lines going r.no_end) going
    (λ line k h. subst (λ b. OfBlock b (skipping e s) line (response_of response) (state next)) (sym k) (skipped-ends s e response next true out responds)) (λ h. skipped-ends s e response next false out responds) over is

-- ---- what a line asks for

pub step-obeyed : (s new : State) (line : List ℕ) (response : Response) (a : Asked) → s.closed ≡ false → s.block ≡ NoBlock → length line ≤ 65536 → asked_of s line ≡ Ok a
    → Obeys s a response new → Step s line (pair_shown new.shot response) (text_of new response) new
step-obeyed s new line response a going out short is responds = step-command s new line response going out (commands-short s new line response (Ok a) short is responds)

pub step-claimed : (s : State) (line : List ℕ) (f : Poly) → s.closed ≡ false → s.block ≡ NoBlock → length line ≤ 65536 → asked_of s line ≡ Ok (Claim f) → Step s line None [] (claimed f s)
step-claimed s line f going out short is = step-command s (claimed f s) line Nothing going out (commands-short s (claimed f s) line Nothing (Ok (Claim f)) short is refl)

pub step-skipped : (s : State) (line : List ℕ) (e : CommandError) → s.closed ≡ false → s.block ≡ NoBlock → length line ≤ 65536 → asked_of s line ≡ Err e → is_claim (command_word s.form line) ≡ true
    → Step s line None [] (skipping e s)
step-skipped s line e going out short is claim =
    step-command s (skipping e s) line Nothing going out
    (commands-short s (skipping e s) line Nothing (Err e) short is (sym (ap (λ b. refuse b s e) claim)))

pub step-refused : (s new : State) (line : List ℕ) (response : Response) (e : CommandError) → s.closed ≡ false → s.block ≡ NoBlock → length line ≤ 65536 → asked_of s line ≡ Err e
    → is_claim (command_word s.form line) ≡ false → (response, new) ≡ respond (Refused (OfCommand e)) s → Step s line (pair_shown new.shot response) (text_of new response) new
step-refused s new line response e going out short is other responds =
    step-command s new line response going out (commands-short s new line response (Err e) short is (responds ∙ sym (ap (λ b. refuse b s e) other)))

-- a line before a turn
pub turn-after : (taken : Taken) (first old new : Reader) (s mid : State) (was now now' : Option (List ℕ)) (line : List ℕ) → ReadsLine first old was now line → Step s line None [] mid
    → TakesTurn taken old new mid now now' → TakesTurn taken first new s was now'
turn-after (took.Response r next) first old new s mid was now now' line read st t = answers-after first old new s mid (state next) was now now' line (response_of r) read st t
turn-after (took.Last r next) first old new s mid was now now' line read st t = record {
  mid = t.mid;
  pauses = pauses-after step.End first old new s mid t.mid was now now' line read st t.pauses;
  ends = t.ends;
}
turn-after took.ReadFault first old new s mid was now now' line read st t = (t.0, pauses-after step.ReadFault first old new s mid t.0 was now now' line read st t.1)
turn-after took.InputLimit first old new s mid was now now' line read st t = (t.0, pauses-after step.InputLimit first old new s mid t.0 was now now' line read st t.1)
turn-after took.NoMemory first old new s mid was now now' line read st t = record { lines = line ∷ t.lines; reads = (old, now, read, t.reads) }
