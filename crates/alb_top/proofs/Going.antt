-- How a run goes on, and how it ends.
use Rattle.std.proofs.Common.{◌≡◌, ◌≢◌, ◌⊎◌, ℕ, ◌+◌, ◌<◌, ◌≤◌, ◌^◌, Bool, true, false, List, [], ◌∷◌, ◌++◌, length, Option, None, Some, refl, sym, ap, ◌∙◌, subst, inl, inr, append_assoc, arith}
use Rattle.std.specs.Io.KnownBytes.{Appends}
use Rattle.std.proofs.KnownBytes.{Consumes-nil, Appends-nil, Appends-trans}
use Rattle.std.proofs.lemmas.List.{append-nil, length-append}
use Rattle.alb_io.specs.Reader.{lines_of, Reader, Reading, IsAll}
use Rattle.alb_io.specs.Puts.{AppendsFront}
use Rattle.alb_io.specs.declared.status.Status.{Status}
use Rattle.alb_io.specs.declared.status.Status.TheVariants as status
use Rattle.alb_io.specs.declared.step.LineStep.TheVariants as step
use Rattle.alb_io.proofs.Readings.{Reading-start, Reading-first, Reading-end, Reading-cut, Reading-lines, Reading-takes, HasRead-lines}
use Rattle.alb_evidence.specs.Reads.{ReadsLines}
use Rattle.alb_question.specs.Question.{Pair}
use Rattle.alb_top.specs.Outcome.{Run, IsTranscript, IsFront, IsInputRead, Transcribes, AnswersUpTo, Outcome, input_of}
use Rattle.alb_top.specs.Script.{Response, State, Step, EndsBlock, AnswersEnd, text_of}
use Rattle.alb_top.specs.Sound.{IsSoundState}
use Rattle.alb_top.specs.Does.{IsIdle}
use Rattle.alb_top.specs.Turns.{Going, AnswersLines, EndsLines, Stops, Gets, status_of}
use Rattle.alb_top.proofs.SoundLemmas.{finish-some}
use Rattle.alb_top.proofs.RunLemmas.{Run-sound, Run-join, Run-one, Run-some, Run-closed, Finish-closed, silent}

module _ (opening : State) (ready : IsSoundState opening) where
  pub Going-start : (reader : Reader) (first before : Option (List ℕ)) → reader.held ≡ [] → reader.at_end ≡ false → reader.room ≡ 2 ^ 40 → Going opening reader opening first first before before
  Going-start reader first before none running room = record {
    taken = [];
    lines = [];
    text = [];
    reading = Reading-start reader first none running;
    written = Appends-nil before;
    shown = [];
    run = (refl, refl, refl);
    room = omega (arith, room);
  }

  pub Going-sound : (reader : Reader) (script : State) (first now before after : Option (List ℕ)) → Going opening reader script first now before after → IsSoundState script
  Going-sound reader script first now before after p = Run-sound opening script p.lines p.shown p.text ready p.run

-- ---- reading

-- more lines were read
record ReadsOn (taken : List ℕ) (lines more : List (List ℕ)) (old new : Reader) (first now : Option (List ℕ)) : Type 0 where
  got : List ℕ
  reading : Reading (taken ++ got) (lines ++ more) new first now
  room : new.room + length got ≡ old.room

reads-on : (taken : List ℕ) (lines more : List (List ℕ)) (old new : Reader) (first now now' : Option (List ℕ)) → Reading taken lines old first now → ReadsLines more old new now now'
    → ReadsOn taken lines more old new first now'
reads-on taken lines [] old new first now now' p r = record {
  got = [];
  reading = subst (λ t. Reading t (lines ++ []) new first now') (sym (append-nil taken)) (subst (λ l. Reading taken l new first now') (sym (append-nil lines))
      (subst (λ (n : Reader). Reading taken lines n first now') (sym r.0) (subst (λ o. Reading taken lines old first o) (sym r.1) p)));
  room = let same : new.room ≡ old.room = ap (λ (n : Reader). n.room) r.0 in omega (arith, same);
}
reads-on taken lines (line ∷ more) old new first now now' p r =
    let one = Reading-first taken lines line old r.0 first now r.1 r.2.answer p r.2.reads r.2.is_first in
    let rest = reads-on (taken ++ r.2.reads.got) (lines ++ line ∷ []) more r.0 new first r.1 now' one r.3 in
    record {
      got = r.2.reads.got ++ rest.got;
      reading = subst (λ t. Reading t (lines ++ line ∷ more) new first now') (append_assoc taken r.2.reads.got rest.got)
          (subst (λ l. Reading ((taken ++ r.2.reads.got) ++ rest.got) l new first now') (append_assoc lines (line ∷ []) more) rest.reading);
      room = omega (arith, r.2.reads.room, rest.room, length-append r.2.reads.got rest.got);
    }

-- ---- the input, as far as it is known

either_end : (b : Bool) → (b ≡ true) ⊎ (b ≡ false)
either_end true = inl refl
either_end false = inr refl

lines-taken : (taken : List ℕ) (lines : List (List ℕ)) (reader : Reader) (first now : Option (List ℕ)) → Reading taken lines reader first now → (more : List (List ℕ)) × (lines_of taken ≡ lines ++ more)
lines-taken taken lines reader first now p = elim (either_end reader.at_end) [
  | inl end ↦ (lines_of reader.held, (p.at_end end).0)
  | inr running ↦ (lines_of (reader.held ++ []), ap lines_of (sym (append-nil taken)) ∙ HasRead-lines taken lines reader.held [] (p.so_far running))
]

-- its lines begin with those that were read
lines-input : (taken : List ℕ) (lines : List (List ℕ)) (reader : Reader) (first now : Option (List ℕ)) → Reading taken lines reader first now
    → (more : List (List ℕ)) × (lines_of (input_of first taken) ≡ lines ++ more)
lines-input taken lines reader None now p = lines-taken taken lines reader None now p
lines-input taken lines reader (Some input) now p = Reading-lines taken lines reader (Some input) now input p refl

-- all of it was taken
input-all : (first : Option (List ℕ)) (taken : List ℕ) → IsAll first taken → input_of first taken ≡ taken
input-all None taken all = refl
input-all (Some input) taken all = all

-- the lines are answered
up_to-run : (old new : State) (lines : List (List ℕ)) (text : List ℕ) (a : AnswersUpTo old lines text new) → Run Step old lines (a.shown ++ a.last ∷ []) text new
up_to-run old new lines text a =
    subst (λ l. Run Step old l (a.shown ++ a.last ∷ []) text new) (sym a.lines_are) (subst (λ t. Run Step old (a.before ++ a.line ∷ []) (a.shown ++ a.last ∷ []) t new) (sym a.text_is)
    (Run-join Step old a.mid new a.before (a.line ∷ []) a.shown (a.last ∷ []) a.body a.end a.run (Run-one Step a.mid new a.line a.last a.end a.step)))

-- lines before, which are answered
up_to-join : (old mid new : State) (xs ys : List (List ℕ)) (shown : List (Option Pair)) (t u : List ℕ) → Run Step old xs shown t mid → AnswersUpTo mid ys u new → AnswersUpTo old (xs ++ ys) (t ++ u) new
up_to-join old mid new xs ys shown t u run a = record {
  before = xs ++ a.before;
  line = a.line;
  body = t ++ a.body;
  end = a.end;
  mid = a.mid;
  shown = shown ++ a.shown;
  last = a.last;
  lines_are = ap (λ l. xs ++ l) a.lines_are ∙ sym (append_assoc xs a.before (a.line ∷ []));
  text_is = ap (λ l. t ++ l) a.text_is ∙ sym (append_assoc t a.body a.end);
  run = Run-join Step old mid a.mid xs a.before shown a.shown t a.body run a.run;
  runs = a.runs;
  step = a.step;
}

module _ (opening : State) (ready : IsSoundState opening) where
  -- lines were read and answered
  pub Going-lines : (old new : Reader) (script next : State) (first now now' before after after' : Option (List ℕ)) (response : Response)
      → Going opening old script first now before after → AnswersLines old new script next now now' response → Appends after after' (text_of next response)
      → Going opening new next first now' before after'
  Going-lines old new script next first now now' before after after' response p a put =
      let on = reads-on p.taken p.lines a.lines old new first now now' p.reading a.reads in
      record {
        taken = p.taken ++ on.got;
        lines = p.lines ++ a.lines;
        text = p.text ++ text_of next response;
        reading = on.reading;
        written = Appends-trans before after after' p.text (text_of next response) p.written put;
        shown = p.shown ++ (a.answers.shown ++ a.answers.last ∷ []);
        run = Run-join Step opening script next p.lines a.lines p.shown (a.answers.shown ++ a.answers.last ∷ []) p.text (text_of next response) p.run
            (up_to-run script next a.lines (text_of next response) a.answers);
        room = omega (arith, p.room, on.room, length-append p.taken on.got);
      }

  -- lines were read that ask for no answer
  going-quietly : (old new : Reader) (script next : State) (first now now' before after : Option (List ℕ)) (lines : List (List ℕ))
      → (shown : List (Option Pair)) → Going opening old script first now before after → ReadsLines lines old new now now' → Run Step script lines shown [] next → Going opening new next first now' before after
  going-quietly old new script next first now now' before after lines shown p r run =
      let on = reads-on p.taken p.lines lines old new first now now' p.reading r in
      record {
        taken = p.taken ++ on.got;
        lines = p.lines ++ lines;
        text = p.text ++ [];
        reading = on.reading;
        written = subst (λ t. Appends before after t) (sym (append-nil p.text)) p.written;
        shown = p.shown ++ shown;
        run = Run-join Step opening script next p.lines lines p.shown shown p.text [] p.run run;
        room = omega (arith, p.room, on.room, length-append p.taken on.got);
      }

  -- ---- transcripts

  -- what was appended is a front of the transcript of the input
  front_of : (input : List ℕ) (lines more : List (List ℕ)) (shown : List (Option Pair)) (text front rest : List ℕ) (script : State) → lines_of input ≡ lines ++ more → Run Step opening lines shown text script → text ≡ front ++ rest → IsFront opening input front
  front_of input lines more shown text front rest script is run cut =
      let sound = Run-sound opening script lines shown text ready run in
      let others = Run-some script more sound in
      let end = finish-some others.2 (Run-sound script others.2 more others.0 others.1 sound others.3) in
      let whole : front ++ (rest ++ others.1 ++ end.0) ≡ (text ++ others.1) ++ end.0 =
      sym (append_assoc front (rest ++ others.1) end.0) ∙ ap (λ l. l ++ end.0) (sym (append_assoc front rest others.1) ∙ ap (λ l. l ++ others.1) (sym cut)) in
      record {
        rest = rest ++ others.1 ++ end.0;
        clean = end.1.clean;
        transcript = record {
          shown = shown ++ others.0;
          last = end.1;
          answers = (
            text ++ others.1,
            end.0,
            others.2,
            whole,
            subst (λ l. Run Step opening l (shown ++ others.0) (text ++ others.1) others.2) (sym is) (Run-join Step opening script others.2 lines more shown others.0 text others.1 run others.3),
            end.2,
          );
          judged = refl;
        };
      }

  by_status : (clean : Bool) (input taken text : List ℕ) → IsTranscript opening input text clean → IsInputRead opening input taken text → Transcribes opening (status_of clean) input taken text
  by_status true input taken text p q = (p, q)
  by_status false input taken text p q = (p, q)

  ended_transcript : (input taken : List ℕ) (lines : List (List ℕ)) (shown : List (Option Pair)) (text : List ℕ) (script next : State) (response : Response) → input ≡ taken → lines_of taken ≡ lines → Run Step opening lines shown text script
      → script.closed ≡ false → EndsBlock script.block script false response next → IsTranscript opening input (text ++ text_of next response) next.clean
  ended_transcript input taken lines shown text script next response all is run going ends = record {
    shown = shown;
    last = next;
    answers = (text, text_of next response, script, refl, subst (λ l. Run Step opening l shown text script) (sym (ap lines_of all ∙ is)) run, record { response = response; answers = subst (λ c. AnswersEnd c script response next) (sym going) ends; responds = refl });
    judged = refl;
  }

  ended_by_status : (input taken : List ℕ) (lines : List (List ℕ)) (shown : List (Option Pair)) (text : List ℕ) (script next : State) (response : Response) → input ≡ taken → length taken < 2 ^ 40 → lines_of taken ≡ lines
      → Run Step opening lines shown text script → script.closed ≡ false → EndsBlock script.block script false response next → Transcribes opening (status_of next.clean) input taken (text ++ text_of next response)
  ended_by_status input taken lines shown text script next response all few is run going ends =
      by_status next.clean input taken _ (ended_transcript input taken lines shown text script next response all is run going ends) (inl (all, few))

  front_of_end : (input taken : List ℕ) (lines : List (List ℕ)) (shown : List (Option Pair)) (text front rest : List ℕ) (script next : State) (response : Response) → input ≡ taken → lines_of taken ≡ lines → Run Step opening lines shown text script
      → script.closed ≡ false → EndsBlock script.block script false response next → text_of next response ≡ front ++ rest → IsFront opening input (text ++ front)
  front_of_end input taken lines shown text front rest script next response all is run going ends cut = record {
    rest = rest;
    clean = next.clean;
    transcript = subst (λ l. IsTranscript opening input l next.clean) (ap (λ l. text ++ l) cut ∙ sym (append_assoc text front rest)) (ended_transcript input taken lines shown text script next response all is run going ends);
  }

  closed_transcript : (input : List ℕ) (lines more : List (List ℕ)) (shown : List (Option Pair)) (text : List ℕ) (script : State) → lines_of input ≡ lines ++ more → Run Step opening lines shown text script → script.closed ≡ true
      → IsTranscript opening input text script.clean
  closed_transcript input lines more shown text script is run closed = record {
    shown = shown ++ silent more;
    last = script;
    answers = (
      text ++ [],
      [],
      script,
      sym (append-nil (text ++ []) ∙ append-nil text),
      subst (λ l. Run Step opening l (shown ++ silent more) (text ++ []) script) (sym is) (Run-join Step opening script script lines more shown (silent more) text [] run (Run-closed script more closed)),
      Finish-closed script closed,
    );
    judged = refl;
  }

  -- ---- outcomes

  -- no more was taken than may be
  within : (room taken : ℕ) → room + taken ≡ 2 ^ 40 → taken ≤ 2 ^ 40
  within room taken e = omega arith

  below : (room taken : ℕ) → room + taken ≡ 2 ^ 40 → 0 < room → taken < 2 ^ 40
  below room taken e some = omega arith

  all_room : (room got before taken : ℕ) (a b : List ℕ) → length a ≡ taken → length b ≡ got → room + got ≡ before → before + taken ≡ 2 ^ 40 → room + length (a ++ b) ≡ 2 ^ 40
  all_room room got before taken a b x y e f = omega (arith, length-append a b, x, y, e, f)

  -- the input ended
  pub Outcome-end : (old new : Reader) (script next : State) (first now now' before after after' : Option (List ℕ)) (response : Response)
      → Going opening old script first now before after → EndsLines old new script next now now' response → Appends after after' (text_of next response)
      → Outcome opening (status_of next.clean) first now' before after'
  Outcome-end old new script next first now now' before after after' response p a put =
      let q = going-quietly old a.pauses.last script a.mid first now a.pauses.between before after a.pauses.lines a.pauses.shown p a.pauses.inside a.pauses.run in
      let r = a.pauses.breaks in
      let end = Reading-end q.taken q.lines a.pauses.last new first a.pauses.between now' q.reading r in
      let room = all_room new.room (length r.got) a.pauses.last.room (length q.taken) q.taken r.got refl refl r.room q.room in
      record {
        taken = q.taken ++ r.got;
        text = q.text ++ text_of next response;
        consumed = end.0;
        written = Appends-trans before after after' q.text (text_of next response) q.written put;
        limit = within new.room (length (q.taken ++ r.got)) room;
        transcribes = ended_by_status (input_of first (q.taken ++ r.got)) (q.taken ++ r.got) q.lines q.shown q.text a.mid next response (input-all first (q.taken ++ r.got) end.2) (below new.room (length (q.taken ++ r.got)) room (r.drained r.gives.3).1)
            end.1 q.run a.pauses.runs a.ends;
      }

  pub Outcome-end_fault : (old new : Reader) (script next : State) (first now now' before after after' : Option (List ℕ)) (response : Response)
      → Going opening old script first now before after → EndsLines old new script next now now' response → AppendsFront after after' (text_of next response)
      → Outcome opening status.WriteFault first now' before after'
  Outcome-end_fault old new script next first now now' before after after' response p a put =
      let q = going-quietly old a.pauses.last script a.mid first now a.pauses.between before after a.pauses.lines a.pauses.shown p a.pauses.inside a.pauses.run in
      let r = a.pauses.breaks in
      let end = Reading-end q.taken q.lines a.pauses.last new first a.pauses.between now' q.reading r in
      record {
        taken = q.taken ++ r.got;
        text = q.text ++ put.front;
        consumed = end.0;
        written = Appends-trans before after after' q.text put.front q.written put.taken;
        limit = within new.room (length (q.taken ++ r.got)) (all_room new.room (length r.got) a.pauses.last.room (length q.taken) q.taken r.got refl refl r.room q.room);
        transcribes = front_of_end (input_of first (q.taken ++ r.got)) (q.taken ++ r.got) q.lines q.shown q.text put.front put.rest a.mid next response (input-all first (q.taken ++ r.got) end.2) end.1 q.run a.pauses.runs a.ends put.whole;
      }

  -- the script ended with a line
  pub Outcome-closed : (old new : Reader) (script next : State) (first now now' before after after' : Option (List ℕ)) (response : Response)
      → Going opening old script first now before after → AnswersLines old new script next now now' response → Appends after after' (text_of next response) → next.closed ≡ true
      → Outcome opening (status_of next.clean) first now' before after'
  Outcome-closed old new script next first now now' before after after' response p a put closed =
      let on = reads-on p.taken p.lines a.lines old new first now now' p.reading a.reads in
      let more = lines-input (p.taken ++ on.got) (p.lines ++ a.lines) new first now' on.reading in
      let answers = up_to-join opening script next p.lines a.lines p.shown p.text (text_of next response) p.run a.answers in
      record {
        taken = p.taken ++ on.got;
        text = p.text ++ text_of next response;
        consumed = on.reading.consumed;
        written = Appends-trans before after after' p.text (text_of next response) p.written put;
        limit = within new.room (length (p.taken ++ on.got)) (all_room new.room (length on.got) old.room (length p.taken) p.taken on.got refl refl on.room p.room);
        transcribes = by_status next.clean (input_of first (p.taken ++ on.got)) (p.taken ++ on.got) (p.text ++ text_of next response)
            (closed_transcript (input_of first (p.taken ++ on.got)) (p.lines ++ a.lines) more.0 (p.shown ++ (a.answers.shown ++ a.answers.last ∷ [])) (p.text ++ text_of next response) next more.1
            (Run-join Step opening script next p.lines a.lines p.shown (a.answers.shown ++ a.answers.last ∷ []) p.text (text_of next response) p.run (up_to-run script next a.lines (text_of next response) a.answers)) closed)
            (inr (record {
              lines = p.lines ++ a.lines;
              more = more.0;
              last = next;
              cut = more.1;
              takes = Reading-takes (p.taken ++ on.got) (p.lines ++ a.lines) new first now' on.reading;
              answers = answers;
              closed = closed;
            }));
      }

  -- the source failed
  pub Outcome-read_fault : (old new : Reader) (script : State) (first now now' before after : Option (List ℕ)) → Going opening old script first now before after → Stops step.ReadFault old new script now now'
      → Outcome opening status.ReadFault first now' before after
  Outcome-read_fault old new script first now now' before after p s =
      let a = s.1 in
      let q = going-quietly old a.last script s.0 first now a.between before after a.lines a.shown p a.inside a.run in
      let r = a.breaks in
      let cut = Reading-cut q.taken q.lines a.last new first a.between now' step.ReadFault q.reading r r.gives.0 r.gives.2 in
      record {
        taken = q.taken ++ r.got;
        text = q.text;
        consumed = cut.0;
        written = q.written;
        limit = within new.room (length (q.taken ++ r.got)) (all_room new.room (length r.got) a.last.room (length q.taken) q.taken r.got refl refl r.room q.room);
        transcribes = record { shown = q.shown; last = s.0; run = subst (λ l. Run Step opening l q.shown q.text s.0) (sym cut.1) q.run; runs = a.runs };
      }

  pub Outcome-limit : (old new : Reader) (script : State) (first now now' before after : Option (List ℕ)) → Going opening old script first now before after → Stops step.InputLimit old new script now now'
      → Outcome opening status.InputLimit first now' before after
  Outcome-limit old new script first now now' before after p s =
      let a = s.1 in
      let q = going-quietly old a.last script s.0 first now a.between before after a.lines a.shown p a.inside a.run in
      let r = a.breaks in
      let cut = Reading-cut q.taken q.lines a.last new first a.between now' step.InputLimit q.reading r r.gives.0 r.gives.2 in
      let room = all_room new.room (length r.got) a.last.room (length q.taken) q.taken r.got refl refl r.room q.room in
      record {
        taken = q.taken ++ r.got;
        text = q.text;
        consumed = cut.0;
        written = q.written;
        limit = within new.room (length (q.taken ++ r.got)) room;
        transcribes = (
          record { shown = q.shown; last = s.0; run = subst (λ l. Run Step opening l q.shown q.text s.0) (sym cut.1) q.run; runs = a.runs },
          omega (arith, room, r.gives.3),
        );
      }

  -- lines were read, and their answer was not written whole
  pub Outcome-write_fault : (old new : Reader) (script next : State) (first now now' before after after' : Option (List ℕ)) (response : Response)
      → Going opening old script first now before after → AnswersLines old new script next now now' response → AppendsFront after after' (text_of next response)
      → Outcome opening status.WriteFault first now' before after'
  Outcome-write_fault old new script next first now now' before after after' response p a put =
      let on = reads-on p.taken p.lines a.lines old new first now now' p.reading a.reads in
      let more = lines-input (p.taken ++ on.got) (p.lines ++ a.lines) new first now' on.reading in
      record {
        taken = p.taken ++ on.got;
        text = p.text ++ put.front;
        consumed = on.reading.consumed;
        written = Appends-trans before after after' p.text put.front p.written put.taken;
        limit = within new.room (length (p.taken ++ on.got)) (all_room new.room (length on.got) old.room (length p.taken) p.taken on.got refl refl on.room p.room);
        transcribes = front_of (input_of first (p.taken ++ on.got)) (p.lines ++ a.lines) more.0 (p.shown ++ (a.answers.shown ++ a.answers.last ∷ [])) (p.text ++ text_of next response) (p.text ++ put.front) put.rest next more.1
            (Run-join Step opening script next p.lines a.lines p.shown (a.answers.shown ++ a.answers.last ∷ []) p.text (text_of next response) p.run (up_to-run script next a.lines (text_of next response) a.answers))
            (ap (λ l. p.text ++ l) put.whole ∙ sym (append_assoc p.text put.front put.rest));
      }

  -- lines were read, and there was no memory to answer them
  pub Outcome-no_memory : (old new : Reader) (script : State) (first now now' before after : Option (List ℕ))
      → Going opening old script first now before after → Gets old new now now' → Outcome opening status.NoMemory first now' before after
  Outcome-no_memory old new script first now now' before after p g =
      let on = reads-on p.taken p.lines g.lines old new first now now' p.reading g.reads in
      let more = lines-input (p.taken ++ on.got) (p.lines ++ g.lines) new first now' on.reading in
      record {
        taken = p.taken ++ on.got;
        text = p.text;
        consumed = on.reading.consumed;
        written = p.written;
        limit = within new.room (length (p.taken ++ on.got)) (all_room new.room (length on.got) old.room (length p.taken) p.taken on.got refl refl on.room p.room);
        transcribes = front_of (input_of first (p.taken ++ on.got)) p.lines (g.lines ++ more.0) p.shown p.text p.text [] script (more.1 ∙ append_assoc p.lines g.lines more.0) p.run (sym (append-nil p.text));
      }

  -- nothing was read or written
  pub Outcome-nothing : (first before : Option (List ℕ)) → Outcome opening status.NoMemory first first before before
  Outcome-nothing first before = record {
    taken = [];
    text = [];
    consumed = Consumes-nil first;
    written = Appends-nil before;
    limit = omega arith;
    transcribes = front_of (input_of first []) [] (lines_of (input_of first [])) [] [] [] [] opening refl (refl, refl, refl) refl;
  }

pub idle : (first before : Option (List ℕ)) → IsIdle first first before before
idle first before = record { consumed = Consumes-nil first; written = Appends-nil before }

-- ---- the status of a script that was read

pub record IsPlain (s : Status) : Type 0 where
  pub not_read : s ≢ status.ReadFault
  pub not_write : s ≢ status.WriteFault
  pub not_usage : s ≢ status.Usage
  pub not_open : s ≢ status.OpenFault
  pub not_report : s ≢ status.ReportFault

pub plain_status : (clean : Bool) (s : Status) → s ≡ status_of clean → IsPlain s
plain_status true s is = record { not_read = λ e. cc; not_write = λ e. cc; not_usage = λ e. cc; not_open = λ e. cc; not_report = λ e. cc }
plain_status false s is = record { not_read = λ e. cc; not_write = λ e. cc; not_usage = λ e. cc; not_open = λ e. cc; not_report = λ e. cc }
