-- How a session goes on, and how it ends.
use Rattle.std.proofs.Common.{◌≡◌, ◌⊎◌, ℕ, ◌+◌, ◌-◌, ◌<◌, ◌≤◌, ◌^◌, Bool, true, false, List, [], ◌∷◌, ◌++◌, length, Option, None, Some, Ok, refl, sym, ap, ◌∙◌, subst, inl, inr, append_assoc, arith}
use Rattle.std.specs.Prelude.{nat_lt, ◌≢◌}
use Rattle.std.specs.Io.KnownBytes.{Appends}
use Rattle.std.proofs.KnownBytes.{Appends-nil, Appends-trans}
use Rattle.std.proofs.lemmas.Bool.Decides.{nat_tests}
use Rattle.std.proofs.lemmas.List.{append-nil, length-append}
use Rattle.alb_board.specs.declared.kept.PassView.{PassView}
use Rattle.alb_io.specs.Reader.{Reader, Reads, Reading, IsAll, lines_of}
use Rattle.alb_io.specs.Puts.{AppendsFront}
use Rattle.alb_io.specs.declared.step.LineStep.{LineStep}
use Rattle.alb_io.specs.declared.step.LineStep.TheVariants as step
use Rattle.alb_io.proofs.Readings.{Reading-start, Reading-first, Reading-end, Reading-cut, Reading-lines, Reading-takes, HasRead-lines}
use Rattle.alb_script.specs.Asked.{Quit}
use Rattle.alb_session.specs.Session.{Session, Support, Step, AnswersLine, AnswersShort, AnswersUnless, nothing, asked_of, is_skipped}
use Rattle.alb_session.specs.Served.{Run, all_shots, session_of, Answered, IsFront, IsTranscript, Served, input_of}
use Rattle.alb_session.specs.Turns.{ReadsLine, AnswersNext, QuitsBy, Going}
use Rattle.alb_session.specs.View.{AnswersOne}
use Rattle.alb_session.specs.declared.end.SessionEnd.TheVariants as session_end
use Rattle.alb_session.proofs.StepLemmas.{Run-join, Run-one, shots-append, answered, run-some, closed-run}
use Rattle.alb_table.specs.RightTable.{RulesView}

-- ---- reading

length_some : (xs : List ℕ) → xs ≢ [] → 0 < length xs
length_some [] h = absurd (h refl)
length_some (x ∷ xs) h = omega arith

-- less is left after a line
pub line-fewer : (old new : Reader) (now now' : Option (List ℕ)) (line : List ℕ) → ReadsLine old new now now' line → new.room + length new.held < old.room + length old.held
line-fewer old new now now' line r =
    let all = length-append old.held r.reads.got in
    elim r.is_first.1 [
      | inl feed ↦ omega (arith, all, ap length feed, length-append line (10 ∷ new.held), r.reads.room)
      | inr rest ↦ omega (arith, all, ap length rest.0, ap length rest.2, length_some line rest.1, r.reads.room)
    ]

either_end : (b : Bool) → (b ≡ true) ⊎ (b ≡ false)
either_end true = inl refl
either_end false = inr refl

lines-taken : (taken : List ℕ) (lines : List (List ℕ)) (reader : Reader) (first now : Option (List ℕ)) → Reading taken lines reader first now → (more : List (List ℕ)) × (lines_of taken ≡ lines ++ more)
lines-taken taken lines reader first now p = elim (either_end reader.at_end) [
  | inl end ↦ (lines_of reader.held, (p.at_end end).0)
  | inr running ↦ (lines_of (reader.held ++ []), ap lines_of (sym (append-nil taken)) ∙ HasRead-lines taken lines reader.held [] (p.so_far running))
]

-- the lines of the input begin with those that were read
lines-input : (taken : List ℕ) (lines : List (List ℕ)) (reader : Reader) (first now : Option (List ℕ)) → Reading taken lines reader first now
    → (more : List (List ℕ)) × (lines_of (input_of first taken) ≡ lines ++ more)
lines-input taken lines reader None now p = lines-taken taken lines reader None now p
lines-input taken lines reader (Some input) now p = Reading-lines taken lines reader (Some input) now input p refl

-- the same after a call that gave no line
lines-got : (taken : List ℕ) (lines : List (List ℕ)) (reader next : Reader) (first now now' : Option (List ℕ)) (answer : LineStep) → Reading taken lines reader first now → (a : Reads answer reader next now now')
    → (more : List (List ℕ)) × (lines_of (taken ++ a.got) ≡ lines ++ more)
lines-got taken lines reader next first now now' answer p a = elim (either_end reader.at_end) [
  | inl end ↦ (lines_of reader.held, ap lines_of (ap (λ l. taken ++ l) (a.at_end end).0 ∙ append-nil taken) ∙ (p.at_end end).0)
  | inr running ↦ (lines_of (reader.held ++ a.got), HasRead-lines taken lines reader.held a.got (p.so_far running))
]

cut-input : (taken : List ℕ) (lines : List (List ℕ)) (reader next : Reader) (first now now' : Option (List ℕ)) (answer : LineStep) → Reading taken lines reader first now → (a : Reads answer reader next now now')
    → (more : List (List ℕ)) × (lines_of (input_of first (taken ++ a.got)) ≡ lines ++ more)
cut-input taken lines reader next None now now' answer p a = lines-got taken lines reader next None now now' answer p a
cut-input taken lines reader next (Some input) now now' answer p a = Reading-lines taken lines reader (Some input) now input p refl

-- all of it was taken
input-all : (first : Option (List ℕ)) (taken : List ℕ) → IsAll first taken → input_of first taken ≡ taken
input-all None taken all = refl
input-all (Some input) taken all = all

-- ---- room

taken_within : (limit room taken : ℕ) → room + taken ≡ limit → taken ≤ limit
taken_within limit room taken e = omega arith

below : (limit room taken : ℕ) → room + taken ≡ limit → 0 < room → taken < limit
below limit room taken e some = omega arith

all_room : (limit room got before : ℕ) (a b : List ℕ) → length b ≡ got → room + got ≡ before → before + length a ≡ limit → room + length (a ++ b) ≡ limit
all_room limit room got before a b y e f = omega (arith, length-append a b, y, e, f)

module _ (r : RulesView) (letters : List ℕ) (limit : ℕ) (v : PassView) where
  pub Going-start : (reader : Reader) (first before : Option (List ℕ)) → reader.held ≡ [] → reader.at_end ≡ false → reader.room ≡ limit → Going r letters limit v v reader first first before before
  Going-start reader first before none running room = record {
    taken = [];
    lines = [];
    text = [];
    reading = Reading-start reader first none running;
    written = Appends-nil before;
    supports = [];
    run = (refl, refl, refl);
    shots = sym (append-nil v.shots);
    room = omega (arith, room);
    few = let empty : length reader.held ≡ 0 = ap length none in omega (arith, empty, room);
    calls = omega arith;
  }

  -- enough calls are left for a line
  pub Going-room : (w : PassView) (reader : Reader) (first now before after : Option (List ℕ)) → Going r letters limit v w reader first now before after → limit ≤ 2 ^ 40 → v.calls + 2 ^ 41 ≤ 2 ^ 48 → w.calls + 16 ≤ 2 ^ 48
  Going-room w reader first now before after g h room = omega (arith, g.calls, g.few, h, room)

  -- ---- fronts

  front-of : (w : PassView) (input : List ℕ) (lines more : List (List ℕ)) (supports : List Support) (text front rest : List ℕ) → lines_of input ≡ lines ++ more
      → Run (Step r letters) (session_of v false) lines supports text (session_of w false) → w.shots ≡ v.shots ++ all_shots supports → text ≡ front ++ rest → IsFront r letters v w input front
  front-of w input lines more supports text front rest is run shots cut =
      let others = run-some r letters (session_of w false) more in
      let whole : text ++ others.1 ≡ front ++ (rest ++ others.1) = ap (λ l. l ++ others.1) cut ∙ append_assoc front rest others.1 in
      let all : all_shots (supports ++ others.0) ≡ all_shots supports = shots-append supports others.0 ∙ ap (λ l. all_shots supports ++ l) others.3 ∙ append-nil (all_shots supports) in
      let runs = Run-join (Step r letters) (session_of v false) (session_of w false) (session_of w false) lines more supports others.0 text others.1 run others.2 in
      record {
        rest = rest ++ others.1;
        transcript = record {
          closed = false;
          answers = answered r letters v w (lines_of input) (supports ++ others.0) (front ++ (rest ++ others.1)) false
              (subst (λ l. Run (Step r letters) (session_of v false) l (supports ++ others.0) (front ++ (rest ++ others.1)) (session_of w false)) (sym is)
              (subst (λ t. Run (Step r letters) (session_of v false) (lines ++ more) (supports ++ others.0) t (session_of w false)) whole runs))
              (shots ∙ sym (ap (λ l. v.shots ++ l) all));
        };
      }

  -- ---- a line more

  module _ (w : PassView) (reader next : Reader) (first now now' before after : Option (List ℕ)) (g : Going r letters limit v w reader first now before after) where
    -- a line was read and answered
    module _ (w' : PassView) (text : List ℕ) (a : AnswersNext r letters w w' reader next now now' text) where
      abbrev all_lines : List (List ℕ)
      all_lines = g.lines ++ a.line ∷ []

      abbrev all_supports : List Support
      all_supports = g.supports ++ a.answers.support ∷ []

      next-reading : Reading (g.taken ++ a.reads.reads.got) all_lines next first now'
      next-reading = Reading-first g.taken g.lines a.line reader next first now now' a.reads.answer g.reading a.reads.reads a.reads.is_first

      next-run : Run (Step r letters) (session_of v false) all_lines all_supports (g.text ++ text) (session_of w' false)
      next-run = Run-join (Step r letters) (session_of v false) (session_of w false) (session_of w' false) g.lines (a.line ∷ []) g.supports (a.answers.support ∷ []) g.text text g.run
          (Run-one (Step r letters) (session_of w false) (session_of w' false) a.line a.answers.support text a.answers.step)

      next-shots : w'.shots ≡ v.shots ++ all_shots all_supports
      next-shots = a.answers.took.shots ∙ ap (λ l. l ++ a.answers.support.shots) g.shots ∙ append_assoc v.shots (all_shots g.supports) a.answers.support.shots
          ∙ ap (λ l. v.shots ++ l) (sym (shots-append g.supports (a.answers.support ∷ []) ∙ ap (λ l. all_shots g.supports ++ l) (append-nil a.answers.support.shots)))

      next-room : next.room + length (g.taken ++ a.reads.reads.got) ≡ limit
      next-room = all_room limit next.room (length a.reads.reads.got) reader.room g.taken a.reads.reads.got refl a.reads.reads.room g.room

      pub Going-next : (after' : Option (List ℕ)) → Appends after after' text → Going r letters limit v w' next first now' before after'
      Going-next after' put = record {
        taken = g.taken ++ a.reads.reads.got;
        lines = all_lines;
        text = g.text ++ text;
        reading = next-reading;
        written = Appends-trans before after after' g.text text g.written put;
        supports = all_supports;
        run = next-run;
        shots = next-shots;
        room = next-room;
        few = let more : length all_lines ≡ length g.lines + 1 = length-append g.lines (a.line ∷ []) in omega (arith, more, g.few, line-fewer reader next now now' a.line a.reads);
        calls = let more : length all_lines ≡ length g.lines + 1 = length-append g.lines (a.line ∷ []) in omega (arith, more, g.calls, a.answers.took.spends.calls);
      }

      -- its answer was not written whole
      pub Served-write_fault : (after' : Option (List ℕ)) → AppendsFront after after' text → Served session_end.WriteFault r letters v w' limit first now' before after'
      Served-write_fault after' put =
          let more = lines-input (g.taken ++ a.reads.reads.got) all_lines next first now' next-reading in
          record {
            taken = g.taken ++ a.reads.reads.got;
            text = g.text ++ put.front;
            consumed = next-reading.consumed;
            written = Appends-trans before after after' g.text put.front g.written put.taken;
            within = taken_within limit next.room (length (g.taken ++ a.reads.reads.got)) next-room;
            transcribes = front-of w' (input_of first (g.taken ++ a.reads.reads.got)) all_lines more.0 all_supports (g.text ++ text) (g.text ++ put.front) put.rest more.1 next-run next-shots
                (ap (λ l. g.text ++ l) put.whole ∙ sym (append_assoc g.text put.front put.rest));
          }

    -- the session ended with a line
    quits-short : (line : List ℕ) (b : Bool) → b ≡ false → asked_of r letters line ≡ Ok Quit → AnswersShort b r letters (session_of w false) line nothing [] (session_of w true)
    quits-short line true h asks = absurd (cc)
    quits-short line false h asks =
        subst (λ x. AnswersUnless (is_skipped x) r letters (session_of w false) x nothing [] (session_of w true)) (sym asks) (inl (refl, refl, refl))

    not_long : (n : ℕ) → n ≤ 65536 → nat_lt 65536 n ≡ false
    not_long n h = grind (arith, nat_tests)

    pub Served-quit : QuitsBy r letters reader next now now' → Served session_end.Ended r letters v w limit first now' before after
    Served-quit q =
        let taken = g.taken ++ q.reads.reads.got in
        let reading = Reading-first g.taken g.lines q.line reader next first now now' q.reads.answer g.reading q.reads.reads q.reads.is_first in
        let more = lines-input taken (g.lines ++ q.line ∷ []) next first now' reading in
        let cut : lines_of (input_of first taken) ≡ g.lines ++ q.line ∷ more.0 = more.1 ∙ append_assoc g.lines (q.line ∷ []) more.0 in
        let silent = closed-run r letters (session_of w true) more.0 refl in
        let step = quits-short q.line (nat_lt 65536 (length q.line)) (not_long (length q.line) q.short) q.asks in
        let ends = Run-join (Step r letters) (session_of w false) (session_of w true) (session_of w true) (q.line ∷ []) more.0 (nothing ∷ []) silent.0 [] [] (Run-one (Step r letters) (session_of w false) (session_of w true) q.line nothing [] step) silent.1 in
        let runs = Run-join (Step r letters) (session_of v false) (session_of w false) (session_of w true) g.lines (q.line ∷ more.0) g.supports (nothing ∷ silent.0) g.text [] g.run ends in
        let all : all_shots (g.supports ++ nothing ∷ silent.0) ≡ all_shots g.supports = shots-append g.supports (nothing ∷ silent.0) ∙ ap (λ l. all_shots g.supports ++ l) silent.2 ∙ append-nil (all_shots g.supports) in
        record {
          taken = taken;
          text = g.text;
          consumed = reading.consumed;
          written = g.written;
          within = taken_within limit next.room (length taken) (all_room limit next.room (length q.reads.reads.got) reader.room g.taken q.reads.reads.got refl q.reads.reads.room g.room);
          transcribes = (
            record {
              closed = true;
              answers = answered r letters v w (lines_of (input_of first taken)) (g.supports ++ nothing ∷ silent.0) g.text true
                  (subst (λ l. Run (Step r letters) (session_of v false) l (g.supports ++ nothing ∷ silent.0) g.text (session_of w true)) (sym cut)
                  (subst (λ t. Run (Step r letters) (session_of v false) (g.lines ++ q.line ∷ more.0) (g.supports ++ nothing ∷ silent.0) t (session_of w true)) (append-nil g.text) runs))
                  (g.shots ∙ sym (ap (λ l. v.shots ++ l) all));
            },
            inr (record {
              before = g.lines;
              quit = q.line;
              more = more.0;
              cut = cut;
              takes = Reading-takes taken (g.lines ++ q.line ∷ []) next first now' reading;
              answers = answered r letters v w g.lines g.supports g.text false g.run g.shots;
              short = q.short;
              asks = q.asks;
            }),
          );
        }

    -- the input ended
    pub Served-end : Reads step.End reader next now now' → Served session_end.Ended r letters v w limit first now' before after
    Served-end a =
        let taken = g.taken ++ a.got in
        let end = Reading-end g.taken g.lines reader next first now now' g.reading a in
        let room = all_room limit next.room (length a.got) reader.room g.taken a.got refl a.room g.room in
        let all = input-all first taken end.2 in
        record {
          taken = taken;
          text = g.text;
          consumed = end.0;
          written = g.written;
          within = taken_within limit next.room (length taken) room;
          transcribes = (
            record {
              closed = false;
              answers = answered r letters v w (lines_of (input_of first taken)) g.supports g.text false
                  (subst (λ l. Run (Step r letters) (session_of v false) l g.supports g.text (session_of w false)) (sym (ap lines_of all ∙ end.1)) g.run) g.shots;
            },
            inl (all, below limit next.room (length taken) room (a.drained a.gives.3).1),
          );
        }

    -- no line came: the bytes so far are those of the lines, with no whole line after them
    pub Served-read_fault : Reads step.ReadFault reader next now now' → Served session_end.ReadFault r letters v w limit first now' before after
    Served-read_fault a =
        let taken = g.taken ++ a.got in
        let cut = Reading-cut g.taken g.lines reader next first now now' step.ReadFault g.reading a a.gives.0 a.gives.2 in
        let more = cut-input g.taken g.lines reader next first now now' step.ReadFault g.reading a in
        record {
          taken = taken;
          text = g.text;
          consumed = cut.0;
          written = g.written;
          within = taken_within limit next.room (length taken) (all_room limit next.room (length a.got) reader.room g.taken a.got refl a.room g.room);
          transcribes = (
            front-of w (input_of first taken) g.lines more.0 g.supports g.text g.text [] more.1 g.run g.shots (sym (append-nil g.text)),
            answered r letters v w _ g.supports g.text false (subst (λ l. Run (Step r letters) (session_of v false) l g.supports g.text (session_of w false)) (sym cut.1) g.run) g.shots,
          );
        }

    -- no more may be taken
    pub Served-limit : Reads step.InputLimit reader next now now' → Served session_end.InputLimit r letters v w limit first now' before after
    Served-limit a =
        let taken = g.taken ++ a.got in
        let cut = Reading-cut g.taken g.lines reader next first now now' step.InputLimit g.reading a a.gives.0 a.gives.2 in
        let more = cut-input g.taken g.lines reader next first now now' step.InputLimit g.reading a in
        let room = all_room limit next.room (length a.got) reader.room g.taken a.got refl a.room g.room in
        record {
          taken = taken;
          text = g.text;
          consumed = cut.0;
          written = g.written;
          within = taken_within limit next.room (length taken) room;
          transcribes = (
            front-of w (input_of first taken) g.lines more.0 g.supports g.text g.text [] more.1 g.run g.shots (sym (append-nil g.text)),
            answered r letters v w _ g.supports g.text false (subst (λ l. Run (Step r letters) (session_of v false) l g.supports g.text (session_of w false)) (sym cut.1) g.run) g.shots,
            omega (arith, room, a.gives.3),
          );
        }
