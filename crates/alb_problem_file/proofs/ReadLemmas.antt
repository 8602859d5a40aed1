-- How a problem file is read, line after line.
use Rattle.std.proofs.Common.{◌≡◌, ◌≢◌, ◌⊎◌, ℕ, ◌+◌, ◌<◌, ◌≤◌, ◌^◌, Bool, true, false, List, [], ◌∷◌, ◌++◌, length, Option, None, Some, Result, Err, refl, sym, ap, ◌∙◌, subst, inl, inr, append_assoc, arith}
use Rattle.std.proofs.lemmas.List.{append-nil, length-append}
use Rattle.alb_io.specs.Reader.{lines_of, whole_lines, Reader, Reads, Reading, IsAll}
use Rattle.alb_io.specs.declared.step.LineStep.TheVariants as step
use Rattle.alb_io.proofs.Readings.{Reading-start, Reading-first, Reading-end, Reading-cut, Reading-lines, HasRead-lines}
use Rattle.alb_problem.specs.Builder.{Builder}
use Rattle.alb_problem.specs.declared.problem.Problem.{Problem}
use Rattle.alb_problem_file.specs.File.{no_problem, Said, Ends, Refuses, says, finished, or_stops, stated_from, problem_of, GoOn}
use Rattle.alb_problem_file.specs.Read.{input_of, IsOpen, IsProblemOf, ReadsProblem}
use Rattle.alb_script.specs.Refusals.{too_long_text}
use Rattle.alb_problem_file.specs.Codes.{code_in}
use Rattle.alb_problem_file.specs.Steps.{ReadsLine, IsSaid, SaysLine, Going, IsFinished}
use Rattle.alb_problem_file.specs.declared.line.Said as lines
use Rattle.alb_problem_file.specs.declared.line.Said.TheVariants as said
use Rattle.alb_problem_file.specs.declared.stop.ProblemStop.{ProblemStop}
use Rattle.alb_problem_file.specs.declared.stop.ProblemStop.TheVariants as stop
use Rattle.alb_problem_file.proofs.SaidLemmas.{says-long}
use Rattle.alb_problem_file.proofs.FileLemmas.{go-on-more, stated-after, stated-line, stated-none, finished-is}

-- ---- lines

length_some : (line : List ℕ) → line ≢ [] → 0 < length line
length_some [] some = absurd (some refl)
length_some (b ∷ line) some = omega arith

-- less is left after a line
pub line-fewer : (old new : Reader) (now now' : Option (List ℕ)) (line : List ℕ) → ReadsLine old new now now' line → new.room + length new.held < old.room + length old.held
line-fewer old new now now' line r =
    let all = length-append old.held r.reads.got in
    elim r.is_first.1 [
      | inl feed ↦ omega (arith, all, ap length feed, length-append line (10 ∷ new.held), r.reads.room)
      | inr rest ↦ omega (arith, all, ap length rest.0, ap length rest.2, length_some line rest.1, r.reads.room)
    ]

-- ---- what a line says

pub Line-says : (s : lines.Said) (old new : Reader) (before now : Option (List ℕ)) (b c : Builder) (shown : List ℕ) → Reads step.Line old new before now → Some shown ≡ new.line
    → IsSaid s (says b shown) c → SaysLine s old new before now b c
Line-says s old new before now b c shown r is h =
    let both : Some shown ≡ Some r.gives.0 = is ∙ r.gives.1 in
    let e : shown ≡ r.gives.0 = cc in
    record {
      line = r.gives.0;
      reads = record { answer = step.Line; reads = r; is_first = r.gives.3; running = r.gives.4 };
      said = subst (λ l. IsSaid s (says b l) c) e h;
    }

pub Long-says : (code : ℕ) (old new : Reader) (before now : Option (List ℕ)) (b c : Builder) → Reads step.TooLong old new before now → code ≡ code_in too_long_text
    → SaysLine (said.Refused code) old new before now b c
Long-says code old new before now b c r is = record {
  line = r.gives.0;
  reads = record { answer = step.TooLong; reads = r; is_first = r.gives.3; running = r.gives.4 };
  said = says-long b r.gives.0 r.gives.2 ∙ ap Refuses (sym is);
}

-- ---- the input, as far as it is known

either_end : (b : Bool) → (b ≡ true) ⊎ (b ≡ false)
either_end true = inl refl
either_end false = inr refl

lines-taken : (taken : List ℕ) (lines : List (List ℕ)) (reader : Reader) (first now : Option (List ℕ)) → Reading taken lines reader first now → (more : List (List ℕ)) × (lines_of taken ≡ lines ++ more)
lines-taken taken lines reader first now p = elim (either_end reader.at_end) [
  | inl end ↦ (lines_of reader.held, (p.at_end end).0)
  | inr running ↦ (lines_of (reader.held ++ []), ap lines_of (sym (append-nil taken)) ∙ HasRead-lines taken lines reader.held [] (p.so_far running))
]

-- its lines begin with those that were read
lines-input : (taken : List ℕ) (lines : List (List ℕ)) (reader : Reader) (first now : Option (List ℕ)) → Reading taken lines reader first now
    → (more : List (List ℕ)) × (lines_of (input_of first taken) ≡ lines ++ more)
lines-input taken lines reader None now p = lines-taken taken lines reader None now p
lines-input taken lines reader (Some input) now p = Reading-lines taken lines reader (Some input) now input p refl

-- all of it was taken
input-all : (first : Option (List ℕ)) (taken : List ℕ) → IsAll first taken → input_of first taken ≡ taken
input-all None taken all = refl
input-all (Some input) taken all = all

-- ---- from line to line

pub Going-start : (reader : Reader) (first : Option (List ℕ)) → reader.held ≡ [] → reader.at_end ≡ false → reader.room ≡ 2 ^ 40 → Going reader no_problem 1 first first
Going-start reader first none running room = record {
  taken = [];
  lines = [];
  reading = Reading-start reader first none running;
  go_on = refl;
  number_is = refl;
  room = omega (arith, room);
  few = let empty : length reader.held ≡ 0 = ap length none in omega (arith, room, empty);
}

pub Going-next : (old new : Reader) (b c : Builder) (number : ℕ) (first now now' : Option (List ℕ)) → Going old b number first now → SaysLine said.GoesOn old new now now' b c
    → Going new c (number + 1) first now'
Going-next old new b c number first now now' p s = record {
  taken = p.taken ++ s.reads.reads.got;
  lines = p.lines ++ s.line ∷ [];
  reading = Reading-first p.taken p.lines s.line old new first now now' s.reads.answer p.reading s.reads.reads s.reads.is_first;
  go_on = go-on-more no_problem b c p.lines s.line p.go_on s.said;
  number_is = omega (arith, p.number_is, length-append p.lines (s.line ∷ []));
  room = omega (arith, p.room, s.reads.reads.room, length-append p.taken s.reads.reads.got);
  few = omega (arith, p.few, line-fewer old new now now' s.line s.reads, length-append p.lines (s.line ∷ []));
}

-- there is room for the next number
pub Going-small : (reader : Reader) (b : Builder) (number : ℕ) (first now : Option (List ℕ)) → Going reader b number first now → number ≤ 2 ^ 40 + 1
Going-small reader b number first now p = omega (arith, p.number_is, p.few)

-- ---- the end

-- what the file says, by what its last line says
says-at : (lines more : List (List ℕ)) (line : List ℕ) (b : Builder) (number : ℕ) (s : Said) (input : List ℕ) → GoOn no_problem lines b → number ≡ 1 + length lines → says b line ≡ s
    → lines_of input ≡ (lines ++ line ∷ []) ++ more → problem_of (lines_of input) ≡ or_stops (λ (d : Builder). stated_from (number + 1) d more) number s
says-at lines more line b number s input g n is cut =
    ap problem_of (cut ∙ append_assoc lines (line ∷ []) more) ∙ stated-after 1 no_problem b lines (line ∷ more) g
    ∙ ap (λ k. stated_from k b (line ∷ more)) (sym n) ∙ stated-line number b line more s is

-- a line was read, and decides
pub Reads-line : (r : Result Problem ProblemStop) (old new : Reader) (b : Builder) (number : ℕ) (line : List ℕ) (first now now' : Option (List ℕ)) → Going old b number first now
    → ReadsLine old new now now' line
    → ((input taken : List ℕ) → (lines more : List (List ℕ)) → GoOn no_problem lines b → number ≡ 1 + length lines → lines_of input ≡ (lines ++ line ∷ []) ++ more → IsProblemOf r input taken)
    → ReadsProblem r first now'
Reads-line r old new b number line first now now' p l decides =
    let reading = Reading-first p.taken p.lines line old new first now now' l.answer p.reading l.reads l.is_first in
    let cut = lines-input (p.taken ++ l.reads.got) (p.lines ++ line ∷ []) new first now' reading in
    record {
      taken = p.taken ++ l.reads.got;
      consumed = reading.consumed;
      limit = omega (arith, p.room, l.reads.room, length-append p.taken l.reads.got);
      is = decides (input_of first (p.taken ++ l.reads.got)) (p.taken ++ l.reads.got) p.lines cut.0 p.go_on p.number_is cut.1;
    }

-- it ends the problem
pub Reads-ends : (r : Result Problem ProblemStop) (old new : Reader) (b c : Builder) (number : ℕ) (first now now' : Option (List ℕ)) → Going old b number first now
    → SaysLine said.Ends old new now now' b c → IsFinished r (finished number c) → ReadsProblem r first now'
Reads-ends r old new b c number first now now' p s h =
    Reads-line r old new b number s.line first now now' p s.reads
    (λ input taken lines more g n cut. finished-is r (finished number c) input taken h (says-at lines more s.line b number (Ends c) input g n s.said cut))

-- it is refused
pub Reads-refused : (code : ℕ) (old new : Reader) (b c : Builder) (number : ℕ) (first now now' : Option (List ℕ)) → Going old b number first now
    → SaysLine (said.Refused code) old new now now' b c → ReadsProblem (Err (stop.Refused number code)) first now'
Reads-refused code old new b c number first now now' p s =
    Reads-line (Err (stop.Refused number code)) old new b number s.line first now now' p s.reads
    (λ input taken lines more g n cut. says-at lines more s.line b number (Refuses code) input g n s.said cut)

-- memory ran out
pub Reads-no-memory : (old new : Reader) (b c : Builder) (number : ℕ) (first now now' : Option (List ℕ)) → Going old b number first now
    → SaysLine said.NoMemory old new now now' b c → ReadsProblem (Err stop.NoMemory) first now'
Reads-no-memory old new b c number first now now' p s =
    Reads-line (Err stop.NoMemory) old new b number s.line first now now' p s.reads (λ input taken lines more g n cut. tt)

-- the lines are all, and the problem ends after them
pub Reads-end : (r : Result Problem ProblemStop) (old new : Reader) (b c : Builder) (number : ℕ) (first now now' : Option (List ℕ)) → Going old b number first now
    → Reads step.End old new now now' → c ≡ b → IsFinished r (finished number c) → ReadsProblem r first now'
Reads-end r old new b c number first now now' p e same h =
    let all = Reading-end p.taken p.lines old new first now now' p.reading e in
    let input = input_of first (p.taken ++ e.got) in
    let lines : lines_of input ≡ p.lines ++ [] = ap lines_of (input-all first (p.taken ++ e.got) all.2) ∙ all.1 ∙ sym (append-nil p.lines) in
    let says : problem_of (lines_of input) ≡ finished number b =
    ap problem_of lines ∙ stated-after 1 no_problem b p.lines [] p.go_on ∙ ap (λ k. stated_from k b []) (sym p.number_is) ∙ stated-none number b in
    record {
      taken = p.taken ++ e.got;
      consumed = all.0;
      limit = omega (arith, p.room, e.room, length-append p.taken e.got);
      is = finished-is r (finished number b) input (p.taken ++ e.got) (subst (λ (d : Builder). IsFinished r (finished number d)) same h) says;
    }

-- the whole lines go on
open-lines : (taken : List ℕ) (lines : List (List ℕ)) (b : Builder) → whole_lines taken ≡ lines → GoOn no_problem lines b → IsOpen taken
open-lines taken lines b is g = (b, subst (λ l. GoOn no_problem l b) (sym is) g)

pub Reads-fault : (old new : Reader) (b : Builder) (number : ℕ) (first now now' : Option (List ℕ)) → Going old b number first now → Reads step.ReadFault old new now now'
    → ReadsProblem (Err stop.ReadFault) first now'
Reads-fault old new b number first now now' p e =
    let cut = Reading-cut p.taken p.lines old new first now now' step.ReadFault p.reading e e.gives.0 e.gives.2 in
    record {
      taken = p.taken ++ e.got;
      consumed = cut.0;
      limit = omega (arith, p.room, e.room, length-append p.taken e.got);
      is = open-lines (p.taken ++ e.got) p.lines b cut.1 p.go_on;
    }

pub Reads-limit : (old new : Reader) (b : Builder) (number : ℕ) (first now now' : Option (List ℕ)) → Going old b number first now → Reads step.InputLimit old new now now'
    → ReadsProblem (Err stop.InputLimit) first now'
Reads-limit old new b number first now now' p e =
    let cut = Reading-cut p.taken p.lines old new first now now' step.InputLimit p.reading e e.gives.0 e.gives.2 in
    let none = e.gives.3 in
    record {
      taken = p.taken ++ e.got;
      consumed = cut.0;
      limit = omega (arith, p.room, e.room, length-append p.taken e.got);
      is = (open-lines (p.taken ++ e.got) p.lines b cut.1 p.go_on, omega (arith, none, p.room, e.room, length-append p.taken e.got));
    }
