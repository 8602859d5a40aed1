-- Transcripts of sessions, and what a call of `serve` did.
use Rattle.std.specs.Prelude.{◌≡◌, ◌⊎◌, ℕ, ◌<◌, ◌≤◌, Bool, true, false, List, [], ◌∷◌, ◌++◌, length, Option, None, Some, option_map, Ok}
use Rattle.std.specs.Io.KnownBytes.{Consumes, Appends}
use Rattle.alb_board.specs.declared.kept.PassView.{PassView}
use Rattle.alb_io.specs.Reader.{Reader, lines_of, whole_lines, TakesLines}
use Rattle.alb_mono.specs.Listing.{Each}
use Rattle.alb_question.specs.Question.{Pair}
use Rattle.alb_script.specs.Asked.{Quit}
use Rattle.alb_session.specs.Session.{Session, Support, Step, asked_of}
use Rattle.alb_session.specs.declared.end.SessionEnd.{SessionEnd}
use Rattle.alb_session.specs.declared.end.SessionEnd.TheVariants as session_end
use Rattle.alb_table.specs.End.{end_of}
use Rattle.alb_table.specs.RightTable.{RulesView, IsRightFor}
use Rattle.alb_table.specs.Table.{Table}

-- ---- runs over lines

-- The lines are answered by this text, one after the other, each step with what it rests on.
abbrev pub Run : {S L : Type 0} → (S → List ℕ → L → List ℕ → S → Type 0) → S → List (List ℕ) → List L → List ℕ → S → Type 0
Run By old [] labels text new = (labels ≡ []) × (text ≡ []) × (new ≡ old)
Run {S} {L} By old (line ∷ lines) labels text new =
    (label : L) × (later : List L) × (first : List ℕ) × (rest : List ℕ) × (mid : S) × (labels ≡ label ∷ later) × (text ≡ first ++ rest) × By old line label first mid
    × Run By mid lines later rest new

-- ---- what the lines of a session show

-- the shots of all lines, in order
abbrev pub all_shots : List Support → List (ℕ × Bool)
all_shots [] = []
all_shots (s ∷ ss) = s.shots ++ all_shots ss

-- the degree after a line that shows this
abbrev pub degree_after : ℕ → Option Pair → ℕ
degree_after d None = d
degree_after d (Some p) = p.degree

-- THE DEGREES THAT ARE SHOWN NEVER FALL, from one degree to another
abbrev pub NeverBack : ℕ → List Support → ℕ → Type 0
NeverBack from [] to = from ≤ to
NeverBack from (s ∷ ss) to = (from ≤ degree_after from s.pair) × NeverBack (degree_after from s.pair) ss to

-- there is a right table of this degree
pub record HasTable (r : RulesView) (degree : ℕ) : Type 0 where
  pub table : Table
  pub right : IsRightFor r table
  pub degree_is : table.degree ≡ degree

-- a degree that is shown is the one that was seen at first, or that of a right table
abbrev pub IsOfTable : RulesView → ℕ → Option Pair → Type 0
IsOfTable r from None = Unit {0}
IsOfTable r from (Some p) = (p.degree ≡ from) ⊎ HasTable r p.degree

-- ---- transcripts

-- a session whose pass knows this
abbrev pub session_of : PassView → Bool → Session
session_of v closed = record { seen = v.seen; end = option_map end_of v.end; closed = closed }

-- THE LINES ARE ANSWERED by this text, while the pass came from `old` to `new`: it has then seen all that is shown, its list of shots
-- grew by those of the lines, and the degrees that are shown never fall.
pub record Answered (r : RulesView) (letters : List ℕ) (old new : PassView) (lines : List (List ℕ)) (text : List ℕ) (closed : Bool) : Type 0 where
  pub supports : List Support
  pub run : Run (Step r letters) (session_of old false) lines supports text (session_of new closed)
  pub shots : new.shots ≡ old.shots ++ all_shots supports
  pub never_back : NeverBack old.seen supports new.seen
  pub of_tables : Each (λ s. IsOfTable r old.seen s.pair) supports

-- the text is a transcript of the input
pub record IsTranscript (r : RulesView) (letters : List ℕ) (old new : PassView) (input text : List ℕ) : Type 0 where
  pub closed : Bool
  pub answers : Answered r letters old new (lines_of input) text closed

-- the text is a front of a transcript of the input
pub record IsFront (r : RulesView) (letters : List ℕ) (old new : PassView) (input text : List ℕ) : Type 0 where
  pub rest : List ℕ
  pub transcript : IsTranscript r letters old new input (text ++ rest)

-- A line of the input is `quit`, which was accepted. The text answers the lines before it; their bytes and its own were taken, and
-- at most 4,096 more.
pub record QuitsInside (r : RulesView) (letters : List ℕ) (old new : PassView) (input taken text : List ℕ) : Type 0 where
  pub before : List (List ℕ)
  pub quit : List ℕ
  pub more : List (List ℕ)
  pub cut : lines_of input ≡ before ++ quit ∷ more
  pub takes : TakesLines taken (before ++ quit ∷ [])
  pub answers : Answered r letters old new before text false
  pub short : length quit ≤ 65536
  pub asks : asked_of r letters quit ≡ Ok Quit

-- the input was read to its end, with fewer bytes than the limit, or to the line that ends the session
abbrev pub IsInputRead : RulesView → List ℕ → PassView → PassView → ℕ → List ℕ → List ℕ → List ℕ → Type 0
IsInputRead r letters old new limit input taken text = ((input ≡ taken) × (length taken < limit)) ⊎ QuitsInside r letters old new input taken text

-- the text answers the whole lines of the bytes that were taken, none of which ends the session
abbrev pub AnswersSoFar : RulesView → List ℕ → PassView → PassView → List ℕ → List ℕ → Type 0
AnswersSoFar r letters old new taken text = Answered r letters old new (whole_lines taken) text false

-- by the answer of `serve`, what the text is to the input, of which these bytes were taken
abbrev pub Transcribes : SessionEnd → RulesView → List ℕ → PassView → PassView → ℕ → List ℕ → List ℕ → List ℕ → Type 0
Transcribes session_end.Ended r letters old new limit input taken text = IsTranscript r letters old new input text × IsInputRead r letters old new limit input taken text
Transcribes session_end.ReadFault r letters old new limit input taken text = IsFront r letters old new input text × AnswersSoFar r letters old new taken text
Transcribes session_end.WriteFault r letters old new limit input taken text = IsFront r letters old new input text
Transcribes session_end.InputLimit r letters old new limit input taken text = IsFront r letters old new input text × AnswersSoFar r letters old new taken text × (length taken ≡ limit)

-- the input, where it tells its bytes; of another one no more is known than the bytes that were taken
abbrev pub input_of : Option (List ℕ) → List ℕ → List ℕ
input_of (Some input) taken = input
input_of None taken = taken

-- WHAT A SESSION DID, with a pass that knew `old` before and knows `new` after: the bytes that it took, the text that it appended,
-- and what the text is to the input. Of an input that does not tell its bytes, it is that to the bytes that were taken.
pub record Served (end : SessionEnd) (r : RulesView) (letters : List ℕ) (old new : PassView) (limit : ℕ) (first now before after : Option (List ℕ)) : Type 0 where
  pub taken : List ℕ
  pub text : List ℕ
  pub consumed : Consumes first now taken
  pub written : Appends before after text
  pub within : length taken ≤ limit
  pub transcribes : Transcribes end r letters old new limit (input_of first taken) taken text

-- ---- readers and passes with which a session may begin

-- the reader has read nothing
pub record IsNewReader (reader : Reader) : Type 0 where
  pub held : reader.held ≡ []
  pub running : reader.at_end ≡ false
  pub goes_on : reader.ended ≡ false
