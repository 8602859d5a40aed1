-- Transcripts, and what a run of a script did with the bytes that it took.
use Rattle.std.specs.Prelude.{◌≡◌, List, [], ◌∷◌, ◌++◌, ℕ, ◌⊎◌, ◌^◌, ◌<◌, ◌≤◌, Bool, true, false, length, Option, None, Some}
use Rattle.std.specs.Io.KnownBytes.{Consumes, Appends}
use Rattle.alb_io.specs.Reader.{lines_of, whole_lines, TakesLines}
use Rattle.alb_question.specs.Question.{Pair}
use Rattle.alb_top.specs.Script.{State, Step, Finish}
use Rattle.alb_io.specs.declared.status.Status.{Status}
use Rattle.alb_io.specs.declared.status.Status.TheVariants as status

-- ---- runs over lines, for any states, labels and steps. A step takes a line to a label, a text and a state, and may leave a choice

-- The lines are answered by this text, one after the other, each step with its label.
abbrev pub Run : {S L : Type 0} → (S → List ℕ → L → List ℕ → S → Type 0) → S → List (List ℕ) → List L → List ℕ → S → Type 0
Run Step old [] labels text new = (labels ≡ []) × (text ≡ []) × (new ≡ old)
Run {S} {L} Step old (line ∷ lines) labels text new =
    (label : L) × (later : List L) × (first : List ℕ) × (rest : List ℕ) × (mid : S) × (labels ≡ label ∷ later) × (text ≡ first ++ rest) × Step old line label first mid
    × Run Step mid lines later rest new

-- The lines are answered by this text, and then the end of the lines.
abbrev pub AnswersAll : {S L : Type 0} → (S → List ℕ → L → List ℕ → S → Type 0) → (S → List ℕ → S → Type 0) → S → List (List ℕ) → List L → List ℕ → S → Type 0
AnswersAll {S} Step Finish old lines labels text new =
    (body : List ℕ) × (end : List ℕ) × (last : S) × (text ≡ body ++ end) × Run Step old lines labels body last × Finish last end new

-- ---- what a run of a script did with the bytes that it took, by its status. The script opens in a state, which its mode names

-- the text is the transcript of the input, and the script is clean or not
pub record IsTranscript (opening : State) (input text : List ℕ) (clean : Bool) : Type 0 where
  pub shown : List (Option Pair)
  pub last : State
  pub answers : AnswersAll Step Finish opening (lines_of input) shown text last
  pub judged : last.clean ≡ clean

-- the text answers the whole lines of the bytes that were taken, and the script goes on
pub record AnswersSoFar (opening : State) (taken text : List ℕ) : Type 0 where
  pub shown : List (Option Pair)
  pub last : State
  pub run : Run Step opening (whole_lines taken) shown text last
  pub runs : last.closed ≡ false

-- the text is a front of the transcript of the input
pub record IsFront (opening : State) (input text : List ℕ) : Type 0 where
  pub rest : List ℕ
  pub clean : Bool
  pub transcript : IsTranscript opening input (text ++ rest) clean

-- the text answers the lines, and none before the last ends the script
pub record AnswersUpTo (old : State) (lines : List (List ℕ)) (text : List ℕ) (new : State) : Type 0 where
  pub before : List (List ℕ)
  pub line : List ℕ
  pub body : List ℕ
  pub end : List ℕ
  pub mid : State
  pub shown : List (Option Pair)
  pub last : Option Pair
  pub lines_are : lines ≡ before ++ line ∷ []
  pub text_is : text ≡ body ++ end
  pub run : Run Step old before shown body mid
  pub runs : mid.closed ≡ false
  pub step : Step mid line last end new

-- A line of the input ended the script. The text answers the lines up to it; their bytes were taken, and at most 4,096 more.
pub record EndsInside (opening : State) (input taken text : List ℕ) : Type 0 where
  pub lines : List (List ℕ)
  pub more : List (List ℕ)
  pub last : State
  pub cut : lines_of input ≡ lines ++ more
  pub takes : TakesLines taken lines
  pub answers : AnswersUpTo opening lines text last
  pub closed : last.closed ≡ true

-- the input was read to its end, with fewer bytes than the limit, or to the line that ends the script
abbrev pub IsInputRead : State → List ℕ → List ℕ → List ℕ → Type 0
IsInputRead opening input taken text = ((input ≡ taken) × (length taken < 2 ^ 40)) ⊎ EndsInside opening input taken text

-- by the status, what the text is to the input, of which these bytes were taken, for a script that opens so
abbrev pub Transcribes : State → Status → List ℕ → List ℕ → List ℕ → Type 0
Transcribes opening status.Done input taken text = IsTranscript opening input text true × IsInputRead opening input taken text
Transcribes opening status.Refused input taken text = IsTranscript opening input text false × IsInputRead opening input taken text
Transcribes opening status.ReadFault input taken text = AnswersSoFar opening taken text
Transcribes opening status.InputLimit input taken text = AnswersSoFar opening taken text × (length taken ≡ 2 ^ 40)
Transcribes opening status.WriteFault input taken text = IsFront opening input text
Transcribes opening status.NoMemory input taken text = IsFront opening input text
Transcribes opening status.Usage input taken text = ⊥
Transcribes opening status.OpenFault input taken text = ⊥
Transcribes opening status.ReportFault input taken text = ⊥

-- the input, where it tells its bytes; of another one no more is known than the bytes that were taken
abbrev pub input_of : Option (List ℕ) → List ℕ → List ℕ
input_of (Some input) taken = input
input_of None taken = taken

-- WHAT A RUN OF A SCRIPT DID: the bytes that it took, the text that it appended, and what the text is to the input. Of an input
-- that does not tell its bytes, it is that to the bytes that were taken.
pub record Outcome (opening : State) (status : Status) (first now before after : Option (List ℕ)) : Type 0 where
  pub taken : List ℕ
  pub text : List ℕ
  pub consumed : Consumes first now taken
  pub written : Appends before after text
  pub limit : length taken ≤ 2 ^ 40
  pub transcribes : Transcribes opening status (input_of first taken) taken text
