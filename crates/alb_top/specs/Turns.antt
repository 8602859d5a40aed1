-- A run between two turns, and what one turn does.
use Rattle.std.specs.Prelude.{◌≡◌, ℕ, ◌+◌, ◌<◌, ◌≤◌, ◌^◌, Bool, true, false, List, [], length, Option, Some, None}
use Rattle.std.specs.Io.KnownBytes.{Appends}
use Rattle.alb_io.specs.Reader.{Reader, Reads, Reading}
use Rattle.alb_io.specs.declared.status.Status.{Status}
use Rattle.alb_io.specs.declared.status.Status.TheVariants as status
use Rattle.alb_io.specs.declared.step.LineStep.{LineStep}
use Rattle.alb_io.specs.declared.step.LineStep.TheVariants as step
use Rattle.alb_evidence.specs.Reads.{ReadsLine, ReadsLines}
use Rattle.alb_poly.specs.Poly.{Poly}
use Rattle.alb_question.specs.Question.{Pair}
use Rattle.alb_script.specs.declared.error.CommandError.{CommandError}
use Rattle.alb_top.specs.Outcome.{Run, AnswersUpTo}
use Rattle.alb_top.specs.Script.{Response, State, Claimed, Skipped, Step, EndsBlock, text_of}
use Rattle.alb_top.specs.View.{response_of, state, IsScript, IsWritable, AsksFor}
use Rattle.alb_top.specs.declared.asks.Asks.{Asks}
use Rattle.alb_top.specs.declared.turn.Taken.{Taken}
use Rattle.alb_top.specs.declared.turn.Taken.TheVariants as took

-- the lines so far are answered
pub record Going (opening : State) (reader : Reader) (script : State) (first now before after : Option (List ℕ)) : Type 0 where
  pub taken : List ℕ
  pub lines : List (List ℕ)
  pub text : List ℕ
  pub reading : Reading taken lines reader first now
  pub written : Appends before after text
  pub shown : List (Option Pair)
  pub run : Run Step opening lines shown text script
  pub room : reader.room + length taken ≡ 2 ^ 40

-- lines were read and answered by this, and none before the last ended the script
pub record AnswersLines (old new : Reader) (script next : State) (before now : Option (List ℕ)) (response : Response) : Type 0 where
  pub lines : List (List ℕ)
  pub reads : ReadsLines lines old new before now
  pub answers : AnswersUpTo script lines (text_of next response) next
  pub running : new.ended ≡ false
  pub fewer : new.room + length new.held < old.room + length old.held

-- lines were read, which ask for no answer, and then this was answered in place of a line
pub record Pauses (answer : LineStep) (old new : Reader) (script next : State) (before now : Option (List ℕ)) : Type 0 where
  pub lines : List (List ℕ)
  pub last : Reader
  pub between : Option (List ℕ)
  pub inside : ReadsLines lines old last before between
  pub shown : List (Option Pair)
  pub run : Run Step script lines shown [] next
  pub breaks : Reads answer last new between now
  pub runs : next.closed ≡ false

-- the same with the end of the lines, and the answer to it
pub record EndsLines (old new : Reader) (script next : State) (before now : Option (List ℕ)) (response : Response) : Type 0 where
  pub mid : State
  pub pauses : Pauses step.End old new script mid before now
  pub ends : EndsBlock mid.block mid false response next

-- lines were read
pub record Gets (old new : Reader) (before now : Option (List ℕ)) : Type 0 where
  pub lines : List (List ℕ)
  pub reads : ReadsLines lines old new before now

-- there was no answer to a line: no line came, or memory ran out
abbrev pub Stops : LineStep → Reader → Reader → State → Option (List ℕ) → Option (List ℕ) → Type 0
Stops answer old new script before now = (mid : State) × Pauses answer old new script mid before now

-- one turn: a line and its answer, where it is a claim with its block; or the end of the input
abbrev pub TakesTurn : Taken → Reader → Reader → State → Option (List ℕ) → Option (List ℕ) → Type 0
TakesTurn (took.Response r next) old new script before now = AnswersLines old new script (state next) before now (response_of r)
TakesTurn (took.Last r next) old new script before now = EndsLines old new script (state next) before now (response_of r)
TakesTurn took.ReadFault old new script before now = Stops step.ReadFault old new script before now
TakesTurn took.InputLimit old new script before now = Stops step.InputLimit old new script before now
TakesTurn took.NoMemory old new script before now = Gets old new before now

-- the same after a line that was read before and asks for this
abbrev pub TakesAsked : Taken → Asks → Reader → Reader → State → Option (List ℕ) → Option (List ℕ) → Type 0
TakesAsked taken asks old new script before now =
    (first : Reader) (was : Option (List ℕ)) (line : List ℕ) → ReadsLine first old was before line → length line ≤ 65536 → AsksFor asks script line → TakesTurn taken first new script was now

-- an answer can be written, and the script after it is one
abbrev pub IsFine : Taken → Type 0
IsFine (took.Response r next) = IsWritable (state next) r × IsScript next
IsFine (took.Last r next) = IsWritable (state next) r × IsScript next
IsFine other = Unit {0}

-- after the line of a claim
abbrev pub claimed : Poly → State → State
claimed f s = record s { block = Claimed f [] }

-- after the line of a claim that is refused
abbrev pub skipping : CommandError → State → State
skipping e s = record s { block = Skipped e }

-- the status at the end of a script
abbrev pub status_of : Bool → Status
status_of true = status.Done
status_of false = status.Refused
