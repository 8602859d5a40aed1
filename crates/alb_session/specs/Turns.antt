-- What one turn of a session does, and a session between two turns.
use Rattle.std.specs.Prelude.{◌≡◌, ℕ, ◌+◌, ◌<◌, ◌≤◌, ◌-◌, false, List, ◌++◌, length, Result, Ok, Option}
use Rattle.std.specs.Io.KnownBytes.{Appends}
use Rattle.alb_board.specs.declared.kept.PassView.{PassView}
use Rattle.alb_io.specs.Reader.{Reader, Reads, Reading, IsFirstLine}
use Rattle.alb_io.specs.declared.step.LineStep.{LineStep}
use Rattle.alb_io.specs.declared.step.LineStep.TheVariants as step
use Rattle.alb_script.specs.Asked.{Asked, Quit}
use Rattle.alb_script.specs.declared.error.CommandError.{CommandError}
use Rattle.alb_session.specs.Served.{Run, all_shots, session_of}
use Rattle.alb_session.specs.Session.{Support, Step, asked_of}
use Rattle.alb_session.specs.View.{AnswersOne, AnswersBy, CanBeWritten, response_text}
use Rattle.alb_session.specs.declared.taken.Taken.{Taken}
use Rattle.alb_session.specs.declared.taken.Taken.TheVariants as took
use Rattle.alb_table.specs.RightTable.{RulesView}

-- a line was read, whole or too long
pub record ReadsLine (old new : Reader) (before now : Option (List ℕ)) (line : List ℕ) : Type 0 where
  pub answer : LineStep
  pub reads : Reads answer old new before now
  pub is_first : IsFirstLine line (old.held ++ reads.got) new.held new.at_end
  pub running : new.ended ≡ false

-- a line was read and answered by this text
pub record AnswersNext (r : RulesView) (letters : List ℕ) (v w : PassView) (old new : Reader) (before now : Option (List ℕ)) (text : List ℕ) : Type 0 where
  pub line : List ℕ
  pub reads : ReadsLine old new before now line
  pub answers : AnswersOne r letters line v w text

-- the line that was read ends the session
pub record QuitsBy (r : RulesView) (letters : List ℕ) (old new : Reader) (before now : Option (List ℕ)) : Type 0 where
  pub line : List ℕ
  pub reads : ReadsLine old new before now line
  pub short : length line ≤ 65536
  pub asks : asked_of r letters line ≡ Ok Quit

-- a line that asks for this: its answer, or that it ends the session
abbrev pub TakesAsked : Taken → RulesView → List ℕ → Result Asked CommandError → PassView → PassView → Type 0
TakesAsked (took.Response a) r letters asks v w = AnswersBy r letters asks v w (response_text a)
TakesAsked took.Quit r letters asks v w = (asks ≡ Ok Quit) × (w ≡ v)
TakesAsked other r letters asks v w = ⊥

-- a response can be written
abbrev pub IsFine : Taken → Type 0
IsFine (took.Response a) = CanBeWritten a
IsFine other = Unit {0}

-- ONE TURN: a line and its answer, the line that ends the session, or that no line came
abbrev pub TakesTurn : Taken → RulesView → List ℕ → PassView → PassView → Reader → Reader → Option (List ℕ) → Option (List ℕ) → Type 0
TakesTurn (took.Response a) r letters v w old new before now = AnswersNext r letters v w old new before now (response_text a)
TakesTurn took.Quit r letters v w old new before now = QuitsBy r letters old new before now × (w ≡ v)
TakesTurn took.End r letters v w old new before now = Reads step.End old new before now × (w ≡ v)
TakesTurn took.ReadFault r letters v w old new before now = Reads step.ReadFault old new before now × (w ≡ v)
TakesTurn took.InputLimit r letters v w old new before now = Reads step.InputLimit old new before now × (w ≡ v)

-- the lines so far are answered, of bytes of which a reader may take `limit` over all
pub record Going (r : RulesView) (letters : List ℕ) (limit : ℕ) (v w : PassView) (reader : Reader) (first now before after : Option (List ℕ)) : Type 0 where
  pub taken : List ℕ
  pub lines : List (List ℕ)
  pub text : List ℕ
  pub reading : Reading taken lines reader first now
  pub written : Appends before after text
  pub supports : List Support
  pub run : Run (Step r letters) (session_of v false) lines supports text (session_of w false)
  pub shots : w.shots ≡ v.shots ++ all_shots supports
  pub room : reader.room + length taken ≡ limit
  pub few : length lines + (reader.room + length reader.held) ≤ limit
  pub calls : w.calls + (14 - w.known) ≤ v.calls + length lines + (14 - v.known)
