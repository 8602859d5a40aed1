-- What contracts see of shots, requests and responses, and what one line does to a pass.
use Rattle.std.specs.Prelude.{◌≡◌, ◌⊎◌, ℕ, ◌+◌, ◌<◌, ◌≤◌, Bool, false, true, List, [], ◌++◌, length, ◌-◌, Option, None, Some, option_map, Result, Ok, Err}
use Rattle.std.specs.Arc.{arc_value}
use Rattle.alb_board.specs.Calls.{ShowsShot, ShowsNothing}
use Rattle.alb_board.specs.declared.kept.PassView.{PassView}
use Rattle.alb_board.specs.declared.kept.Shot as board
use Rattle.alb_mono.specs.Listing.{Each}
use Rattle.alb_poly.specs.declared.rules.Rules.{Rules}
use Rattle.alb_question.specs.Question.{Shot, pair_of, Question, Finding, IsFinding, finding_text}
use Rattle.alb_question.specs.Views.{question_of, IsQuestionOver}
use Rattle.alb_script.specs.Asked.{Asked, Await, Quit}
use Rattle.alb_script.specs.Refusals.{refusal_text, is_memory, is_command_memory, IsOverAlphabet}
use Rattle.alb_script.specs.declared.error.CommandError.{CommandError}
use Rattle.alb_script.specs.declared.error.CommandError.TheVariants as errors
use Rattle.alb_script.specs.declared.refusal.Refusal.TheVariants as refusal
use Rattle.alb_session.specs.Session.{Support, RestsOn, RestsOnNone, AnswersUnless, TellsWhether, Step, is_skipped, question_in, ready_text, stopped_text, no_memory_text}
use Rattle.alb_session.specs.Served.{session_of}
use Rattle.alb_session.specs.declared.request.Request.{Request}
use Rattle.alb_session.specs.declared.request.Request.TheVariants as request
use Rattle.alb_session.specs.declared.response.Response.{Response}
use Rattle.alb_session.specs.declared.response.Response.TheVariants as response
use Rattle.alb_session.specs.declared.waiting.Look.{Look}
use Rattle.alb_session.specs.declared.waiting.Look.TheVariants as look
use Rattle.alb_table.specs.End.{end_of}
use Rattle.alb_table.specs.RightTable.{RulesView}
use Rattle.alb_table.specs.Table.{Table}
use Rattle.alb_table.specs.declared.end.BuildEnd.{BuildEnd}

-- the table of a shot, with the end of its building where it is known
abbrev pub shot_of : board.Shot → Shot
shot_of k = record { table = arc_value k.tables; end = option_map end_of k.end }

-- ---- requests

-- a line asks for this, if there was memory to read it
abbrev pub AsksFor : Request → Result Asked CommandError → Type 0
AsksFor request.Nothing asks = is_skipped asks ≡ true
AsksFor (request.Question q) asks = (a : Asked) × (asks ≡ Ok a) × (question_in a ≡ Some (question_of q))
AsksFor (request.Await k) asks = asks ≡ Ok (Await k)
AsksFor request.Quit asks = asks ≡ Ok Quit
AsksFor (request.Refused e) asks = asks ≡ Err e
AsksFor request.NoMemory asks = is_skipped asks ≡ false

-- a question is over the field and the generators, and a refusal can be written
abbrev pub MayBeAsked : ℕ → ℕ → Request → Type 0
MayBeAsked p n (request.Question q) = IsQuestionOver p n (question_of q)
MayBeAsked p n (request.Refused e) = is_command_memory e ≡ false
MayBeAsked p n other = Unit {0}

-- what a fault asks for, unless memory ran out
abbrev pub refused_as : CommandError → Request
refused_as errors.NoMemory = request.NoMemory
refused_as e = request.Refused e

-- there is a question
abbrev pub IsQuestion : Option Question → Type 0
IsQuestion (Some q) = Unit {0}
IsQuestion None = ⊥

-- a command that stands in a session and asks for something
abbrev pub IsOfSession : Asked → Type 0
IsOfSession (Await k) = Unit {0}
IsOfSession Quit = Unit {0}
IsOfSession other = IsQuestion (question_in other)

-- ---- responses

abbrev pub response_text : Response → List ℕ
response_text response.Nothing = []
response_text (response.Refused r) = refusal_text r
response_text (response.Found t) = t.taken
response_text (response.Ready d) = ready_text d
response_text (response.Stopped d) = stopped_text d
response_text (response.NoMemory d) = no_memory_text d

-- a refusal does not say that memory ran out, and its term is over the letters a to z
abbrev pub CanBeWritten : Response → Type 0
CanBeWritten (response.Refused r) = (is_memory r ≡ false) × IsOverAlphabet r
CanBeWritten other = Unit {0}

-- the text is that of something that is found for a question by the table
pub record IsFoundText (r : RulesView) (letters : List ℕ) (t : Table) (q : Question) (text : List ℕ) : Type 0 where
  pub finding : Finding
  pub found : IsFinding r t q finding
  pub text_is : text ≡ finding_text letters t finding

-- ---- what a line does to a pass

-- a line made calls by the pass: one, and one more for each change that it has waited for
pub record Spends (old new : PassView) : Type 0 where
  pub known : old.known ≤ new.known
  pub calls : new.calls + (14 - new.known) ≤ old.calls + 1 + (14 - old.known)

-- the shots of a line were added to the list
pub record Took (support : Support) (old new : PassView) : Type 0 where
  pub shots : new.shots ≡ old.shots ++ support.shots
  pub spends : Spends old new

-- a line that asks for this was answered by this text, while the pass came from `old` to `new`
pub record AnswersBy (r : RulesView) (letters : List ℕ) (asks : Result Asked CommandError) (old new : PassView) (text : List ℕ) : Type 0 where
  pub support : Support
  pub answers : AnswersUnless (is_skipped asks) r letters (session_of old false) asks support text (session_of new false)
  pub took : Took support old new

-- the same of a line, which may be too long
pub record AnswersOne (r : RulesView) (letters line : List ℕ) (old new : PassView) (text : List ℕ) : Type 0 where
  pub support : Support
  pub step : Step r letters (session_of old false) line support text (session_of new false)
  pub took : Took support old new

-- ---- a look at the board, and waiting

-- The shot shows a degree below k and no end, so that there is more to wait for; or it tells whether the degree k is there.
abbrev pub LooksBy : Look → ℕ → board.Shot → Type 0
LooksBy look.Early k s = ((arc_value s.tables).degree < k) × (s.end ≡ None)
LooksBy (look.Told a) k s = TellsWhether k (pair_of (shot_of s)) (response_text a) × CanBeWritten a
LooksBy look.NoMemory k s = ⊥

-- a shot was shown, or there was no memory for it
abbrev pub Looks : Look → Rules → ℕ → PassView → PassView → Type 0
Looks look.NoMemory rules k old new = ShowsNothing old new
Looks other rules k old new = (s : board.Shot) × ShowsShot rules old s new × LooksBy other k s

-- The shots so far are below k and show no end: the line rests on the last of them, or on what was seen before.
pub record Waiting (r : RulesView) (k : ℕ) (old new : PassView) : Type 0 where
  pub support : Support
  pub rests : RestsOnNone (session_of old false) support (session_of new false) ⊎ ((shot : Shot) × RestsOn r (session_of old false) (Ok (Await k)) shot support (session_of new false))
  pub early : Each (λ s. (s.0 < k) × (s.1 ≡ false)) support.shots
  pub shots : new.shots ≡ old.shots ++ support.shots
  pub later : old.seen ≤ new.seen
  pub stays : (e : BuildEnd) → old.end ≡ Some e → (new.seen ≡ old.seen) × (new.end ≡ old.end)
  pub known : old.known ≤ new.known
  pub calls : new.calls + (14 - new.known) ≤ old.calls + (14 - old.known)
