-- Sessions: what they have seen, what each line is answered, and the shots of the board on which it rests.
use Rattle.std.specs.Prelude.{ℕ, nat_lt, Bool, true, false, List, [], ◌∷◌, ◌++◌, length, sum, Option, None, Some, Result, Ok, Err, ◌≡◌, ◌≢◌, ◌⊎◌, ◌<◌, ◌≤◌, codes}
use Rattle.std.specs.Option.{is_some}
use Rattle.alb_board.specs.Published.{IsAllowedEnd}
use Rattle.alb_mono.specs.Listing.{Each}
use Rattle.alb_print.specs.Text.{named}
use Rattle.alb_problem.specs.Builder.{Builder}
use Rattle.alb_question.specs.Laws.{IsProblem}
use Rattle.alb_question.specs.Question.{Shot, Pair, pair_of, Question, Polynomial, Prove, Dimensions, Products, Finding, finding_text, rules_of, IsFinding, IsTrueOf}
use Rattle.alb_script.specs.Asked as asking
use Rattle.alb_script.specs.Asked.{Asked, Blank, Await, Quit, asked}
use Rattle.alb_script.specs.Refusals.{command_text, too_long_text}
use Rattle.alb_script.specs.declared.error.CommandError.{CommandError}
use Rattle.alb_script.specs.declared.form.Form.TheVariants as form
use Rattle.alb_table.specs.End.{End}
use Rattle.alb_table.specs.RightTable.{RulesView, IsRightFor}

-- ---- what a session has seen, and what a line rests on

-- How far a session has come: the degree that it has seen, the end of the building where it has seen one, and whether the session
-- has ended, by `quit`.
pub record Session : Type 0 where
  pub seen : ℕ
  pub end : Option End
  pub closed : Bool

-- What a line rests on: the degree and the end that it shows, where it shows some, and the shots that it asked for, as a pass lists
-- them: their degrees, and whether they had an end.
pub record Support : Type 0 where
  pub pair : Option Pair
  pub shots : List (ℕ × Bool)

-- a line that shows no degree asked for no shot
abbrev pub nothing : Support
nothing = record { pair = None; shots = [] }

-- the degree and the end that a session has seen
abbrev pub seen_pair : Session → Pair
seen_pair s = record { degree = s.seen; end = s.end }

-- a session that has seen this
abbrev pub having_seen : Pair → Session → Session
having_seen p s = record s { seen = p.degree; end = p.end }

-- how a pass lists a shot
abbrev pub listed : Pair → ℕ × Bool
listed p = (p.degree, is_some p.end)

-- A SHOT OF THE BOARD, for a session that has seen so much: its table is right for the rules, and its end is one that is allowed.
-- Its degree is not below the one that was seen, and where an end was seen, the shot shows that degree and that end again.
pub record IsLater (r : RulesView) (old : Session) (shot : Shot) : Type 0 where
  pub right : IsRightFor r shot.table
  pub allowed : (e : End) → shot.end ≡ Some e → IsAllowedEnd r shot.table.degree e
  pub degree : old.seen ≤ shot.table.degree
  pub same_end : (e : End) → old.end ≡ Some e → pair_of shot ≡ seen_pair old

-- The shots that a line may ask for before its last one: `await k` those below k without an end, one after the other, and every
-- other line none.
abbrev pub AreBefore : Result Asked CommandError → List (ℕ × Bool) → Type 0
AreBefore (Ok (Await k)) before = Each (λ s. (s.0 < k) × (s.1 ≡ false)) before
AreBefore other before = before ≡ []

-- THE LINE RESTS ON A SHOT, the last one that it asked for: it shows the degree and the end of this shot, and the session has then
-- seen them.
pub record RestsOn (r : RulesView) (old : Session) (asks : Result Asked CommandError) (shot : Shot) (support : Support) (new : Session) : Type 0 where
  pub before : List (ℕ × Bool)
  pub before_are : AreBefore asks before
  pub later : IsLater r old shot
  pub support_is : support ≡ record { pair = Some (pair_of shot); shots = before ++ listed (pair_of shot) ∷ [] }
  pub seen : new ≡ having_seen (pair_of shot) old

-- ---- texts of one line

abbrev pub ready_text : ℕ → List ℕ
ready_text d = named (codes "[") d ++ codes "] ready\n"

abbrev pub stopped_text : ℕ → List ℕ
stopped_text d = named (codes "[") d ++ codes "] stopped\n"

abbrev pub no_memory_text : ℕ → List ℕ
no_memory_text d = named (codes "[") d ++ codes "] no memory\n"

-- ---- commands

-- the question that a command asks
abbrev pub question_in : Asked → Option Question
question_in (asking.Polynomial g) = Some (Polynomial g)
question_in (asking.Prove g) = Some (Prove g)
question_in asking.Dimensions = Some Dimensions
question_in asking.Table = Some Products
question_in other = None

-- A QUESTION IS ANSWERED by what is found for it by the table of a shot. That is true of the identities of each problem that has
-- these rules.
pub record Finds (r : RulesView) (letters : List ℕ) (old : Session) (a : Asked) (q : Question) (support : Support) (text : List ℕ) (new : Session) : Type 0 where
  pub shot : Shot
  pub finding : Finding
  pub rests : RestsOn r old (Ok a) shot support new
  pub found : IsFinding r shot.table q finding
  pub holds : (b : Builder) → IsProblem b → rules_of b ≡ r → IsTrueOf shot.table.p b.identities q finding
  pub text_is : text ≡ finding_text letters shot.table finding

-- `ready` where the degree is there; `stopped` where it is not, and an end is kept
abbrev pub TellsWhether : ℕ → Pair → List ℕ → Type 0
TellsWhether k p text = ((k ≤ p.degree) × (text ≡ ready_text p.degree)) ⊎ ((p.degree < k) × (p.end ≢ None) × (text ≡ stopped_text p.degree))

-- `await k` IS ANSWERED by the last of its shots.
pub record Awaits (r : RulesView) (old : Session) (k : ℕ) (support : Support) (text : List ℕ) (new : Session) : Type 0 where
  pub shot : Shot
  pub rests : RestsOn r old (Ok (Await k)) shot support new
  pub tells : TellsWhether k (pair_of shot) text

-- a question, or no command of a session
abbrev pub Asks : Option Question → RulesView → List ℕ → Session → Asked → Support → List ℕ → Session → Type 0
Asks (Some q) r letters old a support text new = Finds r letters old a q support text new
Asks None r letters old a support text new = ⊥

-- a line that shows no degree: it is answered by this text, and the session has come so far
abbrev pub IsPlain : List ℕ → Session → Support → List ℕ → Session → Type 0
IsPlain answer next support text new = (support ≡ nothing) × (text ≡ answer) × (new ≡ next)

-- what a command is answered
abbrev pub Obeys : RulesView → List ℕ → Session → Asked → Support → List ℕ → Session → Type 0
Obeys r letters old Quit support text new = IsPlain [] (record old { closed = true }) support text new
Obeys r letters old (Await k) support text new = Awaits r old k support text new
Obeys r letters old other support text new = Asks (question_in other) r letters old other support text new

-- a command, or a refusal
abbrev pub AnswersAsked : RulesView → List ℕ → Session → Result Asked CommandError → Support → List ℕ → Session → Type 0
AnswersAsked r letters old (Ok a) support text new = Obeys r letters old a support text new
AnswersAsked r letters old (Err e) support text new = IsPlain (command_text e) old support text new

-- ---- want of memory

-- the line asked for no shot: it shows what was seen before
abbrev pub RestsOnNone : Session → Support → Session → Type 0
RestsOnNone old support new = (support ≡ record { pair = Some (seen_pair old); shots = [] }) × (new ≡ old)

-- THERE WAS NO MEMORY for the line. It rests on the last shot that it asked for, or on what was seen before, and shows that degree.
pub record LacksMemory (r : RulesView) (old : Session) (asks : Result Asked CommandError) (support : Support) (text : List ℕ) (new : Session) : Type 0 where
  pub rests : RestsOnNone old support new ⊎ ((shot : Shot) × RestsOn r old asks shot support new)
  pub text_is : text ≡ no_memory_text new.seen

-- ---- lines

-- the line asks for nothing: it is blank or a comment
abbrev pub is_skipped : Result Asked CommandError → Bool
is_skipped (Ok Blank) = true
is_skipped other = false

-- a line that is skipped, or one that is answered, if there was memory
abbrev pub AnswersUnless : Bool → RulesView → List ℕ → Session → Result Asked CommandError → Support → List ℕ → Session → Type 0
AnswersUnless true r letters old asks support text new = IsPlain [] old support text new
AnswersUnless false r letters old asks support text new = AnswersAsked r letters old asks support text new ⊎ LacksMemory r old asks support text new

-- what a line asks for, or its first fault
abbrev pub asked_of : RulesView → List ℕ → List ℕ → Result Asked CommandError
asked_of r letters line = asked form.Session true (sum r.target) r.p letters line

-- a line, by whether it is too long
abbrev pub AnswersShort : Bool → RulesView → List ℕ → Session → List ℕ → Support → List ℕ → Session → Type 0
AnswersShort true r letters old line support text new = IsPlain too_long_text old support text new
AnswersShort false r letters old line support text new = AnswersUnless (is_skipped (asked_of r letters line)) r letters old (asked_of r letters line) support text new

-- what a line is answered; after the end of the session it is not read
abbrev pub AnswersLine : Bool → RulesView → List ℕ → Session → List ℕ → Support → List ℕ → Session → Type 0
AnswersLine true r letters old line support text new = IsPlain [] old support text new
AnswersLine false r letters old line support text new = AnswersShort (nat_lt 65536 (length line)) r letters old line support text new

-- ONE LINE OF A SESSION about a problem with these rules and these letters: what it rests on, and its text
abbrev pub Step : RulesView → List ℕ → Session → List ℕ → Support → List ℕ → Session → Type 0
Step r letters old line support text new = AnswersLine old.closed r letters old line support text new
