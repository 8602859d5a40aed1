-- Scripts: their states, their responses, and what each line is answered.
use Rattle.std.specs.Prelude.{ℕ, Bool, true, false, List, [], Option, None, Some, option_map, decimal, codes, ◌≡◌, ◌+◌, ◌&&◌, ◌∷◌, ◌++◌, length, sum, Result, Ok, Err, nat_lt, if◌then◌else◌}
use Rattle.alb_script.specs.Refusals.{line_with, command_text, stated_text, too_long_text}
use Rattle.alb_script.specs.declared.error.CommandError.{CommandError}
use Rattle.alb_judge.specs.Verdict.{Verdict, is_accepted, verdict_text, IsVerdict, IsJustified}
use Rattle.alb_question.specs.Question.{Shot, Pair, pair_of, built_text, Finding, finding_text, rules_of, IsBuilt, Question, Polynomial, Prove, Dimensions, Products, IsFinding, IsTrueOf}
use Rattle.alb_poly.specs.Poly.{Poly}
use Rattle.alb_problem.specs.Builder.{letters, counts, Builder, forms_of}
use Rattle.alb_script.specs.Asked.{Asked, Field, Generators, Identity, Build, Claim, Quit, asked, command_word}
use Rattle.alb_script.specs.declared.word.Word.{Word}
use Rattle.alb_evidence.specs.Block.{is_end, Evidence, BlockFault, evidence_of}
use Rattle.alb_problem.specs.Builder as refusals
use Rattle.alb_script.specs.Asked as asking
use Rattle.alb_script.specs.declared.form.Form as scripts
use Rattle.alb_script.specs.declared.word.Word.TheVariants as word
use Rattle.alb_top.specs.declared.mode.Mode as modes
use Rattle.alb_top.specs.declared.mode.Mode.TheVariants as mode

-- ---- what a script answers, and how it prints

-- why a line is refused: it is too long, it is no command here, or the problem does not accept it
pub data Refusal : Type 0 where
  TooLong : Refusal
  OfCommand : CommandError → Refusal
  OfProblem : refusals.ProblemRefusal → Refusal

-- nothing, an acceptance, the table that was built, what was found for a question, a refusal or a verdict
pub data Response : Type 0 where
  Nothing : Response
  Accepted : Response
  Numbered : ℕ → Response
  Ready : Response
  Built : Response
  Found : Finding → Response
  Refused : Refusal → Response
  Judged : Verdict → Response

-- no line is refused by it, and no evidence rejected
abbrev pub is_clean : Response → Bool
is_clean (Refused r) = false
is_clean (Judged v) = is_accepted v
is_clean other = true

-- ---- texts

abbrev pub refusal_line : Refusal → List ℕ
refusal_line TooLong = too_long_text
refusal_line (OfCommand e) = command_text e
refusal_line (OfProblem r) = stated_text r

abbrev pub shot_text : Option Shot → List ℕ
shot_text None = []
shot_text (Some s) = built_text s

abbrev pub found_text : List ℕ → Option Shot → Finding → List ℕ
found_text letters None f = []
found_text letters (Some s) f = finding_text letters s.table f

-- the text of a response, by the letters of the generators and the shot
abbrev pub response_text : List ℕ → Option Shot → Response → List ℕ
response_text letters shot Nothing = []
response_text letters shot Accepted = codes "ok\n"
response_text letters shot (Numbered k) = line_with (codes "identity ") (decimal k)
response_text letters shot Ready = codes "ready\n"
response_text letters shot Built = shot_text shot
response_text letters shot (Found f) = found_text letters shot f
response_text letters shot (Refused r) = refusal_line r
response_text letters shot (Judged v) = verdict_text v

-- the degree and the end that its line shows, None where it shows none
abbrev pub pair_shown : Option Shot → Response → Option Pair
pair_shown shot Built = option_map pair_of shot
pair_shown shot (Found f) = option_map pair_of shot
pair_shown shot other = None

-- ---- the scripts of a check and of a batch: what has been said so far, and what each line is answered

-- What the lines of an open block come after: nothing, where no block is open; a claim, with the lines so far; or a claim whose
-- line is refused, with its fault.
pub data Open : Type 0 where
  NoBlock : Open
  Claimed : Poly → List (List ℕ) → Open
  Skipped : CommandError → Open

-- How far a script has come: its mode and its form; the field, the generators and the identities that were accepted; whether
-- `build` was; the shot at which the building ended, in a batch; the open block; whether the script has ended, by `quit`; and
-- whether no line was refused and no evidence rejected.
pub record State : Type 0 where
  pub mode : modes.Mode
  pub form : scripts.Form
  pub problem : Builder
  pub built : Bool
  pub shot : Option Shot
  pub block : Open
  pub closed : Bool
  pub clean : Bool

-- the problem before its first statement
abbrev pub no_problem : Builder
no_problem = record { field = 251; letters = []; counts = []; identities = [] }

-- a script before its first line
abbrev pub start : modes.Mode → scripts.Form → State
start m f = record { mode = m; form = f; problem = no_problem; built = false; shot = None; block = NoBlock; closed = false; clean = true }

-- a script stays clean as long as its responses are
abbrev pub respond : Response → State → Response × State
respond r s = (r, record s { clean = is_clean r && s.clean })

-- ---- commands

-- the response to what is accepted and the problem after it; or the refusal, which leaves the problem as it was
abbrev pub unless : Option refusals.ProblemRefusal → Response → Builder → Builder → Response × Builder
unless None response new old = (response, new)
unless (Some r) response new old = (Refused (OfProblem r), old)

-- what a statement about the problem is answered, and the problem after it
abbrev pub stated : Builder → Asked → Response × Builder
stated b (Field p) = unless (refusals.field_refusal b p) Accepted (record b { field = p }) b
stated b (Generators ts end) = unless (refusals.generators_refusal b ts end) Accepted (record b { letters = letters ts; counts = counts ts }) b
stated b (Identity f) = unless (refusals.identity_refusal b f) (Numbered (length b.identities + 1)) (record b { identities = b.identities ++ f ∷ [] }) b
stated b other = (Nothing, b)

abbrev pub with_problem : State → Response × Builder → Response × State
with_problem s answer = respond answer.0 (record s { problem = answer.1 })

-- what a command is answered that is a statement, a claim or the end, and what the script has come to after it
abbrev pub obey : State → Asked → Response × State
obey s (Claim f) = respond Nothing (record s { block = Claimed f [] })
obey s Quit = respond Nothing (record s { closed = true })
obey s statement = with_problem s (stated s.problem statement)

-- ---- tables and questions

-- the building of an accepted problem ends at this shot, which stands in the script from here on
pub record Builds (old : State) (response : Response) (new : State) : Type 0 where
  pub shot : Shot
  pub built : IsBuilt (rules_of old.problem) shot
  pub responds : (response, new) ≡ respond Built (record old { built = true; shot = Some shot })

-- `build` of an accepted problem, by the mode: a check needs no table, and a sample reads no script
abbrev pub BuildsBy : modes.Mode → State → Response → State → Type 0
BuildsBy mode.Batch old response new = Builds old response new
BuildsBy mode.Check old response new = (response, new) ≡ respond Ready (record old { built = true })
BuildsBy (mode.Sample n) old response new = ⊥

abbrev pub BuildsUnless : Option refusals.ProblemRefusal → State → Response → State → Type 0
BuildsUnless None old response new = BuildsBy old.mode old response new
BuildsUnless (Some r) old response new = (response, new) ≡ respond (Refused (OfProblem r)) old

-- the question that a command asks
abbrev pub question_in : Asked → Option Question
question_in (asking.Polynomial g) = Some (Polynomial g)
question_in (asking.Prove g) = Some (Prove g)
question_in asking.Dimensions = Some Dimensions
question_in asking.Table = Some Products
question_in other = None

-- A QUESTION IS ANSWERED by what is found for it by the table of the shot, and that is true of the problem's identities.
pub record Finds (old : State) (shot : Shot) (q : Question) (response : Response) (new : State) : Type 0 where
  pub finding : Finding
  pub is : IsFinding (rules_of old.problem) shot.table q finding
  pub holds : IsTrueOf shot.table.p old.problem.identities q finding
  pub responds : (response, new) ≡ respond (Found finding) old

-- a question to the shot of the script, if it has one
abbrev pub FindsBy : Option Shot → State → Question → Response → State → Type 0
FindsBy (Some shot) old q response new = Finds old shot q response new
FindsBy None old q response new = ⊥

-- a question, or another command
abbrev pub ObeysAs : Option Question → State → Asked → Response → State → Type 0
ObeysAs (Some q) old a response new = FindsBy old.shot old q response new
ObeysAs None old a response new = (response, new) ≡ obey old a

-- what a command is answered, and what the script has come to after it
abbrev pub Obeys : State → Asked → Response → State → Type 0
Obeys old Build response new = BuildsUnless (refusals.finish_refusal old.problem) old response new
Obeys old other response new = ObeysAs (question_in other) old other response new

-- ---- lines

-- the letters of the generators, by which claims and questions are read
abbrev pub letters_of : State → List ℕ
letters_of s = if s.built then s.problem.letters else []

abbrev pub total_of : State → ℕ
total_of s = if s.built then sum s.problem.counts else 0

-- the word is `claim`, which a block follows
abbrev pub is_claim : Option Word → Bool
is_claim (Some word.Claim) = true
is_claim other = false

-- a line that is no command here; the block of a refused claim comes before its refusal
abbrev pub refuse : Bool → State → CommandError → Response × State
refuse true s e = respond Nothing (record s { block = Skipped e })
refuse false s e = respond (Refused (OfCommand e)) s

abbrev pub ObeysLine : State → List ℕ → Result Asked CommandError → Response → State → Type 0
ObeysLine old line (Ok a) response new = Obeys old a response new
ObeysLine old line (Err e) response new = (response, new) ≡ refuse (is_claim (command_word old.form line)) old e

-- what a line asks for, or its first fault
abbrev pub asked_of : State → List ℕ → Result Asked CommandError
asked_of s line = asked s.form s.built (total_of s) s.problem.field (letters_of s) line

-- a line outside all blocks, by whether it is too long
abbrev pub Commands : Bool → State → List ℕ → Response → State → Type 0
Commands true old line response new = (response, new) ≡ respond (Refused TooLong) old
Commands false old line response new = ObeysLine old line (asked_of old line) response new

-- ---- blocks

-- no block is open
abbrev pub shut : State → State
shut s = record s { block = NoBlock }

-- A CLAIM IS ANSWERED by the verdict on its evidence, which is justified.
pub record JudgesClaim (old : State) (claim : Poly) (given : Result Evidence BlockFault) (response : Response) (new : State) : Type 0 where
  pub verdict : Verdict
  pub judged : IsVerdict old.problem.field old.problem.counts (forms_of old.problem) claim given verdict
  pub justified : IsJustified old.problem.field old.problem.identities claim verdict
  pub responds : (response, new) ≡ respond (Judged verdict) (shut old)

-- the end of a block answers its claim: its line `end`, or the end of the input
abbrev pub EndsBlock : Open → State → Bool → Response → State → Type 0
EndsBlock NoBlock old has_end response new = (response ≡ Nothing) × (new ≡ old)
EndsBlock (Claimed f lines) old has_end response new = JudgesClaim old f (evidence_of old.problem.field (letters_of old) lines has_end) response new
EndsBlock (Skipped e) old has_end response new = (response, new) ≡ respond (Refused (OfCommand e)) (shut old)

-- a line inside a block that does not end it
abbrev pub inside : Open → State → List ℕ → State
inside NoBlock s line = s
inside (Claimed f lines) s line = record s { block = Claimed f (lines ++ line ∷ []) }
inside (Skipped e) s line = s

-- a line of a block
abbrev pub OfBlock : Bool → State → List ℕ → Response → State → Type 0
OfBlock true old line response new = EndsBlock old.block old true response new
OfBlock false old line response new = (response ≡ Nothing) × (new ≡ inside old.block old line)

-- ---- the transcript

abbrev pub AnswersIn : Open → State → List ℕ → Response → State → Type 0
AnswersIn NoBlock old line response new = Commands (nat_lt 65536 (length line)) old line response new
AnswersIn other old line response new = OfBlock (is_end line) old line response new

-- what a line is answered; after the end of the script it is not read
abbrev pub AnswersLine : Bool → State → List ℕ → Response → State → Type 0
AnswersLine true old line response new = (response ≡ Nothing) × (new ≡ old)
AnswersLine false old line response new = AnswersIn old.block old line response new

-- how a response prints in a state
abbrev pub text_of : State → Response → List ℕ
text_of s response = response_text s.problem.letters s.shot response

-- ONE LINE OF THE TRANSCRIPT: its text, and the degree and the end that it shows
pub record Step (old : State) (line : List ℕ) (shown : Option Pair) (text : List ℕ) (new : State) : Type 0 where
  pub response : Response
  pub answers : AnswersLine old.closed old line response new
  pub shows : shown ≡ pair_shown new.shot response
  pub responds : text ≡ text_of new response

-- the end of the lines; after the end of the script it asks for no answer
abbrev pub AnswersEnd : Bool → State → Response → State → Type 0
AnswersEnd true old response new = (response ≡ Nothing) × (new ≡ old)
AnswersEnd false old response new = EndsBlock old.block old false response new

pub record Finish (old : State) (text : List ℕ) (new : State) : Type 0 where
  pub response : Response
  pub answers : AnswersEnd old.closed old response new
  pub responds : text ≡ text_of new response
