-- What contracts see of scripts and responses.
use Rattle.std.specs.Prelude.{◌≡◌, ℕ, Bool, true, false, List, length, Option, None, Some, Result, Ok, Err}
use Rattle.alb_mono.specs.declared.error.NoMemory.{NoMemory}
use Rattle.alb_problem.specs.Builder.{Builder}
use Rattle.alb_problem.specs.Problem.{problem, IsAccepted}
use Rattle.alb_problem.specs.Builder as refusals
use Rattle.alb_problem.specs.declared.problem.Problem.{Problem}
use Rattle.alb_problem.specs.declared.error.ProblemError.{ProblemError}
use Rattle.alb_problem.specs.declared.error.ProblemError.TheVariants as problem_error
use Rattle.alb_script.specs.Asked as asking
use Rattle.alb_script.specs.Asked.{Asked, Blank, Field, Generators, Identity, Build, Claim, Quit, view, command_word, IsCommandOver, IsPolyOver, belongs}
use Rattle.alb_script.specs.Refusals.{told_by_problem, is_memory, IsOverAlphabet}
use Rattle.alb_script.specs.declared.command.Command.{Command}
use Rattle.alb_script.specs.declared.command.Command.TheVariants as commands
use Rattle.alb_script.specs.declared.error.CommandError.{CommandError}
use Rattle.alb_script.specs.declared.error.CommandError.TheVariants as command_error
use Rattle.alb_script.specs.declared.form.Form as scripts
use Rattle.alb_script.specs.declared.form.Form.TheVariants as form
use Rattle.alb_script.specs.declared.refusal.Refusal.{Refusal}
use Rattle.alb_script.specs.declared.refusal.Refusal.TheVariants as refusal
use Rattle.alb_script.specs.declared.word.Word.TheVariants as word
use Rattle.alb_judge.specs.Views.{judgement}
use Rattle.alb_question.specs.Question.{Shot}
use Rattle.alb_question.specs.Views.{finding_of, shot_of, IsTopic, IsPrintable}
use Rattle.alb_question.specs.declared.finding.Finding.{Finding}
use Rattle.alb_top.specs.Does.{script_form}
use Rattle.alb_top.specs.Script as responses
use Rattle.alb_top.specs.Script.{State, NoBlock, letters_of, asked_of, is_claim}
use Rattle.alb_top.specs.declared.mode.Mode.{Mode}
use Rattle.alb_top.specs.declared.mode.Mode.TheVariants as mode
use Rattle.alb_top.specs.declared.response.Response.{Response}
use Rattle.alb_top.specs.declared.response.Response.TheVariants as response
use Rattle.alb_top.specs.declared.asks.Asks.{Asks}
use Rattle.alb_top.specs.declared.asks.Asks.TheVariants as asks
use Rattle.alb_top.specs.declared.script.Script.{Script}
use Rattle.alb_top.specs.declared.script.Stage.{Stage}
use Rattle.alb_top.specs.declared.script.Stage.TheVariants as stage

-- ---- responses

-- a refusal by the problem; running out of memory is none
abbrev pub by_problem : Option refusals.ProblemRefusal → responses.Refusal
by_problem (Some r) = responses.OfProblem r
by_problem None = responses.OfCommand command_error.NoMemory

abbrev pub refusal_of : Refusal → responses.Refusal
refusal_of refusal.TooLong = responses.TooLong
refusal_of (refusal.Command e) = responses.OfCommand e
refusal_of (refusal.Problem e) = by_problem (told_by_problem e)

abbrev pub response_of : Response → responses.Response
response_of response.Nothing = responses.Nothing
response_of response.Accepted = responses.Accepted
response_of (response.Numbered k) = responses.Numbered k
response_of response.Ready = responses.Ready
response_of response.Built = responses.Built
response_of (response.Found f) = responses.Found (finding_of f)
response_of (response.Refused r) = responses.Refused (refusal_of r)
response_of (response.Judged v) = responses.Judged (judgement v)

-- a refusal does not say that memory ran out, and its term is over the letters a to z
pub record CanBeWritten (r : Refusal) : Type 0 where
  pub memory : is_memory r ≡ false
  pub known : IsOverAlphabet r

-- a response to a statement can be written
abbrev pub IsWritten : Response → Type 0
IsWritten (response.Refused r) = CanBeWritten r
IsWritten response.Built = ⊥
IsWritten (response.Found f) = ⊥
IsWritten other = Unit {0}

-- there is a shot
abbrev pub HasSome : Option Shot → Type 0
HasSome None = ⊥
HasSome (Some s) = Unit {0}

-- what is found by the shot can be printed with `n` letters
abbrev pub IsPrintableBy : Option Shot → ℕ → Finding → Type 0
IsPrintableBy None n f = ⊥
IsPrintableBy (Some s) n f = IsPrintable s.table.p n f

-- a response can be written in a state
abbrev pub IsWritable : State → Response → Type 0
IsWritable s response.Built = HasSome s.shot
IsWritable s (response.Found f) = IsPrintableBy s.shot (length s.problem.letters) f
IsWritable s (response.Refused r) = CanBeWritten r
IsWritable s other = Unit {0}

-- the response to an error of the problem
abbrev pub of_problem : ProblemError → Result Response NoMemory
of_problem problem_error.NoMemory = Err (record {})
of_problem e = Ok (response.Refused (refusal.Problem e))

-- ---- scripts

-- what is said of the problem
abbrev pub problem_of : Stage → Builder
problem_of (stage.Stating b) = b
problem_of (stage.Claiming q) = problem q
problem_of (stage.Asking t) = problem t.problem

abbrev pub is_built : Stage → Bool
is_built (stage.Stating b) = false
is_built (stage.Claiming q) = true
is_built (stage.Asking t) = true

abbrev pub shot_at : Stage → Option Shot
shot_at (stage.Asking t) = Some (shot_of t)
shot_at other = None

-- a script at a stage; between two turns no block is open
abbrev pub state_at : Mode → scripts.Form → Stage → Bool → Bool → State
state_at m f u closed clean = record { mode = m; form = f; problem = problem_of u; built = is_built u; shot = shot_at u; block = NoBlock; closed = closed; clean = clean }

abbrev pub state : Script → State
state s = state_at s.mode s.form s.stage s.closed s.clean

-- a batch has its table after `build`, and a check has none
abbrev pub IsStage : Mode → Stage → Type 0
IsStage m (stage.Stating b) = Unit {0}
IsStage m (stage.Claiming q) = (m ≡ mode.Check) × IsAccepted q
IsStage m (stage.Asking t) = (m ≡ mode.Batch) × IsTopic t

pub record IsScript (s : Script) : Type 0 where
  pub reads : script_form s.mode ≡ Some s.form
  pub stage : IsStage s.mode s.stage

-- what stands after the end of a problem, and the response
abbrev pub Begins : Mode → Problem → Response → Stage → Type 0
Begins mode.Batch q r (stage.Asking t) = (t.problem ≡ q) × IsTopic t × (r ≡ response.Built)
Begins mode.Check q r (stage.Claiming c) = (c ≡ q) × (r ≡ response.Ready)
Begins other q r another = ⊥

-- ---- what may be asked for

-- a statement about the problem
abbrev pub IsStatement : Asked → Type 0
IsStatement (Field p) = Unit {0}
IsStatement (Generators ts end) = Unit {0}
IsStatement (Identity f) = Unit {0}
IsStatement other = ⊥

-- a claim or a question is one of the form
abbrev pub IsOfForm : scripts.Form → Asked → Type 0
IsOfForm f (Claim g) = belongs f word.Claim ≡ true
IsOfForm f (asking.Polynomial g) = belongs f word.Polynomial ≡ true
IsOfForm f (asking.Prove g) = belongs f word.Prove ≡ true
IsOfForm f asking.Dimensions = belongs f word.Dimensions ≡ true
IsOfForm f asking.Table = belongs f word.Table ≡ true
IsOfForm f (asking.Await n) = belongs f word.Await ≡ true
IsOfForm f other = Unit {0}

-- statements and `build` stand before `build`, and claims and questions after it
abbrev pub StandsBy : Bool → Asked → Type 0
StandsBy built Blank = Unit {0}
StandsBy built (Field p) = built ≡ false
StandsBy built (Generators ts end) = built ≡ false
StandsBy built (Identity f) = built ≡ false
StandsBy built Build = built ≡ false
StandsBy built Quit = Unit {0}
StandsBy built other = built ≡ true

-- a command that may stand here
pub record IsTimely (f : scripts.Form) (built : Bool) (a : Asked) : Type 0 where
  pub of_form : IsOfForm f a
  pub stands : StandsBy built a

-- a question
abbrev pub IsQuestion : Asked → Type 0
IsQuestion (asking.Polynomial f) = Unit {0}
IsQuestion (asking.Prove f) = Unit {0}
IsQuestion asking.Dimensions = Unit {0}
IsQuestion asking.Table = Unit {0}
IsQuestion other = ⊥

-- a command other than a claim
abbrev pub IsOrder : Asked → Type 0
IsOrder (Claim f) = ⊥
IsOrder other = Unit {0}

-- a line, outside all blocks, asks for this
abbrev pub AsksFor : Asks → State → List ℕ → Type 0
AsksFor (asks.Command c) s line = asked_of s line ≡ Ok (view c)
AsksFor (asks.Claim f) s line = asked_of s line ≡ Ok (Claim f)
AsksFor (asks.Refusal e) s line = (asked_of s line ≡ Err e) × (is_claim (command_word s.form line) ≡ false)
AsksFor (asks.RefusedClaim e) s line = (asked_of s line ≡ Err e) × (is_claim (command_word s.form line) ≡ true)

-- what is asked for may stand here, and is over the field and the letters; a refusal can be written
abbrev pub MayBeAsked : Asks → State → Type 0
MayBeAsked (asks.Command c) s = IsOrder (view c) × IsTimely s.form s.built (view c) × IsCommandOver s.problem.field (length (letters_of s)) c
MayBeAsked (asks.Claim f) s = (s.form ≡ form.Check) × (s.built ≡ true) × IsPolyOver s.problem.field (length (letters_of s)) f
MayBeAsked (asks.Refusal e) s = CanBeWritten (refusal.Command e)
MayBeAsked (asks.RefusedClaim e) s = CanBeWritten (refusal.Command e)

-- a line that is no command here, unless memory ran out; the block of a claim follows
abbrev pub refused_as : Bool → CommandError → Result Asks NoMemory
refused_as claims command_error.NoMemory = Err (record {})
refused_as true e = Ok (asks.RefusedClaim e)
refused_as false e = Ok (asks.Refusal e)

-- what a command asks for
abbrev pub asks_of : Command → Asks
asks_of (commands.Claim f) = asks.Claim f
asks_of c = asks.Command c
