-- What the lines of a problem file say.
use Rattle.std.specs.Prelude.{◌≡◌, ℕ, ◌+◌, false, List, [], ◌∷◌, ◌++◌, length, Option, None, Some, Result, Ok, Err, nat_lt, if◌then◌else◌}
use Rattle.alb_problem.specs.Builder.{Builder, letters, counts, ProblemRefusal, field_refusal, generators_refusal, identity_refusal, finish_refusal}
use Rattle.alb_script.specs.Asked.{Asked, Blank, Field, Generators, Identity, asked}
use Rattle.alb_script.specs.declared.error.CommandError.{CommandError}
use Rattle.alb_script.specs.declared.form.Form.TheVariants as form
use Rattle.alb_script.specs.Refusals.{command_text, stated_text, too_long_text}
use Rattle.alb_problem_file.specs.Codes.{code_in}

-- the problem before its first statement
abbrev pub no_problem : Builder
no_problem = record { field = 251; letters = []; counts = []; identities = [] }

-- what a line says: the problem as it goes on; the problem, which ends here; or the line is refused, by its code
pub data Said : Type 0 where
  GoesOn : Builder → Said
  Ends : Builder → Said
  Refuses : ℕ → Said

-- the problem after a statement, unless that is refused
abbrev pub unless : Option ProblemRefusal → Builder → Said
unless None b = GoesOn b
unless (Some r) b = Refuses (code_in (stated_text r))

-- what a command says; `build` and `quit` end the problem
abbrev pub obeyed : Builder → Asked → Said
obeyed b Blank = GoesOn b
obeyed b (Field p) = unless (field_refusal b p) (record b { field = p })
obeyed b (Generators ts end) = unless (generators_refusal b ts end) (record b { letters = letters ts; counts = counts ts })
obeyed b (Identity f) = unless (identity_refusal b f) (record b { identities = b.identities ++ f ∷ [] })
obeyed b other = Ends b

abbrev pub said_by : Builder → Result Asked CommandError → Said
said_by b (Ok a) = obeyed b a
said_by b (Err e) = Refuses (code_in (command_text e))

-- WHAT A LINE SAYS of a problem: it is a line of a batch before `build`
abbrev pub says : Builder → List ℕ → Said
says b line = if nat_lt 65536 (length line) then Refuses (code_in too_long_text) else said_by b (asked form.Batch false 0 b.field [] line)

-- the problem; or the first line that is refused, counted from 1, and its code
abbrev pub Stated : Type 0
Stated = Result Builder (ℕ × ℕ)

-- the problem that ends at a line, unless it is refused there
abbrev pub or_refused : Option ProblemRefusal → ℕ → Builder → Stated
or_refused None n b = Ok b
or_refused (Some r) n b = Err (n, code_in (stated_text r))

abbrev pub finished : ℕ → Builder → Stated
finished n b = or_refused (finish_refusal b) n b

-- what line `n` says, and what comes after it
abbrev pub or_stops : (Builder → Stated) → ℕ → Said → Stated
or_stops later n (GoesOn b) = later b
or_stops later n (Ends b) = finished n b
or_stops later n (Refuses code) = Err (n, code)

-- what the lines from line `n` on say after those that stated `b`; where none ends the problem, it ends after the last one
unfoldable pub stated_from : ℕ → Builder → List (List ℕ) → Stated
stated_from n b [] = finished n b
stated_from n b (line ∷ lines) = or_stops (λ c. stated_from (n + 1) c lines) n (says b line)

-- THE PROBLEM OF A FILE, by its lines
abbrev pub problem_of : List (List ℕ) → Stated
problem_of lines = stated_from 1 no_problem lines

-- the lines lead from one problem to another, and none ends it or is refused
abbrev pub GoOn : Builder → List (List ℕ) → Builder → Type 0
GoOn b [] c = c ≡ b
GoOn b (line ∷ lines) c = (m : Builder) × (says b line ≡ GoesOn m) × GoOn m lines c
