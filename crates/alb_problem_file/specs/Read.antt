-- What a reader of a problem file does.
use Rattle.std.specs.Prelude.{◌≡◌, ℕ, ◌≤◌, ◌^◌, List, length, Option, None, Some, Result, Ok, Err}
use Rattle.std.specs.Io.KnownBytes.{Consumes}
use Rattle.alb_io.specs.Reader.{lines_of, whole_lines}
use Rattle.alb_problem.specs.Builder.{Builder}
use Rattle.alb_problem.specs.Problem.{problem}
use Rattle.alb_problem.specs.declared.problem.Problem.{Problem}
use Rattle.alb_problem_file.specs.File.{no_problem, problem_of, GoOn}
use Rattle.alb_problem_file.specs.declared.stop.ProblemStop.{ProblemStop}
use Rattle.alb_problem_file.specs.declared.stop.ProblemStop.TheVariants as stop

-- the input, where it tells its bytes; of another one no more is known than the bytes that were taken
abbrev pub input_of : Option (List ℕ) → List ℕ → List ℕ
input_of (Some input) taken = input
input_of None taken = taken

-- no whole line of the bytes ends the problem or is refused
abbrev pub IsOpen : List ℕ → Type 0
IsOpen taken = (b : Builder) × GoOn no_problem (whole_lines taken) b

-- by the answer, what the input says, of which these bytes were taken
abbrev pub IsProblemOf : Result Problem ProblemStop → List ℕ → List ℕ → Type 0
IsProblemOf (Ok q) input taken = problem_of (lines_of input) ≡ Ok (problem q)
IsProblemOf (Err (stop.Refused line code)) input taken = problem_of (lines_of input) ≡ Err (line, code)
IsProblemOf (Err stop.ReadFault) input taken = IsOpen taken
IsProblemOf (Err stop.InputLimit) input taken = IsOpen taken × (length taken ≡ 2 ^ 40)
IsProblemOf (Err stop.NoMemory) input taken = Unit {0}

-- WHAT A READER OF A PROBLEM FILE DID: the bytes that it took, and what the input says. Of an input that does not tell its bytes,
-- it is what the bytes say that were taken
pub record ReadsProblem (result : Result Problem ProblemStop) (first now : Option (List ℕ)) : Type 0 where
  pub taken : List ℕ
  pub consumed : Consumes first now taken
  pub limit : length taken ≤ 2 ^ 40
  pub is : IsProblemOf result (input_of first taken) taken
