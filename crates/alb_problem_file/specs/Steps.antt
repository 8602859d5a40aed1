-- One line of a problem file, and the lines so far. Contracts of private functions alone speak of it.
use Rattle.std.specs.Prelude.{◌≡◌, ℕ, ◌+◌, ◌≤◌, ◌^◌, false, List, ◌++◌, length, Option, Result, Ok, Err}
use Rattle.alb_io.specs.Reader.{Reader, Reads, Reading, IsFirstLine}
use Rattle.alb_io.specs.declared.step.LineStep.{LineStep}
use Rattle.alb_io.specs.declared.step.LineStep.TheVariants as step
use Rattle.alb_problem.specs.Builder.{Builder}
use Rattle.alb_problem.specs.Problem.{problem}
use Rattle.alb_problem.specs.declared.problem.Problem.{Problem}
use Rattle.alb_problem.specs.declared.error.ProblemError.{ProblemError}
use Rattle.alb_problem.specs.declared.error.ProblemError.TheVariants as problem_error
use Rattle.alb_script.specs.Refusals.{command_text, told_by_problem, or_nothing}
use Rattle.alb_script.specs.declared.error.CommandError.{CommandError}
use Rattle.alb_script.specs.declared.error.CommandError.TheVariants as command_error
use Rattle.alb_problem_file.specs.Codes.{code_in}
use Rattle.alb_problem_file.specs.File.{no_problem, Said, GoesOn, Ends, Refuses, says, Stated, GoOn}
use Rattle.alb_problem_file.specs.declared.line.Said as lines
use Rattle.alb_problem_file.specs.declared.line.Said.TheVariants as said
use Rattle.alb_problem_file.specs.declared.line.Taken.{Taken}
use Rattle.alb_problem_file.specs.declared.line.Taken.TheVariants as took
use Rattle.alb_problem_file.specs.declared.stop.ProblemStop.{ProblemStop}
use Rattle.alb_problem_file.specs.declared.stop.ProblemStop.TheVariants as stop

-- what an error of the problem says, and one of a line that is no command
abbrev pub of_problem : ProblemError → lines.Said
of_problem problem_error.NoMemory = said.NoMemory
of_problem e = said.Refused (code_in (or_nothing (told_by_problem e)))

abbrev pub of_command : CommandError → lines.Said
of_command command_error.NoMemory = said.NoMemory
of_command e = said.Refused (code_in (command_text e))

-- this was said of a problem, which is `b` after it
abbrev pub IsSaid : lines.Said → Said → Builder → Type 0
IsSaid said.GoesOn is b = is ≡ GoesOn b
IsSaid said.Ends is b = is ≡ Ends b
IsSaid (said.Refused code) is b = is ≡ Refuses code
IsSaid said.NoMemory is b = Unit {0}

-- a line was read, whole or too long
pub record ReadsLine (old new : Reader) (before now : Option (List ℕ)) (line : List ℕ) : Type 0 where
  pub answer : LineStep
  pub reads : Reads answer old new before now
  pub is_first : IsFirstLine line (old.held ++ reads.got) new.held new.at_end
  pub running : new.ended ≡ false

-- a line was read that says this of a problem, which is `c` after it
pub record SaysLine (s : lines.Said) (old new : Reader) (before now : Option (List ℕ)) (b c : Builder) : Type 0 where
  pub line : List ℕ
  pub reads : ReadsLine old new before now line
  pub said : IsSaid s (says b line) c

-- what a call took
abbrev pub Takes : Taken → Reader → Reader → Option (List ℕ) → Option (List ℕ) → Builder → Builder → Type 0
Takes (took.Line s) old new before now b c = SaysLine s old new before now b c
Takes took.End old new before now b c = Reads step.End old new before now × (c ≡ b)
Takes took.ReadFault old new before now b c = Reads step.ReadFault old new before now
Takes took.InputLimit old new before now b c = Reads step.InputLimit old new before now

-- the lines so far lead to this problem, and this is the number of the next one
pub record Going (reader : Reader) (b : Builder) (number : ℕ) (first now : Option (List ℕ)) : Type 0 where
  pub taken : List ℕ
  pub lines : List (List ℕ)
  pub reading : Reading taken lines reader first now
  pub go_on : GoOn no_problem lines b
  pub number_is : number ≡ 1 + length lines
  pub room : reader.room + length taken ≡ 2 ^ 40
  pub few : length lines + (reader.room + length reader.held) ≤ 2 ^ 40

-- the problem at its end, or its refusal
abbrev pub IsFinished : Result Problem ProblemStop → Stated → Type 0
IsFinished (Ok q) stated = stated ≡ Ok (problem q)
IsFinished (Err (stop.Refused line code)) stated = stated ≡ Err (line, code)
IsFinished (Err other) stated = ⊥
