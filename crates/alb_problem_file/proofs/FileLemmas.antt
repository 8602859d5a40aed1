-- How the lines of a problem file lead to the problem.
use Rattle.std.proofs.Common.{◌≡◌, ℕ, ◌+◌, List, [], ◌∷◌, ◌++◌, length, Result, Ok, Err, refl, sym, ap, ◌∙◌, subst, arith}
use Rattle.alb_problem.specs.Builder.{Builder}
use Rattle.alb_problem.specs.declared.problem.Problem.{Problem}
use Rattle.alb_io.specs.Reader.{lines_of}
use Rattle.alb_problem_file.specs.File.{Said, GoesOn, says, Stated, finished, or_stops, stated_from, problem_of, GoOn}
use Rattle.alb_problem_file.specs.Read.{IsProblemOf}
use Rattle.alb_problem_file.specs.Steps.{IsFinished}
use Rattle.alb_problem_file.specs.declared.stop.ProblemStop.{ProblemStop}
use Rattle.alb_problem_file.specs.declared.stop.ProblemStop.TheVariants as stop

-- one line more
pub go-on-more : (b c d : Builder) (lines : List (List ℕ)) (line : List ℕ) → GoOn b lines c → says c line ≡ GoesOn d → GoOn b (lines ++ line ∷ []) d
go-on-more b c d [] line g s = (d, subst (λ (m : Builder). says m line ≡ GoesOn d) g s, refl)
go-on-more b c d (x ∷ lines) line g s = (g.0, g.1, go-on-more g.0 c d lines line g.2 s)

-- the lines that follow say what they say after the problem so far
pub stated-after : (n : ℕ) (b c : Builder) (lines more : List (List ℕ)) → GoOn b lines c → stated_from n b (lines ++ more) ≡ stated_from (n + length lines) c more
unfolding stated_from
stated-after n b c [] more g =
    let e : n + 0 ≡ n = omega arith in
    ap (λ (m : Builder). stated_from n m more) (sym g) ∙ sym (ap (λ k. stated_from k c more) e)
stated-after n b c (x ∷ lines) more g =
    let e : n + 1 + length lines ≡ n + length (x ∷ lines) = omega arith in
    ap (or_stops (λ (d : Builder). stated_from (n + 1) d (lines ++ more)) n) g.1 ∙ stated-after (n + 1) g.0 c lines more g.2 ∙ ap (λ k. stated_from k c more) e

-- what a line says decides
pub stated-line : (n : ℕ) (c : Builder) (line : List ℕ) (more : List (List ℕ)) (s : Said) → says c line ≡ s
    → stated_from n c (line ∷ more) ≡ or_stops (λ (d : Builder). stated_from (n + 1) d more) n s
unfolding stated_from
stated-line n c line more s is = ap (or_stops (λ (d : Builder). stated_from (n + 1) d more) n) is

-- no line is left
pub stated-none : (n : ℕ) (c : Builder) → stated_from n c [] ≡ finished n c
unfolding stated_from
stated-none n c = refl

-- the problem at its end is that of the file
pub finished-is : (r : Result Problem ProblemStop) (stated : Stated) (input taken : List ℕ) → IsFinished r stated → problem_of (lines_of input) ≡ stated → IsProblemOf r input taken
finished-is (Ok q) stated input taken h is = is ∙ h
finished-is (Err (stop.Refused line code)) stated input taken h is = is ∙ h
finished-is (Err stop.ReadFault) stated input taken h is = absurd h
finished-is (Err stop.InputLimit) stated input taken h is = absurd h
finished-is (Err stop.NoMemory) stated input taken h is = absurd h
