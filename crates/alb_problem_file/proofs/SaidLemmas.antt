-- What a line says, by the errors of what it asks for.
use Rattle.std.proofs.Common.{◌≡◌, ℕ, ◌≤◌, ◌<◌, Bool, true, false, List, [], length, Option, Result, Err, refl, sym, ap, ◌∙◌, subst, arith}
use Rattle.std.specs.Prelude.{nat_lt, if◌then◌else◌}
use Rattle.std.proofs.lemmas.Bool.Decides.{nat_tests}
use Rattle.alb_lex.specs.declared.error.LexError.TheVariants as lex
use Rattle.alb_syntax.specs.declared.error.SyntaxError.TheVariants as syntax
use Rattle.alb_problem.specs.Builder.{Builder, ProblemRefusal, TellsRefusal, AnswersOrNoMemory}
use Rattle.alb_problem.specs.declared.error.ProblemError.{ProblemError}
use Rattle.alb_problem.specs.declared.error.ProblemError.TheVariants as error
use Rattle.alb_script.specs.Asked.{Asked, asked, Fails}
use Rattle.alb_script.specs.Refusals.{told_by_problem, or_nothing, is_problem_memory, too_long_text}
use Rattle.alb_script.specs.declared.error.CommandError.{CommandError}
use Rattle.alb_script.specs.declared.error.CommandError.TheVariants as command
use Rattle.alb_script.specs.declared.form.Form.TheVariants as form
use Rattle.alb_script.proofs.ToldLemmas.{tells}
use Rattle.alb_problem_file.specs.Codes.{code_in}
use Rattle.alb_problem_file.specs.File.{Refuses, unless, said_by, says}
use Rattle.alb_problem_file.specs.Steps.{of_problem, of_command, IsSaid}
use Rattle.alb_problem_file.specs.declared.line.Said as lines
use Rattle.alb_problem_file.specs.declared.line.Said.TheVariants as said

-- an error that does not say that memory ran out is a refusal
problem-refused : (e : ProblemError) → is_problem_memory e ≡ false → of_problem e ≡ said.Refused (code_in (or_nothing (told_by_problem e)))
problem-refused error.NotInTable h = refl
problem-refused error.FieldAfterIdentity h = refl
problem-refused error.GeneratorsTwice h = refl
problem-refused (error.BadGenerators place) h = refl
problem-refused error.TooManyIdentities h = refl
problem-refused (error.Identity e) h = refl
problem-refused error.NoGenerators h = refl
problem-refused error.FieldTooSmall h = refl
problem-refused error.NoMemory h = absurd (cc)

-- what is refused says its code
pub refused-says : (e : ProblemError) (new c : Builder) (found : Option ProblemRefusal) → TellsRefusal e found → IsSaid (of_problem e) (unless found new) c
refused-says e new c found h =
    let t = tells e found h in
    subst (λ (s : lines.Said). IsSaid s (unless found new) c) (sym (problem-refused e t.memory))
    (ap (λ o. unless o new) t.found_is ∙ sym (ap (λ o. Refuses (code_in (or_nothing o))) t.told))

-- the same, unless memory ran out
pub refused-or-memory : (e : ProblemError) (new c : Builder) (found : Option ProblemRefusal) → AnswersOrNoMemory {X = ℕ} (Err e) found → IsSaid (of_problem e) (unless found new) c
refused-or-memory error.NotInTable new c found h = refused-says error.NotInTable new c found h
refused-or-memory error.FieldAfterIdentity new c found h = refused-says error.FieldAfterIdentity new c found h
refused-or-memory error.GeneratorsTwice new c found h = refused-says error.GeneratorsTwice new c found h
refused-or-memory (error.BadGenerators place) new c found h = refused-says (error.BadGenerators place) new c found h
refused-or-memory error.TooManyIdentities new c found h = refused-says error.TooManyIdentities new c found h
refused-or-memory (error.Identity e) new c found h = refused-says (error.Identity e) new c found h
refused-or-memory error.NoGenerators new c found h = refused-says error.NoGenerators new c found h
refused-or-memory error.FieldTooSmall new c found h = refused-says error.FieldTooSmall new c found h
refused-or-memory error.NoMemory new c found h = tt

-- a line that is no command says the code of its fault
pub failed-says : (e : CommandError) (b c : Builder) (read : Result Asked CommandError) → Fails e read → IsSaid (of_command e) (said_by b read) c
failed-says command.Unknown b c read f = ap (said_by b) f
failed-says command.NotYetBuilt b c read f = ap (said_by b) f
failed-says command.AlreadyBuilt b c read f = ap (said_by b) f
failed-says (command.BadArgument place) b c read f = ap (said_by b) f
failed-says (command.Lex lex.NoMemory) b c read f = absurd f
failed-says (command.Lex (lex.BadByte place)) b c read f = ap (said_by b) f
failed-says (command.Lex (lex.NumberTooLong place)) b c read f = ap (said_by b) f
failed-says (command.Syntax syntax.NoMemory) b c read f = absurd f
failed-says (command.Syntax (syntax.Expected place)) b c read f = ap (said_by b) f
failed-says (command.Syntax (syntax.UnknownLetter place)) b c read f = ap (said_by b) f
failed-says (command.Syntax (syntax.TooDeep place)) b c read f = ap (said_by b) f
failed-says (command.Syntax (syntax.TooManyTerms place)) b c read f = ap (said_by b) f
failed-says (command.Syntax (syntax.TooHigh place)) b c read f = ap (said_by b) f
failed-says command.NoMemory b c read f = tt

-- what a line says that is not too long, and one that is
pub says-short : (b : Builder) (line : List ℕ) → length line ≤ 65536 → says b line ≡ said_by b (asked form.Batch false 0 b.field [] line)
says-short b line short =
    let e : nat_lt 65536 (length line) ≡ false = grind (arith, nat_tests) in
    ap (λ (t : Bool). if t then Refuses (code_in too_long_text) else said_by b (asked form.Batch false 0 b.field [] line)) e

pub says-long : (b : Builder) (line : List ℕ) → 65536 < length line → says b line ≡ Refuses (code_in too_long_text)
says-long b line long =
    let e : nat_lt 65536 (length line) ≡ true = grind (arith, nat_tests) in
    ap (λ (t : Bool). if t then Refuses (code_in too_long_text) else said_by b (asked form.Batch false 0 b.field [] line)) e
