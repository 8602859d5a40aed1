-- The lines that refuse a line.
use Rattle.std.specs.Prelude.{ℕ, Bool, true, false, List, [], ◌++◌, Option, None, Some, codes, decimal, IsTrue}
use Rattle.alb_lex.specs.declared.error.LexError.{LexError}
use Rattle.alb_lex.specs.declared.error.LexError.TheVariants as lex
use Rattle.alb_mono.specs.Tree.{alphabet, tree, are_below}
use Rattle.alb_print.specs.Text.{mono_text}
use Rattle.alb_syntax.specs.declared.error.SyntaxError.{SyntaxError}
use Rattle.alb_syntax.specs.declared.error.SyntaxError.TheVariants as syntax
use Rattle.alb_linear.specs.Identity as linear
use Rattle.alb_linear.specs.declared.error.IdentityError.{IdentityError}
use Rattle.alb_linear.specs.declared.error.IdentityError.TheVariants as identity
use Rattle.alb_problem.specs.Builder as refusals
use Rattle.alb_problem.specs.declared.error.ProblemError.{ProblemError}
use Rattle.alb_problem.specs.declared.error.ProblemError.TheVariants as problem
use Rattle.alb_script.specs.declared.error.CommandError.{CommandError}
use Rattle.alb_script.specs.declared.error.CommandError.TheVariants as command
use Rattle.alb_script.specs.declared.refusal.Refusal.{Refusal}
use Rattle.alb_script.specs.declared.refusal.Refusal.TheVariants as refusal

-- a line of two parts
abbrev pub line_with : List ℕ → List ℕ → List ℕ
line_with front text = front ++ (text ++ codes "\n")

abbrev pub lex_text : LexError → List ℕ
lex_text (lex.BadByte place) = line_with (codes "refused 10 at ") (decimal place)
lex_text (lex.NumberTooLong place) = line_with (codes "refused 11 at ") (decimal place)
lex_text lex.NoMemory = []

abbrev pub syntax_text : SyntaxError → List ℕ
syntax_text (syntax.Expected place) = line_with (codes "refused 20 at ") (decimal place)
syntax_text (syntax.UnknownLetter place) = line_with (codes "refused 21 at ") (decimal place)
syntax_text (syntax.TooDeep place) = line_with (codes "refused 22 at ") (decimal place)
syntax_text (syntax.TooManyTerms place) = line_with (codes "refused 23 at ") (decimal place)
syntax_text (syntax.TooHigh place) = line_with (codes "refused 24 at ") (decimal place)
syntax_text syntax.NoMemory = []

abbrev pub command_text : CommandError → List ℕ
command_text command.Unknown = codes "refused 80\n"
command_text command.NotYetBuilt = codes "refused 81\n"
command_text command.AlreadyBuilt = codes "refused 82\n"
command_text (command.BadArgument place) = line_with (codes "refused 83 at ") (decimal place)
command_text (command.Lex e) = lex_text e
command_text (command.Syntax e) = syntax_text e
command_text command.NoMemory = []

-- ---- refusals of the problem

abbrev pub fault_text : linear.IdentityFault → List ℕ
fault_text linear.Zero = codes "refused 30\n"
fault_text (linear.NotHomogeneous m) = line_with (codes "refused 31: ") (mono_text alphabet false m)
fault_text linear.DegreeOne = codes "refused 32\n"
fault_text linear.DegreeOver8 = codes "refused 33\n"

abbrev pub stated_text : refusals.ProblemRefusal → List ℕ
stated_text refusals.NotInTable = codes "refused 1\n"
stated_text refusals.FieldAfterIdentity = codes "refused 40\n"
stated_text refusals.GeneratorsTwice = codes "refused 45\n"
stated_text (refusals.BadGenerators place) = line_with (codes "refused 41 at ") (decimal place)
stated_text refusals.TooManyIdentities = codes "refused 42\n"
stated_text (refusals.NoIdentity fault) = fault_text fault
stated_text (refusals.TooManyLinear n) = line_with (codes "refused 34: ") (decimal n)
stated_text refusals.NoGenerators = codes "refused 43\n"
stated_text refusals.FieldTooSmall = codes "refused 44\n"

-- the refusal that an error of an identity, or of a problem, tells; running out of memory tells none
abbrev pub told_by_identity : IdentityError → Option refusals.ProblemRefusal
told_by_identity identity.Zero = Some (refusals.NoIdentity linear.Zero)
told_by_identity (identity.NotHomogeneous term) = Some (refusals.NoIdentity (linear.NotHomogeneous (tree term)))
told_by_identity identity.DegreeOne = Some (refusals.NoIdentity linear.DegreeOne)
told_by_identity identity.DegreeOver8 = Some (refusals.NoIdentity linear.DegreeOver8)
told_by_identity (identity.TooManyLinear count) = Some (refusals.TooManyLinear count)
told_by_identity identity.NoMemory = None

abbrev pub told_by_problem : ProblemError → Option refusals.ProblemRefusal
told_by_problem problem.NotInTable = Some refusals.NotInTable
told_by_problem problem.FieldAfterIdentity = Some refusals.FieldAfterIdentity
told_by_problem (problem.BadGenerators place) = Some (refusals.BadGenerators place)
told_by_problem problem.TooManyIdentities = Some refusals.TooManyIdentities
told_by_problem (problem.Identity e) = told_by_identity e
told_by_problem problem.NoGenerators = Some refusals.NoGenerators
told_by_problem problem.FieldTooSmall = Some refusals.FieldTooSmall
told_by_problem problem.GeneratorsTwice = Some refusals.GeneratorsTwice
told_by_problem problem.NoMemory = None

abbrev pub or_nothing : Option refusals.ProblemRefusal → List ℕ
or_nothing None = []
or_nothing (Some r) = stated_text r

-- the line that answers one that is too long
abbrev pub too_long_text : List ℕ
too_long_text = codes "refused 84\n"

-- the line of a refusal; running out of memory has none
abbrev pub refusal_text : Refusal → List ℕ
refusal_text refusal.TooLong = too_long_text
refusal_text (refusal.Command e) = command_text e
refusal_text (refusal.Problem e) = or_nothing (told_by_problem e)

-- ---- out of memory, by itself or inside another error

abbrev pub is_lex_memory : LexError → Bool
is_lex_memory lex.NoMemory = true
is_lex_memory other = false

abbrev pub is_syntax_memory : SyntaxError → Bool
is_syntax_memory syntax.NoMemory = true
is_syntax_memory other = false

abbrev pub is_command_memory : CommandError → Bool
is_command_memory (command.Lex e) = is_lex_memory e
is_command_memory (command.Syntax e) = is_syntax_memory e
is_command_memory command.NoMemory = true
is_command_memory other = false

abbrev pub is_identity_memory : IdentityError → Bool
is_identity_memory identity.NoMemory = true
is_identity_memory other = false

abbrev pub is_problem_memory : ProblemError → Bool
is_problem_memory (problem.Identity e) = is_identity_memory e
is_problem_memory problem.NoMemory = true
is_problem_memory other = false

abbrev pub is_memory : Refusal → Bool
is_memory refusal.TooLong = false
is_memory (refusal.Command e) = is_command_memory e
is_memory (refusal.Problem e) = is_problem_memory e

-- ---- the term that a refusal names is over the letters a to z

abbrev pub IsIdentityOverAlphabet : IdentityError → Type 0
IsIdentityOverAlphabet (identity.NotHomogeneous term) = IsTrue (are_below 26 (tree term))
IsIdentityOverAlphabet other = Unit {0}

abbrev pub IsProblemOverAlphabet : ProblemError → Type 0
IsProblemOverAlphabet (problem.Identity e) = IsIdentityOverAlphabet e
IsProblemOverAlphabet other = Unit {0}

abbrev pub IsOverAlphabet : Refusal → Type 0
IsOverAlphabet (refusal.Problem e) = IsProblemOverAlphabet e
IsOverAlphabet other = Unit {0}
