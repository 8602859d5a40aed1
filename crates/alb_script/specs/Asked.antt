-- The words of a script, and what a line asks for.
use Rattle.std.specs.Prelude.{ℕ, Bool, true, false, if◌then◌else◌, List, Option, None, Some, codes, ◌≡◌, ◌+◌, not, ◌&&◌, ◌==◌, nat_le, [], ◌∷◌, length, take, drop, position, slice_index, unwrap_or, Result, Ok, Err, All, IsTrue, ◌≤◌}
use Rattle.alb_lex.specs.Lexing.{is_word, is_blank, tokens_from}
use Rattle.alb_script.specs.declared.form.Form.{Form}
use Rattle.alb_script.specs.declared.word.Word.{Word}
use Rattle.alb_lex.specs.declared.token.Token.{Token}
use Rattle.alb_lex.specs.declared.token.TokenKind.{TokenKind}
use Rattle.alb_lex.specs.declared.error.LexError.{LexError}
use Rattle.alb_mono.specs.Tree.{alphabet, are_below}
use Rattle.alb_poly.specs.Poly.{Poly, AreResidues}
use Rattle.alb_syntax.specs.Reading.{denoted}
use Rattle.alb_syntax.specs.declared.error.SyntaxError.{SyntaxError}
use Rattle.alb_script.specs.declared.command.Command.{Command}
use Rattle.alb_script.specs.declared.error.BadCommand.{BadCommand}
use Rattle.alb_script.specs.declared.error.CommandError.{CommandError}
use Rattle.alb_script.specs.declared.form.Form.TheVariants as form
use Rattle.alb_script.specs.declared.word.Word.TheVariants as word
use Rattle.alb_lex.specs.declared.token.TokenKind.TheVariants as kinds
use Rattle.alb_lex.specs.declared.error.LexError.TheVariants as lex
use Rattle.alb_syntax.specs.declared.error.SyntaxError.TheVariants as syntax
use Rattle.alb_script.specs.declared.command.Command.TheVariants as commands
use Rattle.alb_script.specs.declared.error.CommandError.TheVariants as errors

-- ---- the command words: which form has them, and when they may stand

-- the command word that a text is
abbrev pub word_named : List ℕ → Option Word
word_named text =
    if is_word (codes "field") text then Some word.Field
    else if is_word (codes "generators") text then Some word.Generators
    else if is_word (codes "identity") text then Some word.Identity
    else if is_word (codes "build") text then Some word.Build
    else if is_word (codes "polynomial") text then Some word.Polynomial
    else if is_word (codes "prove") text then Some word.Prove
    else if is_word (codes "dimensions") text then Some word.Dimensions
    else if is_word (codes "table") text then Some word.Table
    else if is_word (codes "claim") text then Some word.Claim
    else if is_word (codes "await") text then Some word.Await
    else if is_word (codes "quit") text then Some word.Quit
    else None

-- the words that stand before `build` alone
abbrev pub is_early : Word → Bool
is_early word.Field = true
is_early word.Generators = true
is_early word.Identity = true
is_early word.Build = true
is_early other = false

-- the questions about a table
abbrev pub is_question : Word → Bool
is_question word.Polynomial = true
is_question word.Prove = true
is_question word.Dimensions = true
is_question word.Table = true
is_question other = false

-- the words that ask for `build` before them
abbrev pub is_late : Word → Bool
is_late word.Claim = true
is_late word.Await = true
is_late other = is_question other

-- the words of the forms: a batch has no claims and waits for nothing, a check alone has claims, and a session has no problem
abbrev pub belongs : Form → Word → Bool
belongs form.Batch word.Claim = false
belongs form.Batch word.Await = false
belongs form.Batch other = true
belongs form.Check word.Await = false
belongs form.Check other = not (is_question other)
belongs form.Session word.Claim = false
belongs form.Session other = not (is_early other)

-- ---- what a line of a script asks for

-- what is asked for; the generators are tokens and the end place of the line
pub data Asked : Type 0 where
  Blank : Asked
  Field : ℕ → Asked
  Generators : List Token → ℕ → Asked
  Identity : Poly → Asked
  Build : Asked
  Polynomial : Poly → Asked
  Prove : Poly → Asked
  Dimensions : Asked
  Table : Asked
  Claim : Poly → Asked
  Await : ℕ → Asked
  Quit : Asked

infixl 10 ◌>>=◌
abbrev pub ◌>>=◌ : {A B : Type 0} → Result A CommandError → (A → Result B CommandError) → Result B CommandError
(Ok x) >>= f = f x
(Err e) >>= f = Err e

-- ---- arguments: what stands in the line from the byte `at` on

-- where the first byte that is no blank stands
abbrev pub dense : List ℕ → Option ℕ
dense text = position (λ b. not (is_blank b)) text

-- the tokens, or the first lexical fault
abbrev pub or_lex : {A : Type 0} → Result A LexError → Result A CommandError
or_lex (Ok ts) = Ok ts
or_lex (Err e) = Err (errors.Lex e)

abbrev pub or_syntax : {A : Type 0} → Result A SyntaxError → Result A CommandError
or_syntax (Ok f) = Ok f
or_syntax (Err e) = Err (errors.Syntax e)

abbrev pub tokens_at : ℕ → List ℕ → Result (List Token) CommandError
tokens_at at line = or_lex (tokens_from false (at + 1) (drop at line))

-- the polynomial over these letters, or the first fault
unfoldable pub poly_at : ℕ → List ℕ → ℕ → List ℕ → Result Poly CommandError
poly_at p letters at line = tokens_at at line >>= λ ts. or_syntax (denoted (record { field = p; letters = letters; end = length line + 1 }) ts)

-- the place of the argument's first byte, or the end place
abbrev pub place_at : ℕ → List ℕ → ℕ
place_at at line = at + unwrap_or (dense (drop at line)) (length (drop at line)) + 1

-- nothing stands there
abbrev pub when_none : Asked → ℕ → Option ℕ → Result Asked CommandError
when_none asked at None = Ok asked
when_none asked at (Some k) = Err (errors.BadArgument (at + k + 1))

abbrev pub alone : Asked → ℕ → List ℕ → Result Asked CommandError
alone asked at line = when_none asked at (dense (drop at line))

-- the number of a token
abbrev pub number_in : TokenKind → Option ℕ
number_in (kinds.Number n) = Some n
number_in other = None

-- the one number that a text is
abbrev pub only_number : Result (List Token) LexError → Option ℕ
only_number (Ok []) = None
only_number (Ok (t ∷ [])) = number_in t.kind
only_number (Ok (t ∷ u ∷ ts)) = None
only_number (Err e) = None

abbrev pub or_bad_argument : ℕ → Option ℕ → Result ℕ CommandError
or_bad_argument place (Some n) = Ok n
or_bad_argument place None = Err (errors.BadArgument place)

-- the one number of 1 to 18 digits that stands there
unfoldable pub number_argument : ℕ → List ℕ → Result ℕ CommandError
number_argument at line = or_bad_argument (place_at at line) (only_number (tokens_from false (at + 1) (drop at line)))

-- a degree, which is 1 to the total degree
unfoldable pub degree_at : ℕ → ℕ → List ℕ → Result ℕ CommandError
degree_at total at line = number_argument at line >>= λ n. if nat_le 1 n && nat_le n total then Ok n else Err (errors.BadArgument (place_at at line))

-- ---- commands

-- what a word asks for with the argument that stands after it
unfoldable pub asked_by : ℕ → ℕ → List ℕ → Word → ℕ → List ℕ → Result Asked CommandError
asked_by total p letters word.Field at line = number_argument at line >>= λ n. Ok (Field n)
asked_by total p letters word.Generators at line = tokens_at at line >>= λ ts. Ok (Generators ts (length line + 1))
asked_by total p letters word.Identity at line = poly_at p alphabet at line >>= λ f. Ok (Identity f)
asked_by total p letters word.Build at line = alone Build at line
asked_by total p letters word.Polynomial at line = poly_at p letters at line >>= λ f. Ok (Polynomial f)
asked_by total p letters word.Prove at line = poly_at p letters at line >>= λ f. Ok (Prove f)
asked_by total p letters word.Dimensions at line = alone Dimensions at line
asked_by total p letters word.Table at line = alone Table at line
asked_by total p letters word.Claim at line = poly_at p letters at line >>= λ f. Ok (Claim f)
asked_by total p letters word.Await at line = degree_at total at line >>= λ n. Ok (Await n)
asked_by total p letters word.Quit at line = alone Quit at line

-- a word of the form
abbrev pub of_form : Form → Option Word → Option Word
of_form form None = None
of_form form (Some w) = if belongs form w then Some w else None

-- where the first word begins; a line of blanks has none, and neither has one whose first byte that is no blank is `#`
abbrev pub unless_comment : List ℕ → Option ℕ → Option ℕ
unless_comment line None = None
unless_comment line (Some start) = if slice_index line start == 35 then None else Some start

abbrev pub word_start : List ℕ → Option ℕ
word_start line = unless_comment line (dense line)

-- how many bytes stand before the first blank
abbrev pub word_length : List ℕ → ℕ
word_length text = unwrap_or (position is_blank text) (length text)

-- the text of the word that begins at the byte `start`
abbrev pub word_at : ℕ → List ℕ → List ℕ
word_at start line = take (word_length (drop start line)) (drop start line)

abbrev pub word_from : Form → List ℕ → Option ℕ → Option Word
word_from form line None = None
word_from form line (Some start) = of_form form (word_named (word_at start line))

-- the command word of the form that a line begins with, if it begins with one
unfoldable pub command_word : Form → List ℕ → Option Word
command_word form line = word_from form line (word_start line)

abbrev pub or_unknown : Option Word → Result Word CommandError
or_unknown None = Err errors.Unknown
or_unknown (Some w) = Ok w

-- a word that may stand before `build`, or after it
abbrev pub timely : Bool → Word → Result Word CommandError
timely built w = if built && is_early w then Err errors.AlreadyBuilt else if not built && is_late w then Err errors.NotYetBuilt else Ok w

-- the word, if there is one and it may stand here
unfoldable pub word_of : Bool → Option Word → Result Word CommandError
word_of built w = or_unknown w >>= timely built

-- what a line asks for whose first word begins at a byte; one with no word asks for nothing
abbrev pub asked_at : Form → Bool → ℕ → ℕ → List ℕ → Option ℕ → List ℕ → Result Asked CommandError
asked_at form built total p letters None line = Ok Blank
asked_at form built total p letters (Some start) line =
    word_of built (command_word form line) >>= λ w. asked_by total p letters w (start + word_length (drop start line)) line

-- what a line asks for, or its first fault: in this form, before or after `build`, up to this total degree, over a field of p elements and with these letters of the generators
unfoldable pub asked : Form → Bool → ℕ → ℕ → List ℕ → List ℕ → Result Asked CommandError
asked form built total p letters line = asked_at form built total p letters (word_start line) line

-- ---- what was returned

abbrev pub of_lex : LexError → CommandError
of_lex lex.NoMemory = errors.NoMemory
of_lex (lex.BadByte place) = errors.Lex (lex.BadByte place)
of_lex (lex.NumberTooLong place) = errors.Lex (lex.NumberTooLong place)

abbrev pub of_syntax : SyntaxError → CommandError
of_syntax syntax.NoMemory = errors.NoMemory
of_syntax (syntax.Expected place) = errors.Syntax (syntax.Expected place)
of_syntax (syntax.UnknownLetter place) = errors.Syntax (syntax.UnknownLetter place)
of_syntax (syntax.TooDeep place) = errors.Syntax (syntax.TooDeep place)
of_syntax (syntax.TooManyTerms place) = errors.Syntax (syntax.TooManyTerms place)
of_syntax (syntax.TooHigh place) = errors.Syntax (syntax.TooHigh place)

-- what a command asks for
abbrev pub view : Command → Asked
view commands.Blank = Blank
view (commands.Field n) = Field n
view (commands.Generators ts end) = Generators ts.items end
view (commands.Identity f) = Identity f
view commands.Build = Build
view (commands.Polynomial f) = Polynomial f
view (commands.Prove f) = Prove f
view commands.Dimensions = Dimensions
view commands.Table = Table
view (commands.Claim f) = Claim f
view (commands.Await n) = Await n
view commands.Quit = Quit

-- the fault is that of the definition, and never says inside another one that memory ran out, unless memory ran out
abbrev pub Fails : {Y : Type 0} → CommandError → Result Y CommandError → Type 0
Fails errors.NoMemory read = Unit {0}
Fails (errors.Lex lex.NoMemory) read = ⊥
Fails (errors.Syntax syntax.NoMemory) read = ⊥
Fails errors.Unknown read = read ≡ Err errors.Unknown
Fails errors.NotYetBuilt read = read ≡ Err errors.NotYetBuilt
Fails errors.AlreadyBuilt read = read ≡ Err errors.AlreadyBuilt
Fails (errors.BadArgument place) read = read ≡ Err (errors.BadArgument place)
Fails (errors.Lex e) read = read ≡ Err (errors.Lex e)
Fails (errors.Syntax e) read = read ≡ Err (errors.Syntax e)

-- no error says inside another one that memory ran out
abbrev pub IsPlain : CommandError → Type 0
IsPlain (errors.Lex lex.NoMemory) = ⊥
IsPlain (errors.Syntax syntax.NoMemory) = ⊥
IsPlain other = Unit {0}

-- what was returned, seen by `f`, is what the definition gives, unless memory ran out
abbrev pub Gives : {X Y : Type 0} → (X → Y) → Result X CommandError → Result Y CommandError → Type 0
Gives f (Ok x) read = read ≡ Ok (f x)
Gives f (Err e) read = Fails e read

-- what was returned, at a fault the error alone
abbrev pub or_error : {X : Type 0} → Result X BadCommand → Result X CommandError
or_error (Ok x) = Ok x
or_error (Err bad) = Err bad.error

-- a polynomial over p elements and n generators, within the limits
pub record IsPolyOver (p n : ℕ) (f : Poly) : Type 0 where
  pub residues : AreResidues p f
  pub few : length f ≤ 65536
  pub known : All (λ t. IsTrue (are_below n t.1)) f

-- the polynomial of a command is over the field, and over the letters that its word asks for
abbrev pub IsCommandOver : ℕ → ℕ → Command → Type 0
IsCommandOver p n (commands.Identity f) = IsPolyOver p 26 f
IsCommandOver p n (commands.Polynomial f) = IsPolyOver p n f
IsCommandOver p n (commands.Prove f) = IsPolyOver p n f
IsCommandOver p n (commands.Claim f) = IsPolyOver p n f
IsCommandOver p n other = Unit {0}
