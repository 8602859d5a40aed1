-- What the lines of a block of evidence say.
use Rattle.std.specs.Prelude.{ℕ, Bool, true, false, ◌&&◌, nat_le, if◌then◌else◌, List, [], ◌∷◌, length, Option, None, Some, codes, ◌+◌, ◌-◌, ◌%◌, ◌||◌, not, ◌==◌, nat_lt, ◌++◌, take, drop, slice_index, position, replicate, option_map, Result, Ok, Err}
use Rattle.alb_lex.specs.Lexing.{is_blank, tokens_from, value_after}
use Rattle.std.specs.List.{list_all}
use Rattle.std.specs.Char.{is_ascii_digit}
use Rattle.alb_mono.specs.Tree.{Tree}
use Rattle.alb_mono.specs.declared.side.Side.{Side}
use Rattle.alb_mono.specs.declared.side.Side.TheVariants.{Left, Right}
use Rattle.alb_lex.specs.declared.token.Token.{Token}
use Rattle.alb_lex.specs.declared.token.TokenKind.{TokenKind}
use Rattle.alb_lex.specs.declared.error.LexError.{LexError}
use Rattle.alb_syntax.specs.Reading.{mono_denoted, is_open, is_close}
use Rattle.alb_syntax.specs.declared.error.SyntaxError.{SyntaxError}
use Rattle.alb_deriv.specs.Derivation.{Line, Instance, Times, Sum}
use Rattle.alb_check.specs.Raw.{Raw}
use Rattle.alb_lex.specs.declared.token.TokenKind.TheVariants as kinds
-- ---- how a line of evidence is cut into words

pub use Rattle.alb_lex.specs.Lexing.{is_word}

-- a byte at the front of the first word
abbrev pub onto_word : ℕ → List (List ℕ) → List (List ℕ)
onto_word b [] = (b ∷ []) ∷ []
onto_word b (w ∷ ws) = (b ∷ w) ∷ ws

-- no word goes on
abbrev pub ends_word : List ℕ → Bool
ends_word [] = true
ends_word (b ∷ bs) = is_blank b

-- the longest runs of bytes that are no blanks
unfoldable pub words : List ℕ → List (List ℕ)
words [] = []
words (b ∷ bs) = if is_blank b then words bs else if ends_word bs then (b ∷ []) ∷ words bs else onto_word b (words bs)

-- the first word, and the words after it
abbrev pub cut : List (List ℕ) → Option (List ℕ × List (List ℕ))
cut [] = None
cut (w ∷ ws) = Some (w, ws)

abbrev pub are_end : List (List ℕ) → Bool
are_end [] = false
are_end (w ∷ []) = is_word (codes "end") w
are_end (w ∷ v ∷ ws) = false

-- the line that ends a block: of at most 65,536 bytes, with the only word `end`
abbrev pub is_end : List ℕ → Bool
is_end line = nat_le (length line) 65536 && are_end (words line)

-- ---- what the lines of a block of evidence say

-- a line that has none of the forms, or a number of more than 18 digits in the place of a number
pub data Code : Type 0 where
  ABadLine : Code
  ABadNumber : Code

-- the same, with the number of the line in the block
pub data BlockFault : Type 0 where
  BadLine : ℕ → BlockFault
  BadNumber : ℕ → BlockFault

abbrev pub fault_at : Code → ℕ → BlockFault
fault_at ABadLine k = BadLine k
fault_at ABadNumber k = BadNumber k

-- a derivation, or a table
pub data Evidence : Type 0 where
  Zero : List Line → Evidence
  NotZero : Raw → Evidence

infixl 10 ◌>>=◌
abbrev pub ◌>>=◌ : {A B : Type 0} → Result A Code → (A → Result B Code) → Result B Code
(Ok x) >>= f = f x
(Err e) >>= f = Err e

abbrev pub must_hold : Bool → Result (Unit {0}) Code
must_hold true = Ok tt
must_hold false = Err ABadLine

-- ---- words, judged from left to right

abbrev pub or_bad_line : {A : Type 0} → Option A → Result A Code
or_bad_line None = Err ABadLine
or_bad_line (Some x) = Ok x

-- the first word, and the words after it
abbrev pub first_word : List (List ℕ) → Result (List ℕ × List (List ℕ)) Code
first_word ws = or_bad_line (cut ws)

-- there is no word
abbrev pub no_more : List (List ℕ) → Result (Unit {0}) Code
no_more [] = Ok tt
no_more (w ∷ ws) = Err ABadLine

-- digits are a number of 1 to 18 of them
unfoldable pub digits : List ℕ → Result ℕ Code
digits w =
    if not (list_all is_ascii_digit w) || (length w == 0) then Err ABadLine
    else if nat_lt 18 (length w) then Err ABadNumber
    else Ok (value_after 0 w)

-- a minus in front
abbrev pub has_minus : List ℕ → Bool
has_minus [] = false
has_minus (b ∷ bs) = b == 45

abbrev pub no_number : Result ℕ Code → Result ℕ Code
no_number (Ok n) = Err ABadLine
no_number (Err e) = Err e

-- a number of 1 to 18 digits; one with a minus is none, and digits too many are told first
unfoldable pub number : List ℕ → Result ℕ Code
number w = if has_minus w then no_number (digits (drop 1 w)) else digits w

-- a number with or without a minus, modulo `p`
unfoldable pub signed_number : ℕ → List ℕ → Result ℕ Code
signed_number p w = if has_minus w then (digits (drop 1 w) >>= λ n. Ok ((p - n % p) % p)) else (digits w >>= λ n. Ok (n % p))

abbrev pub spelled : Result Tree SyntaxError → Result Tree Code
spelled (Ok m) = Ok m
spelled (Err e) = Err ABadLine

abbrev pub mono_of_tokens : List ℕ → ℕ → Result (List Token) LexError → Result Tree Code
mono_of_tokens letters end (Ok ts) = spelled (mono_denoted (record { letters = letters; end = end }) ts)
mono_of_tokens letters end (Err e) = Err ABadLine

-- a monomial over the letters
abbrev pub mono_from : List ℕ → List ℕ → Result Tree Code
mono_from letters w = mono_of_tokens letters (length w + 1) (tokens_from false 1 w)

-- ---- the lines of a derivation

abbrev pub monos_from : List ℕ → List (List ℕ) → Result (List Tree) Code
monos_from letters [] = Ok []
monos_from letters (w ∷ ws) = do
  m ← mono_from letters w
  ms ← monos_from letters ws
  Ok (m ∷ ms)

-- `I M M ..`: an identity, and monomials
unfoldable pub instance_of : List ℕ → List (List ℕ) → Result Line Code
instance_of letters ws = do
  i ← first_word ws
  k ← number i.0
  ms ← monos_from letters i.1
  Ok (Instance k ms)

abbrev pub side : List ℕ → Result Side Code
side w = if is_word (codes "left") w then Ok Left else if is_word (codes "right") w then Ok Right else Err ABadLine

-- `J left M` or `J right M`: a line, a side and a monomial
unfoldable pub times_of : List ℕ → List (List ℕ) → Result Line Code
times_of letters ws = do
  j ← first_word ws
  k ← number j.0
  s ← first_word j.1
  d ← side s.0
  m ← first_word s.1
  t ← mono_from letters m.0
  u ← no_more m.1
  Ok (Times k (d, t))

-- with the place of the first star, where there is one
abbrev pub item_at : ℕ → List ℕ → Option ℕ → Result (ℕ × ℕ) Code
item_at p w None = signed_number p w >>= λ c. Err ABadLine
item_at p w (Some k) = do
  c ← signed_number p (take k w)
  j ← number (drop (k + 1) w)
  Ok (c, j)

-- `C*J`: a coefficient and a line
unfoldable pub item : ℕ → List ℕ → Result (ℕ × ℕ) Code
item p w = item_at p w (position (λ b. b == 42) w)

abbrev pub items : ℕ → List (List ℕ) → Result (List (ℕ × ℕ)) Code
items p [] = Ok []
items p (w ∷ ws) = do
  c ← item p w
  cs ← items p ws
  Ok (c ∷ cs)

-- `C*J C*J ..`: multiples of lines
unfoldable pub sum_from : ℕ → List (List ℕ) → Result Line Code
sum_from p ws = do
  cs ← items p ws
  Ok (Sum cs)

unfoldable pub kind_of : ℕ → List ℕ → List ℕ → List (List ℕ) → Result Line Code
kind_of p letters w ws =
    if is_word (codes "instance") w then instance_of letters ws
    else if is_word (codes "times") w then times_of letters ws
    else if is_word (codes "sum") w then sum_from p ws
    else Err ABadLine

-- the words after the number `n`
unfoldable pub after_number : ℕ → List (List ℕ) → Result (List (List ℕ)) Code
after_number n ws = do
  k ← first_word ws
  m ← number k.0
  u ← must_hold (m == n)
  Ok k.1

-- line `n` of a derivation: its number, what it is, and its parts
unfoldable pub line_from : ℕ → List ℕ → ℕ → List (List ℕ) → Result Line Code
line_from p letters n ws = do
  vs ← after_number n ws
  w ← first_word vs
  kind_of p letters w.0 w.1

-- ---- the lines of a table

-- a count of at most 255
abbrev pub count_in : TokenKind → Option ℕ
count_in (kinds.Number n) = if nat_le n 255 then Some n else None
count_in other = None

-- a count after a comma
abbrev pub later_count : TokenKind → TokenKind → Option ℕ
later_count kinds.Comma k = count_in k
later_count other k = None

abbrev pub onto_counts : Option ℕ → Option (List ℕ) → Option (List ℕ)
onto_counts None ns = None
onto_counts (Some n) ns = option_map (λ xs. n ∷ xs) ns

-- counts, each after a comma, and the closing bracket
unfoldable pub later_counts : List Token → Option (List ℕ)
later_counts [] = None
later_counts (t ∷ []) = if is_close (Some t.kind) then Some [] else None
later_counts (c ∷ t ∷ ts) = onto_counts (later_count c.kind t.kind) (later_counts ts)

-- an opening bracket, and counts with commas between them up to the closing bracket
unfoldable pub counts_in : List Token → Option (List ℕ)
counts_in [] = None
counts_in (o ∷ []) = None
counts_in (o ∷ t ∷ ts) = if is_open (Some o.kind) then onto_counts (count_in t.kind) (later_counts ts) else None

abbrev pub counts_of_tokens : Result (List Token) LexError → Option (List ℕ)
counts_of_tokens (Ok ts) = counts_in ts
counts_of_tokens (Err e) = None

-- a type of `n` counts, as `(2,1)`
unfoldable pub type_from : ℕ → List ℕ → Result (List ℕ) Code
type_from n w = do
  ns ← or_bad_line (counts_of_tokens (tokens_from false 1 w))
  u ← must_hold (length ns == n)
  Ok ns

abbrev pub is_empty : {A : Type 0} → List A → Bool
is_empty [] = true
is_empty (x ∷ xs) = false

-- `K TYPE`: the next element; elements stand before all generators and entries
unfoldable pub element_of : List ℕ → Raw → List (List ℕ) → Result Raw Code
element_of letters t ws = do
  u ← must_hold (is_empty t.generators && is_empty t.entries)
  vs ← after_number (length t.elements + 1) ws
  y ← first_word vs
  ty ← type_from (length letters) y.0
  w ← no_more y.1
  Ok (record t { elements = t.elements ++ ty ∷ [] })

-- the number of the generator whose letter the word is
abbrev pub letter_number : List ℕ → List ℕ → Option ℕ
letter_number letters w = if length w == 1 then position (λ x. x == slice_index w 0) letters else None

-- places up to the `g`-th, of which those that were not named before have no element, and then this one
abbrev pub with_generator : List (Option ℕ) → ℕ → ℕ → List (Option ℕ)
with_generator list g k = list ++ (replicate (g - length list) None ++ Some k ∷ [])

-- `LETTER K`: a generator that comes after those before, and its element; generators stand before all entries
unfoldable pub generator_of : List ℕ → Raw → List (List ℕ) → Result Raw Code
generator_of letters t ws = do
  u ← must_hold (is_empty t.entries)
  x ← first_word ws
  g ← or_bad_line (letter_number letters x.0)
  v ← must_hold (nat_le (length t.generators) g)
  y ← first_word x.1
  k ← number y.0
  w ← no_more y.1
  Ok (record t { generators = with_generator t.generators g k })

-- `I J K C`: the product of two elements has this coefficient at a third one
unfoldable pub entry_from : ℕ → Raw → List (List ℕ) → Result Raw Code
entry_from p t ws = do
  a ← first_word ws
  i ← number a.0
  b ← first_word a.1
  j ← number b.0
  c ← first_word b.1
  k ← number c.0
  d ← first_word c.1
  x ← signed_number p d.0
  w ← no_more d.1
  Ok (record t { entries = t.entries ++ record { left = i; right = j; to = k; coef = x } ∷ [] })

unfoldable pub row_of : ℕ → List ℕ → Raw → List ℕ → List (List ℕ) → Result Raw Code
row_of p letters t w ws =
    if is_word (codes "element") w then element_of letters t ws
    else if is_word (codes "generator") w then generator_of letters t ws
    else if is_word (codes "entry") w then entry_from p t ws
    else Err ABadLine

-- a line after the heading of a table
unfoldable pub table_line : ℕ → List ℕ → Raw → List (List ℕ) → Result Raw Code
table_line p letters t ws = do
  w ← first_word ws
  row_of p letters t w.0 w.1

-- ---- the lines of a block

-- what the lines before say: nothing yet, the lines of a derivation, or a table, in which the places of the generators after
-- the last named one are still missing
pub data Said : Type 0 where
  Nothing : Said
  Derivation : List Line → Said
  Table : Raw → Said

abbrev pub derivation_of : List (List ℕ) → Result Said Code
derivation_of ws = do
  u ← no_more ws
  Ok (Derivation [])

-- `TYPE`: the top
unfoldable pub table_of : List ℕ → List (List ℕ) → Result Said Code
table_of letters ws = do
  y ← first_word ws
  top ← type_from (length letters) y.0
  u ← no_more y.1
  Ok (Table (record { top = top; elements = []; generators = []; entries = [] }))

unfoldable pub block_of : List ℕ → List ℕ → List (List ℕ) → Result Said Code
block_of letters w ws =
    if is_word (codes "derivation") w then derivation_of ws
    else if is_word (codes "table") w then table_of letters ws
    else Err ABadLine

-- `derivation`, or `table TYPE`
unfoldable pub heading_of : List ℕ → List (List ℕ) → Result Said Code
heading_of letters ws = do
  w ← first_word ws
  block_of letters w.0 w.1

-- the next line of a derivation
abbrev pub pushed : List Line → Result Line Code → Result (List Line) Code
pushed ls next = next >>= λ l. Ok (ls ++ l ∷ [])

-- what the lines say with one more
unfoldable pub say : ℕ → List ℕ → Said → List (List ℕ) → Result Said Code
say p letters Nothing ws = heading_of letters ws
say p letters (Derivation ls) ws = pushed ls (line_from p letters (length ls + 1) ws) >>= λ ms. Ok (Derivation ms)
say p letters (Table t) ws = table_line p letters t ws >>= λ u. Ok (Table u)

-- a line goes on with what the lines before say; one of more than 65,536 bytes does not
abbrev pub say_line : ℕ → List ℕ → Said → List ℕ → Result Said Code
say_line p letters said line = if nat_lt 65536 (length line) then Err ABadLine else say p letters said (words line)

abbrev pub is_comment : List ℕ → Bool
is_comment [] = false
is_comment (b ∷ bs) = b == 35

-- no word, or a comment
abbrev pub are_skipped : List (List ℕ) → Bool
are_skipped [] = true
are_skipped (w ∷ ws) = is_comment w

-- a line that is not counted
abbrev pub is_skipped : List ℕ → Bool
is_skipped line = nat_le (length line) 65536 && are_skipped (words line)

-- a place for each of `n` generators; those without a line have no element
abbrev pub padded : ℕ → Raw → Raw
padded n t = record t { generators = t.generators ++ replicate (n - length t.generators) None }

-- what is said after all lines
abbrev pub whole : ℕ → Said → Result Evidence Code
whole n Nothing = Err ABadLine
whole n (Derivation ls) = Ok (Zero ls)
whole n (Table t) = Ok (NotZero (padded n t))

abbrev pub at_line : ℕ → Result Evidence Code → Result Evidence BlockFault
at_line k (Ok e) = Ok e
at_line k (Err code) = Err (fault_at code k)

-- the end of the lines, which stands in line `k`: `end`, or the end of the input
abbrev pub closed : ℕ → ℕ → Said → Bool → Result Evidence BlockFault
closed n k said has_end = at_line k (if has_end then whole n said else Err ABadLine)

abbrev pub go_on : ℕ → Result Said Code → (Said → Result Evidence BlockFault) → Result Evidence BlockFault
go_on k (Ok said) more = more said
go_on k (Err code) more = Err (fault_at code k)

-- The same after lines that say `said`, where the next counted line has the number `k`.
unfoldable pub evidence_from : ℕ → List ℕ → ℕ → Said → List (List ℕ) → Bool → Result Evidence BlockFault
evidence_from p letters k said [] has_end = closed (length letters) k said has_end
evidence_from p letters k said (line ∷ lines) has_end =
    if is_skipped line then evidence_from p letters k said lines has_end
    else go_on k (say_line p letters said line) (λ next. evidence_from p letters (k + 1) next lines has_end)

-- The evidence that the lines of a block give, which stand before `end` or before the end of the input; or the first faulty
-- line, counted from 1 without those that are skipped.
abbrev pub evidence_of : ℕ → List ℕ → List (List ℕ) → Bool → Result Evidence BlockFault
evidence_of p letters lines has_end = evidence_from p letters 1 Nothing lines has_end
