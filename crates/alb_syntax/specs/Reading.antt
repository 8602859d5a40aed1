-- What a text denotes: polynomials and monomials.
use Rattle.std.specs.Prelude.{◌≤◌, ℕ, zero, suc, ◌-◌, nat_lt, if◌then◌else◌, ◌++◌, length, Result, Ok, Err, ◌==◌, nat_le, Bool, true, false, ◌&&◌, List, [], ◌∷◌, position, Option, Some, None, ◌≡◌, ◌+◌}
use Rattle.std.specs.List.{list_any}
use Rattle.gf_field.specs.Modular.{IsInTable}
use Rattle.gf_sums.specs.Sums.{scale, IsCanonical}
use Rattle.alb_mono.specs.Tree.{degree, cmp_monos, Tree, leaf, node}
use Rattle.alb_poly.specs.Poly.{Poly, AreResidues, product, normal, generator}
use Rattle.alb_syntax.specs.declared.error.SyntaxError.{SyntaxError}
use Rattle.alb_lex.specs.Results.{◌>>=◌}
use Rattle.alb_lex.specs.declared.token.Token.{Token}
use Rattle.alb_lex.specs.declared.token.TokenKind.{TokenKind}
use Rattle.alb_syntax.specs.declared.error.SyntaxError.TheVariants as errors
use Rattle.alb_lex.specs.declared.token.TokenKind.TheVariants as kinds

-- ---- the operations of polynomials, each of which has a result or passes a limit. `place` is where a limit is answered

-- What every polynomial is that is read: p is in the table of fields, and over p elements it descends without zeros and has
-- at most 65,536 terms.
pub record IsCanonicalPoly (p : ℕ) (f : Poly) : Type 0 where
  pub listed : IsInTable p
  pub canonical : IsCanonical cmp_monos p f
  pub few : length f ≤ 65536

-- Terms in any order, among which monomials may repeat, for the sum that they stand for.
pub record AreLoose (p : ℕ) (f : Poly) : Type 0 where
  pub listed : IsInTable p
  pub residues : AreResidues p f
  pub few : length f ≤ 65536

-- a result within the limits: monomials of degree at most 64, and at most 65,536 of them
unfoldable pub limited : ℕ → Poly → Result Poly SyntaxError
limited place f =
    if list_any (λ t. nat_lt 64 (degree t.1)) f then Err (errors.TooHigh place)
    else if nat_lt 65536 (length f) then Err (errors.TooManyTerms place)
    else Ok f

unfoldable pub sum : ℕ → ℕ → Poly → Poly → Result Poly SyntaxError
sum p place f g = limited place (normal p (f ++ g))

unfoldable pub difference : ℕ → ℕ → Poly → Poly → Result Poly SyntaxError
difference p place f g = limited place (normal p (f ++ scale (p - 1) g))

unfoldable pub times : ℕ → ℕ → Poly → Poly → Result Poly SyntaxError
times p place f g = limited place (normal p (product f g))

-- a multiple passes no limit
unfoldable pub multiple : ℕ → ℕ → Poly → Poly
multiple p n f = normal p (scale n f)

-- (xy)z - x(yz)
unfoldable pub associator : ℕ → ℕ → Poly → Poly → Poly → Result Poly SyntaxError
associator p place x y z = do
  xy ← times p place x y
  left ← times p place xy z
  yz ← times p place y z
  right ← times p place x yz
  difference p place left right

-- xy - yx
unfoldable pub commutator : ℕ → ℕ → Poly → Poly → Result Poly SyntaxError
commutator p place x y = do
  xy ← times p place x y
  yx ← times p place y x
  difference p place xy yx

-- xy + yx
unfoldable pub jordan : ℕ → ℕ → Poly → Poly → Result Poly SyntaxError
jordan p place x y = do
  xy ← times p place x y
  yx ← times p place y x
  sum p place xy yx

-- ((f x) x) .. x, with `k` factors x
unfoldable pub raised : ℕ → ℕ → Poly → ℕ → Poly → Result Poly SyntaxError
raised p place x zero f = Ok f
raised p place x (suc k) f = do
  g ← times p place f x
  raised p place x k g

-- ---- the grammar. A reader takes the tokens that are left. It gives the polynomial that the tokens at their front denote and the tokens
-- after these, or the first fault

-- what a text is read by: the field, the letters of the generators, and the end place of the text
pub record Setting : Type 0 where
  pub field : ℕ
  pub letters : List ℕ
  pub end : ℕ

-- a value and the tokens after it, or the first fault
abbrev pub ReadingOf : Type 0 → Type 0
ReadingOf V = Result (V × List Token) SyntaxError

abbrev pub ReaderOf : Type 0 → Type 0
ReaderOf V = List Token → ReadingOf V

abbrev pub PolyReading : Type 0
PolyReading = ReadingOf Poly

abbrev pub PolyReader : Type 0
PolyReader = ReaderOf Poly

-- ---- the next token

abbrev pub next : List Token → Option TokenKind
next [] = None
next (t ∷ ts) = Some t.kind

abbrev pub after : List Token → List Token
after [] = []
after (t ∷ ts) = ts

-- where the next token stands, or the end place
abbrev pub place_or : ℕ → List Token → ℕ
place_or end [] = end
place_or end (t ∷ ts) = t.from

abbrev pub place : Setting → List Token → ℕ
place s ts = place_or s.end ts

-- nothing that the grammar allows stands next
abbrev pub unexpected : {A : Type 0} → Setting → List Token → Result A SyntaxError
unexpected s ts = Err (errors.Expected (place s ts))

-- a token that must stand next; `is` tests it
abbrev pub must_or : ℕ → (Option TokenKind → Bool) → List Token → Result (List Token) SyntaxError
must_or end is ts = if is (next ts) then Ok (after ts) else Err (errors.Expected (place_or end ts))

abbrev pub must : Setting → (Option TokenKind → Bool) → List Token → Result (List Token) SyntaxError
must s is ts = must_or s.end is ts

abbrev pub is_plus : Option TokenKind → Bool
is_plus (Some kinds.Plus) = true
is_plus _ = false

abbrev pub is_sign : Option TokenKind → Bool
is_sign (Some kinds.Plus) = true
is_sign (Some kinds.Minus) = true
is_sign _ = false

abbrev pub is_star : Option TokenKind → Bool
is_star (Some kinds.Star) = true
is_star _ = false

abbrev pub is_comma : Option TokenKind → Bool
is_comma (Some kinds.Comma) = true
is_comma _ = false

abbrev pub is_open : Option TokenKind → Bool
is_open (Some kinds.Open) = true
is_open _ = false

abbrev pub is_close : Option TokenKind → Bool
is_close (Some kinds.Close) = true
is_close _ = false

abbrev pub is_square_close : Option TokenKind → Bool
is_square_close (Some kinds.SquareClose) = true
is_square_close _ = false

abbrev pub begins_atom : Option TokenKind → Bool
begins_atom (Some (kinds.Letter b)) = true
begins_atom (Some kinds.Open) = true
begins_atom (Some kinds.SquareOpen) = true
begins_atom _ = false

-- ---- repetition: { part }

-- From the value `f` on: as long as `more` holds of what stands next, `part` makes the next value. The number bounds the turns.
unfoldable pub turns : {V : Type 0} → (Option TokenKind → Bool) → (V → ReaderOf V) → ℕ → V → ReaderOf V
turns more part zero f ts = Ok (f, ts)
turns more part (suc n) f ts = if more (next ts) then (part f ts >>= λ x. turns more part n x.0 x.1) else Ok (f, ts)

-- each turn takes a token, so there are no more turns than tokens
unfoldable pub each : {V : Type 0} → (Option TokenKind → Bool) → (V → ReaderOf V) → V → ReaderOf V
each more part f ts = turns more part (length ts) f ts

-- ---- power = atom [ "^" number ],  atom = letter | bracket

abbrev pub letter : Setting → Option ℕ → PolyReader
letter s (Some k) ts = Ok (generator k, after ts)
letter s None ts = Err (errors.UnknownLetter (place s ts))

abbrev pub atom_at : Setting → PolyReader → Option TokenKind → PolyReader
atom_at s bracket (Some (kinds.Letter b)) ts = letter s (position (λ x. x == b) s.letters) ts
atom_at s bracket (Some kinds.Open) ts = bracket ts
atom_at s bracket (Some kinds.SquareOpen) ts = bracket ts
atom_at s bracket _ ts = unexpected s ts

unfoldable pub atom : Setting → PolyReader → PolyReader
atom s bracket ts = atom_at s bracket (next ts) ts

-- after a caret, which stands at `at`: the exponent
abbrev pub exponent_at : Setting → ℕ → Poly → Option TokenKind → PolyReader
exponent_at s at x (Some (kinds.Number n)) ts =
    if nat_le 1 n && nat_le n 64 then (raised s.field at x (n - 1) x >>= λ f. Ok (f, after ts)) else unexpected s ts
exponent_at s at x _ ts = unexpected s ts

unfoldable pub exponent : Setting → ℕ → Poly → PolyReader
exponent s at x ts = exponent_at s at x (next ts) ts

abbrev pub is_caret : Option TokenKind → Bool
is_caret (Some kinds.Caret) = true
is_caret _ = false

unfoldable pub power : Setting → PolyReader → PolyReader
power s bracket ts = do
  x ← atom s bracket ts
  if is_caret (next x.1) then exponent s (place s x.1) x.0 (after x.1) else Ok x

-- ---- juxt = power { power }

unfoldable pub factor : Setting → PolyReader → Poly → PolyReader
factor s bracket f ts = do
  x ← power s bracket ts
  g ← times s.field (place s ts) f x.0
  Ok (g, x.1)

unfoldable pub juxt : Setting → PolyReader → PolyReader
juxt s bracket ts = do
  x ← power s bracket ts
  each begins_atom (factor s bracket) x.0 x.1

-- ---- jprod = juxt { "*" juxt }

unfoldable pub star : Setting → PolyReader → Poly → PolyReader
star s bracket f ts = do
  x ← juxt s bracket (after ts)
  g ← jordan s.field (place s ts) f x.0
  Ok (g, x.1)

unfoldable pub jprod : Setting → PolyReader → PolyReader
jprod s bracket ts = do
  x ← juxt s bracket ts
  each is_star (star s bracket) x.0 x.1

-- ---- term = [number] jprod | number

-- after the number `n`
unfoldable pub multiple_from : Setting → PolyReader → ℕ → PolyReader
multiple_from s bracket n ts =
    if begins_atom (next ts) then (jprod s bracket ts >>= λ x. Ok (multiple s.field n x.0, x.1))
    else if n == 0 then Ok ([], ts)
    else unexpected s ts

abbrev pub term_at : Setting → PolyReader → Option TokenKind → PolyReader
term_at s bracket (Some (kinds.Number n)) ts = multiple_from s bracket n (after ts)
term_at s bracket _ ts = jprod s bracket ts

unfoldable pub term : Setting → PolyReader → PolyReader
term s bracket ts = term_at s bracket (next ts) ts

-- ---- poly = [sign] term { sign term }

abbrev pub first_at : Setting → PolyReader → Option TokenKind → PolyReader
first_at s bracket (Some kinds.Plus) ts = term s bracket (after ts)
first_at s bracket (Some kinds.Minus) ts = term s bracket (after ts) >>= λ x. Ok (multiple s.field (s.field - 1) x.0, x.1)
first_at s bracket _ ts = term s bracket ts

unfoldable pub first : Setting → PolyReader → PolyReader
first s bracket ts = first_at s bracket (next ts) ts

unfoldable pub signed : Setting → PolyReader → Poly → PolyReader
signed s bracket f ts = do
  x ← term s bracket (after ts)
  g ← (if is_plus (next ts) then sum s.field (place s ts) f x.0 else difference s.field (place s ts) f x.0)
  Ok (g, x.1)

unfoldable pub poly : Setting → PolyReader → PolyReader
poly s bracket ts = do
  x ← first s bracket ts
  each is_sign (signed s bracket) x.0 x.1

-- ---- "(" poly ")",  "(" poly "," poly "," poly ")",  "[" poly "," poly "]"

-- after a first poly and the comma, in the round bracket at `at`
unfoldable pub two_more : Setting → PolyReader → ℕ → Poly → PolyReader
two_more s inside at x ts = do
  y ← inside ts
  us ← must s is_comma y.1
  z ← inside us
  f ← associator s.field at x y.0 z.0
  vs ← must s is_close z.1
  Ok (f, vs)

-- after an opening round bracket at `at`
unfoldable pub round : Setting → PolyReader → ℕ → PolyReader
round s inside at ts = do
  x ← inside ts
  if is_comma (next x.1) then two_more s inside at x.0 (after x.1) else (must s is_close x.1 >>= λ us. Ok (x.0, us))

-- after an opening square bracket at `at`
unfoldable pub square : Setting → PolyReader → ℕ → PolyReader
square s inside at ts = do
  x ← inside ts
  us ← must s is_comma x.1
  y ← inside us
  f ← commutator s.field at x.0 y.0
  vs ← must s is_square_close y.1
  Ok (f, vs)

-- ---- nesting: a bracket inside which brackets nest at most `n - 1` deep, so none where `n` is 0

unfoldable pub bracketed : Setting → ℕ → PolyReader
bracketed s zero ts = Err (errors.TooDeep (place s ts))
bracketed s (suc n) ts =
    if is_open (next ts) then round s (poly s (bracketed s n)) (place s ts) (after ts)
    else square s (poly s (bracketed s n)) (place s ts) (after ts)

-- ---- a whole text

-- the value, where no token is left
abbrev pub ended : {V : Type 0} → V → List Token → Result V SyntaxError
ended f [] = Ok f
ended f (t ∷ ts) = Err (errors.Expected t.from)

unfoldable pub denoted : Setting → List Token → Result Poly SyntaxError
denoted s ts = poly s (bracketed s 64) ts >>= λ x. ended x.0 x.1

-- ---- monomials by themselves: mono = part { part }, part = letter | "(" mono ")", where a row of parts is multiplied from the left

-- what a monomial is read by: the letters of the generators, and the end place of the text
pub record Lettering : Type 0 where
  pub letters : List ℕ
  pub end : ℕ

-- ---- part = letter | "(" mono ")"

abbrev pub begins_part : Option TokenKind → Bool
begins_part (Some (kinds.Letter b)) = true
begins_part (Some kinds.Open) = true
begins_part _ = false

abbrev pub lettered : Lettering → Option ℕ → ReaderOf Tree
lettered s (Some k) ts = Ok (leaf k, after ts)
lettered s None ts = Err (errors.UnknownLetter (place_or s.end ts))

abbrev pub part_from : Lettering → ReaderOf Tree → Option TokenKind → ReaderOf Tree
part_from s bracket (Some (kinds.Letter b)) ts = lettered s (position (λ x. x == b) s.letters) ts
part_from s bracket (Some kinds.Open) ts = bracket ts
part_from s bracket _ ts = Err (errors.Expected (place_or s.end ts))

unfoldable pub part : Lettering → ReaderOf Tree → ReaderOf Tree
part s bracket ts = part_from s bracket (next ts) ts

-- ---- mono = part { part }

-- a product of degree at most 64; `place` is where a higher one is answered
unfoldable pub joined : ℕ → Tree → Tree → Result Tree SyntaxError
joined place l r = if nat_lt 64 (degree l + degree r) then Err (errors.TooHigh place) else Ok (node l r)

-- one more part
unfoldable pub next_part : Lettering → ReaderOf Tree → Tree → ReaderOf Tree
next_part s bracket m ts = do
  x ← part s bracket ts
  g ← joined (place_or s.end ts) m x.0
  Ok (g, x.1)

unfoldable pub mono : Lettering → ReaderOf Tree → ReaderOf Tree
mono s bracket ts = do
  x ← part s bracket ts
  each begins_part (next_part s bracket) x.0 x.1

-- ---- nesting: a bracket inside which brackets nest at most `n - 1` deep, so none where `n` is 0

-- after an opening bracket
unfoldable pub enclosed : Lettering → ReaderOf Tree → ReaderOf Tree
enclosed s inside ts = do
  x ← inside ts
  us ← must_or s.end is_close x.1
  Ok (x.0, us)

unfoldable pub nested : Lettering → ℕ → ReaderOf Tree
nested s zero ts = Err (errors.TooDeep (place_or s.end ts))
nested s (suc n) ts = enclosed s (mono s (nested s n)) (after ts)

-- ---- a whole text

unfoldable pub mono_denoted : Lettering → List Token → Result Tree SyntaxError
mono_denoted s ts = mono s (nested s 64) ts >>= λ x. ended x.0 x.1

-- ---- the grammar apart from reading

pub data Shape : Type 0 where
  Part : Shape
  Product : Shape

-- `Spells letters c n ts m`: with these letters of the generators, as a `c`, the tokens `ts` spell the monomial `m`, and brackets nest at most `n` deep in them.
pub data Spells (letters : List ℕ) : Shape → ℕ → List Token → Tree → Type 0 where
  a_generator : (n k b : ℕ) (t : Token) → t.kind ≡ kinds.Letter b → position (λ x. x == b) letters ≡ Some k → Spells letters Part n (t ∷ []) (leaf k)
  in_brackets : (n : ℕ) (o c : Token) (us : List Token) (m : Tree) → o.kind ≡ kinds.Open → Spells letters Product n us m → c.kind ≡ kinds.Close
      → Spells letters Part (suc n) (o ∷ us ++ c ∷ []) m
  one_part : (n : ℕ) (ts : List Token) (m : Tree) → Spells letters Part n ts m → Spells letters Product n ts m
  parts : (n : ℕ) (us vs : List Token) (l r : Tree) → Spells letters Product n us l → Spells letters Part n vs r → degree l + degree r ≤ 64
      → Spells letters Product n (us ++ vs) (node l r)
