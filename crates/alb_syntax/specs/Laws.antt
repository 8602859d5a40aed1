-- The grammar as a relation and the reader as a function say the same.
use Rattle.std.specs.Prelude.{◌≡◌, ◌↔◌, ℕ, List, Ok}
use Rattle.alb_lex.specs.declared.token.Token.{Token}
use Rattle.alb_mono.specs.Tree.{Tree}
use Rattle.alb_poly.specs.Poly.{Poly}
use Rattle.alb_syntax.specs.Grammar.{Denotes, Sum}
use Rattle.alb_syntax.specs.Reading.{Spells, Product, mono_denoted, denoted}

-- tokens denote a polynomial exactly where the reader gives it
abbrev pub ReadsWhatIsDenoted : Type 0
ReadsWhatIsDenoted = (p end : ℕ) (letters : List ℕ) (ts : List Token) (f : Poly)
    → Denotes p letters Sum 64 ts f ↔ (denoted (record { field = p; letters = letters; end = end }) ts ≡ Ok f)

-- tokens denote one polynomial at most
abbrev pub DenotesOne : Type 0
DenotesOne = (p : ℕ) (letters : List ℕ) (ts : List Token) (f g : Poly) → Denotes p letters Sum 64 ts f → Denotes p letters Sum 64 ts g → f ≡ g

-- tokens spell a monomial exactly where the reader of monomials gives it
abbrev pub ReadsWhatIsSpelled : Type 0
ReadsWhatIsSpelled = (end : ℕ) (letters : List ℕ) (ts : List Token) (m : Tree)
    → Spells letters Product 64 ts m ↔ (mono_denoted (record { letters = letters; end = end }) ts ≡ Ok m)

-- tokens spell one monomial at most
abbrev pub SpellsOne : Type 0
SpellsOne = (letters : List ℕ) (ts : List Token) (l m : Tree) → Spells letters Product 64 ts l → Spells letters Product 64 ts m → l ≡ m
