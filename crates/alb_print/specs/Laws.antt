-- The laws of the printed texts.
use Rattle.std.specs.Prelude.{◌≡◌, ◌^◌, ℕ, ◌<◌, ◌≤◌, IsTrue, false, true, List, [], ◌∷◌, length, Ok}
use Rattle.gf_sums.specs.Sums.{IsCanonical}
use Rattle.alb_mono.specs.Tree.{AreLetters, Tree, degree, are_below, cmp_monos}
use Rattle.alb_lex.specs.Lexing.{tokens_from}
use Rattle.alb_lex.specs.declared.token.Token.{Token}
use Rattle.alb_poly.specs.Poly.{Poly}
use Rattle.alb_syntax.specs.Grammar.{Denotes, Sum}
use Rattle.alb_syntax.specs.Reading.{Spells, Product}
use Rattle.alb_print.specs.Text.{mono_text, poly_text}

-- the tokens of a text denote a polynomial, wherever in a line it stands
abbrev pub TextDenotes : ℕ → List ℕ → List ℕ → Poly → Type 0
TextDenotes p letters text f = (at : ℕ) → (ts : List Token) × (tokens_from false at text ≡ Ok ts) × Denotes p letters Sum 64 ts f

-- a printed monomial denotes that monomial
abbrev pub MonomialsDenoteThemselves : Type 0
MonomialsDenoteThemselves = (p : ℕ) (letters : List ℕ) (m : Tree) → 1 < p → AreLetters letters → IsTrue (are_below (length letters) m) → degree m ≤ 64
    → TextDenotes p letters (mono_text letters false m) ((1, m) ∷ [])

-- the tokens of a text spell a monomial by itself, wherever in a line it stands
abbrev pub TextSpells : List ℕ → List ℕ → Tree → Type 0
TextSpells letters text m = (at : ℕ) → (ts : List Token) × (tokens_from false at text ≡ Ok ts) × Spells letters Product 64 ts m

-- a printed monomial spells that monomial where a monomial stands by itself
abbrev pub MonomialsSpellThemselves : Type 0
MonomialsSpellThemselves = (letters : List ℕ) (m : Tree) → AreLetters letters → IsTrue (are_below (length letters) m) → degree m ≤ 64
    → TextSpells letters (mono_text letters false m) m

-- each monomial is over the first n generators, and of degree at most 64
abbrev pub ArePrintable : ℕ → Poly → Type 0
ArePrintable n [] = Unit {0}
ArePrintable n (t ∷ f) = (are_below n t.1 ≡ true) × (degree t.1 ≤ 64) × ArePrintable n f

-- a printed polynomial denotes that polynomial
abbrev pub PolynomialsDenoteThemselves : Type 0
PolynomialsDenoteThemselves = (p : ℕ) (letters : List ℕ) (f : Poly) → 1 < p → p < 2 ^ 16 → AreLetters letters → IsCanonical cmp_monos p f → ArePrintable (length letters) f
    → length f ≤ 65536 → TextDenotes p letters (poly_text p letters f) f
