-- Texts that are cut into tokens, whatever stands around them.
use Rattle.std.proofs.Common.{◌≡◌, ℕ, ◌+◌, ◌≤◌, false, List, [], ◌∷◌, ◌++◌, length, Some, Ok, refl, sym, ap, ◌∙◌, append_assoc, arith, length-append}
use Rattle.std.specs.Char.{is_ascii_digit}
use Rattle.std.proofs.lemmas.Bool.{le-leb}
use Rattle.std.proofs.lemmas.Bool.Decides.{nat_tests}
use Rattle.std.proofs.lemmas.List.{append-nil}
use Rattle.alb_lex.specs.declared.token.Token.{Token}
use Rattle.alb_lex.specs.declared.token.TokenKind.{TokenKind}
use Rattle.alb_lex.specs.declared.token.TokenKind.TheVariants as kinds
use Rattle.alb_lex.specs.Lexing.{is_blank, single, tokens_from}
use Rattle.alb_lex.proofs.Steps.{onto, onto-nil, onto-onto, one_byte, one_blank, single_token}

-- the text gives tokens of which `P` holds
abbrev pub Spelled : List ℕ → (List Token → Type 0) → Type 0
Spelled text P = (k : ℕ) → (ts : List Token) × P ts × ((rest : List ℕ) → tokens_from false k (text ++ rest) ≡ onto ts (tokens_from false (k + length text) rest))

pub spelled-one : (b : ℕ) (kind : TokenKind) (P : List Token → Type 0) → is_blank b ≡ false → is_ascii_digit b ≡ false → single b ≡ Some kind
    → ((t : Token) → t.kind ≡ kind → P (t ∷ [])) → Spelled (b ∷ []) P
spelled-one b kind P blank digit e h k = (single_token k kind ∷ [], h (single_token k kind) refl, λ rest. one_byte k b rest kind blank digit e)

pub spelled-both : (a b : List ℕ) (P Q R : List Token → Type 0) → Spelled a P → Spelled b Q → ((us vs : List Token) → P us → Q vs → R (us ++ vs)) → Spelled (a ++ b) R
spelled-both a b P Q R x y h k =
    let u = x k in
    let v = y (k + length a) in (
      u.0 ++ v.0,
      h u.0 v.0 u.1 v.1,
      λ rest.
          let e : (k + length a) + length b ≡ k + length (a ++ b) = omega (arith, length-append a b) in
          ap (tokens_from false k) (append_assoc a b rest) ∙ u.2 (b ++ rest) ∙ ap (onto u.0) (v.2 rest) ∙ onto-onto u.0 v.0 _
          ∙ ap (λ j. onto (u.0 ++ v.0) (tokens_from false j rest)) e,
    )

-- a whole text
pub spelled-all : (text : List ℕ) (P : List Token → Type 0) → Spelled text P → (k : ℕ) → (ts : List Token) × P ts × (tokens_from false k text ≡ Ok ts)
unfolding tokens_from
spelled-all text P x k = let u = x k in (u.0, u.1, ap (tokens_from false k) (sym (append-nil text)) ∙ u.2 [] ∙ ap (λ (ts : List Token). Ok ts) (append-nil u.0))

-- a letter a to z
pub letter_is : (b : ℕ) → 97 ≤ b → b ≤ 122 → (is_blank b ≡ false) × (is_ascii_digit b ≡ false) × (single b ≡ Some (kinds.Letter b))
letter_is b low high = (grind (arith, nat_tests), grind (arith, nat_tests), rw (le-leb 97 b low, le-leb b 122 high) refl)

pub spelled-map : (text : List ℕ) (P Q : List Token → Type 0) → Spelled text P → ((ts : List Token) → P ts → Q ts) → Spelled text Q
spelled-map text P Q x h k = let u = x k in (u.0, h u.0 u.1, u.2)

pub spelled-none : (P : List Token → Type 0) → P [] → Spelled [] P
spelled-none P h k = ([], h, λ rest. sym (onto-nil (tokens_from false (k + 0) rest) ∙ ap (λ j. tokens_from false j rest) (let q : k + 0 ≡ k = omega arith in q)))

-- the second text is read by what the first one gave
pub spelled-then : (a b : List ℕ) (P R : List Token → Type 0) → Spelled a P → ((us : List Token) → P us → Spelled b (λ vs. R (us ++ vs))) → Spelled (a ++ b) R
spelled-then a b P R x h k =
    let u = x k in
    let v = h u.0 u.1 (k + length a) in (
      u.0 ++ v.0,
      v.1,
      λ rest.
          let e : (k + length a) + length b ≡ k + length (a ++ b) = omega (arith, length-append a b) in
          ap (tokens_from false k) (append_assoc a b rest) ∙ u.2 (b ++ rest) ∙ ap (onto u.0) (v.2 rest) ∙ onto-onto u.0 v.0 _
          ∙ ap (λ j. onto (u.0 ++ v.0) (tokens_from false j rest)) e,
    )

-- a token of one byte between blanks
pub spelled-sign : (b : ℕ) (kind : TokenKind) (P : List Token → Type 0) → is_blank b ≡ false → is_ascii_digit b ≡ false → single b ≡ Some kind
    → ((t : Token) → t.kind ≡ kind → P (t ∷ [])) → Spelled (32 ∷ b ∷ 32 ∷ []) P
spelled-sign b kind P blank digit e h k = (
  single_token (k + 1) kind ∷ [],
  h (single_token (k + 1) kind) refl,
  λ rest.
      let q : ((k + 1) + 1) + 1 ≡ k + 3 = omega arith in
      one_blank k 32 (b ∷ 32 ∷ rest) refl ∙ one_byte (k + 1) b (32 ∷ rest) kind blank digit e
      ∙ ap (onto (single_token (k + 1) kind ∷ [])) (one_blank ((k + 1) + 1) 32 rest refl ∙ ap (λ j. tokens_from false j rest) q),
)
