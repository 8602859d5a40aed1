-- A printed monomial spells that monomial, in the grammar of monomials by themselves.
use Rattle.std.proofs.Common.{◌≡◌, ℕ, zero, suc, ◌+◌, ◌≤◌, true, false, List, [], ◌∷◌, ◌++◌, length, Ok, refl, sym, ap, subst, arith}
use Rattle.std.specs.Prelude.{slice_index}
use Rattle.alb_mono.specs.Tree.{AreLetters, Tree, leaf, node, degree, are_below}
use Rattle.alb_mono.proofs.Both.{both_tests}
use Rattle.alb_mono.proofs.Degrees.{degree_positive}
use Rattle.alb_lex.specs.Lexing.{tokens_from}
use Rattle.alb_lex.specs.declared.token.Token.{Token}
use Rattle.alb_lex.specs.declared.token.TokenKind.TheVariants as kinds
use Rattle.alb_syntax.specs.Reading.{Spells, Part, Product, mono_denoted}
use Rattle.alb_syntax.specs.Reading as grammar
use Rattle.alb_syntax.proofs.Monomials.{mono-again}
use Rattle.alb_print.specs.Text.{mono_text}
use Rattle.alb_print.specs.Laws.{MonomialsSpellThemselves}
use Rattle.alb_print.proofs.Monomials.{below_from}
use Rattle.alb_print.proofs.Spelled.{Spelled, spelled-one, spelled-both, spelled-all, letter_is}

module _ (ls : List ℕ) (are : AreLetters ls) where
  -- two factors one after the other
  pair : (n : ℕ) (l r : Tree) (us vs : List Token) → degree l + degree r ≤ 64 → Spells ls Part n us l → Spells ls Part n vs r → Spells ls Product n (us ++ vs) (node l r)
  pair n l r us vs h dl dr = grammar.parts n us vs l r (grammar.one_part n us l dl) dr h

  -- a factor: a letter, or a product in brackets, which nest less deep than the degree
  factor : (n : ℕ) (m : Tree) → are_below (length ls) m ≡ true → degree m ≤ suc n → degree m ≤ 64 → Spelled (mono_text ls true m) (λ ts. Spells ls Part n ts m)
  factor n (leaf k) b h small =
      let lt = below_from k (length ls) b in
      let is = letter_is (slice_index ls k) (are.low k lt) (are.high k lt) in
      spelled-one (slice_index ls k) (kinds.Letter (slice_index ls k)) (λ ts. Spells ls Part n ts (leaf k)) is.0 is.1 is.2 (λ t e. grammar.a_generator n k (slice_index ls k) t e (are.place k lt))
  factor zero (node l r) b h small = absurd (omega (arith, degree_positive l, degree_positive r))
  factor (suc n) (node l r) b h small =
      let bs = both_tests (are_below (length ls) l) (are_below (length ls) r) b in
      let xl = factor n l bs.0 (omega (arith, degree_positive r)) (omega (arith, degree_positive r)) in
      let xr = factor n r bs.1 (omega (arith, degree_positive l)) (omega (arith, degree_positive l)) in
      let inside = spelled-both (mono_text ls true l) (mono_text ls true r) (λ ts. Spells ls Part n ts l) (λ ts. Spells ls Part n ts r) (λ ts. Spells ls Product n ts (node l r)) xl xr
      (λ us vs dl dr. pair n l r us vs small dl dr) in
      let opened = spelled-both (40 ∷ []) (mono_text ls true l ++ mono_text ls true r) (λ ts. (o : Token) × (ts ≡ o ∷ []) × (o.kind ≡ kinds.Open)) (λ ts. Spells ls Product n ts (node l r))
      (λ ts. (o : Token) × (us : List Token) × (ts ≡ o ∷ us) × (o.kind ≡ kinds.Open) × Spells ls Product n us (node l r))
      (spelled-one 40 kinds.Open (λ ts. (o : Token) × (ts ≡ o ∷ []) × (o.kind ≡ kinds.Open)) refl refl refl (λ t e. (t, refl, e))) inside
      (λ us vs h d. (h.0, vs, ap (λ w. w ++ vs) h.1, h.2, d)) in
      spelled-both (40 ∷ (mono_text ls true l ++ mono_text ls true r)) (41 ∷ []) (λ ts. (o : Token) × (us : List Token) × (ts ≡ o ∷ us) × (o.kind ≡ kinds.Open) × Spells ls Product n us (node l r))
      (λ ts. (c : Token) × (ts ≡ c ∷ []) × (c.kind ≡ kinds.Close)) (λ ts. Spells ls Part (suc n) ts (node l r))
      opened (spelled-one 41 kinds.Close (λ ts. (c : Token) × (ts ≡ c ∷ []) × (c.kind ≡ kinds.Close)) refl refl refl (λ t e. (t, refl, e)))
      (λ us vs h q. subst (λ w. Spells ls Part (suc n) w (node l r)) (λ i. sym h.2 i ++ sym q.1 i) (grammar.in_brackets n h.0 q.0 h.1 (node l r) h.3 h.4 q.2))

  -- the outermost product has no brackets
  whole : (m : Tree) → are_below (length ls) m ≡ true → degree m ≤ 64 → Spelled (mono_text ls false m) (λ ts. Spells ls Product 64 ts m)
  whole (leaf k) b small = λ j. let u = factor 64 (leaf k) b (omega arith) small j in (u.0, grammar.one_part 64 u.0 (leaf k) u.1, u.2)
  whole (node l r) b small =
      let bs = both_tests (are_below (length ls) l) (are_below (length ls) r) b in
      spelled-both (mono_text ls true l) (mono_text ls true r) (λ ts. Spells ls Part 64 ts l) (λ ts. Spells ls Part 64 ts r) (λ ts. Spells ls Product 64 ts (node l r))
      (factor 64 l bs.0 (omega (arith, degree_positive r)) (omega (arith, degree_positive r))) (factor 64 r bs.1 (omega (arith, degree_positive l)) (omega (arith, degree_positive l)))
      (λ us vs dl dr. pair 64 l r us vs small dl dr)

pub monomials-spell : MonomialsSpellThemselves
monomials-spell letters m are below small at =
    let u = spelled-all (mono_text letters false m) (λ ts. Spells letters Product 64 ts m) (whole letters are m below small) at in
    (u.0, u.2, u.1)

-- so it is read again
pub monomials-spell_themselves : (letters : List ℕ) (m : Tree) → AreLetters letters → are_below (length letters) m ≡ true → degree m ≤ 64 → (at : ℕ)
    → (ts : List Token) × (tokens_from false at (mono_text letters false m) ≡ Ok ts) × ((end : ℕ) → mono_denoted (record { letters = letters; end = end }) ts ≡ Ok m)
monomials-spell_themselves letters m are below small at =
    let u = monomials-spell letters m are below small at in (u.0, u.1, λ end. mono-again (record { letters = letters; end = end }) u.0 m u.2)
