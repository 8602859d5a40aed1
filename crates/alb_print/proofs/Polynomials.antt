-- A printed polynomial denotes that polynomial.
use Rattle.std.proofs.Common.{◌≡◌, ℕ, ◌-◌, ◌^◌, ◌<◌, ◌≤◌, Bool, true, false, cond, List, [], ◌∷◌, ◌++◌, length, refl, sym, ap, subst, append_assoc, arith, length-append}
use Rattle.std.specs.Prelude.{◌+◌, slice_index, ◌==◌, codes}
use Rattle.std.specs.Char.{is_ascii_digit}
use Rattle.std.specs.Fmt.{decimal}
use Rattle.std.specs.List.{flat_map}
use Rattle.std.proofs.lemmas.Bool.{ltb-true, eqb-true}
use Rattle.std.proofs.lemmas.List.{append-nil}
use Rattle.std.proofs.lemmas.List.Concat.{flat_map-cons}
use Rattle.gf_sums.specs.Sums.{AllBefore, IsCanonical}
use Rattle.alb_mono.specs.Tree.{Tree, leaf, node, degree, are_below, cmp_monos, AreLetters}
use Rattle.alb_mono.proofs.Both.{both_tests}
use Rattle.alb_lex.specs.declared.token.Token.{Token}
use Rattle.alb_lex.specs.declared.token.TokenKind.TheVariants as kinds
use Rattle.alb_lex.specs.Lexing.{tokens_from, digit_run, value_after}
use Rattle.alb_poly.specs.Poly.{Poly}
use Rattle.alb_syntax.specs.Grammar.{Class, Denotes, Makes, Atom, Power, Juxt, Jordan, Term, Sum}
use Rattle.alb_syntax.specs.Grammar as grammar
use Rattle.alb_print.specs.Text.{mono_text, is_negative, absolute, term_text, later_text, poly_text}
use Rattle.alb_print.specs.Laws.{TextDenotes, ArePrintable, PolynomialsDenoteThemselves}
use Rattle.alb_print.proofs.Spelled.{Spelled, spelled-one, spelled-map, spelled-none, spelled-then, spelled-sign, spelled-all, letter_is}
use Rattle.alb_print.proofs.Numbers.{spelled-number}
use Rattle.alb_print.proofs.Monomials.{whole}
use Rattle.alb_print.proofs.Values.{multiple-one, minus-one, sum-last, difference-last}

-- ---- fronts of canonical lists

AllBefore-front : (i : Tree) (f g : Poly) → AllBefore cmp_monos i (f ++ g) → AllBefore cmp_monos i f
AllBefore-front i [] g h = tt
AllBefore-front i (t ∷ f) g h = (h.0, AllBefore-front i f g h.1)

canonical-front : (p : ℕ) (f g : Poly) → IsCanonical cmp_monos p (f ++ g) → IsCanonical cmp_monos p f
canonical-front p [] g h = tt
canonical-front p (t ∷ f) g h = (h.0, h.1, AllBefore-front t.1 f g h.2, canonical-front p f g h.3)

canonical-last : (p : ℕ) (f : Poly) (t : ℕ × Tree) → IsCanonical cmp_monos p (f ++ t ∷ []) → (0 < t.0) × (t.0 < p)
canonical-last p [] t h = (h.0, h.1)
canonical-last p (u ∷ f) t h = canonical-last p f t h.3

fit-front : (n : ℕ) (f g : Poly) → ArePrintable n (f ++ g) → ArePrintable n f
fit-front n [] g h = tt
fit-front n (t ∷ f) g h = (h.0, h.1, fit-front n f g h.2)

fit-last : (n : ℕ) (f : Poly) (t : ℕ × Tree) → ArePrintable n (f ++ t ∷ []) → (are_below n t.1 ≡ true) × (degree t.1 ≤ 64)
fit-last n [] t h = (h.0, h.1)
fit-last n (u ∷ f) t h = fit-last n f t h.2

-- ---- signed residues

negative : (p r : ℕ) → is_negative p r ≡ true → p - r ≡ absolute p r
negative p r e = rw e refl

positive : (p r : ℕ) → is_negative p r ≡ false → r ≡ absolute p r
positive p r e = rw e refl

module _ (p : ℕ) (ls : List ℕ) (are : AreLetters ls) (one : 1 < p) (small : p < 2 ^ 16) where
  -- no monomial's text begins with a digit
  mono-first : (inner : Bool) (m : Tree) → are_below (length ls) m ≡ true → (b : ℕ) × (bs : List ℕ) × (mono_text ls inner m ≡ b ∷ bs) × (is_ascii_digit b ≡ false)
  mono-first inner (leaf k) h =
      let lt = ltb-true k (length ls) h in (slice_index ls k, [], refl, (letter_is (slice_index ls k) (are.low k lt) (are.high k lt)).1)
  mono-first true (node l r) h = (40, _, refl, refl)
  mono-first false (node l r) h =
      let bs = both_tests (are_below (length ls) l) (are_below (length ls) r) h in
      let u = mono-first true l bs.0 in (u.0, u.1 ++ mono_text ls true r, ap (λ x. x ++ mono_text ls true r) u.2, u.3)

  jordan_of : (m : Tree) → are_below (length ls) m ≡ true → degree m ≤ 64 → Spelled (mono_text ls false m) (λ ts. Denotes p ls Jordan 64 ts ((1, m) ∷ []))
  jordan_of m b h = spelled-map (mono_text ls false m) (λ ts. Denotes p ls Juxt 64 ts ((1, m) ∷ [])) (λ ts. Denotes p ls Jordan 64 ts ((1, m) ∷ [])) (whole p ls are one m b h) (λ ts d. grammar.one_juxt 64 ts _ d)

  -- an absolute value and a monomial
  term_by : (b : Bool) (a : ℕ) (m : Tree) → (a == 1) ≡ b → 0 < a → a < p → are_below (length ls) m ≡ true → degree m ≤ 64
      → Spelled ((cond b [] (decimal a)) ++ mono_text ls false m) (λ ts. Denotes p ls Term 64 ts ((a, m) ∷ []))
  term_by true a m e pos lt b h =
      let q : 1 ≡ a = sym (eqb-true a 1 e) in
      spelled-map (mono_text ls false m) (λ ts. Denotes p ls Jordan 64 ts ((1, m) ∷ [])) (λ ts. Denotes p ls Term 64 ts ((a, m) ∷ [])) (jordan_of m b h)
      (λ ts d. subst (λ c. Denotes p ls Term 64 ts ((c, m) ∷ [])) q (grammar.a_product 64 ts _ d))
  term_by false a m e pos lt b h =
      let u = mono-first false m b in
      let Q = λ (ts : List Token). Denotes p ls Jordan 64 ts ((1, m) ∷ []) in
      let R = λ (ts : List Token). Denotes p ls Term 64 ts ((a, m) ∷ []) in
      subst (λ text. Spelled (decimal a ++ text) R) (sym u.2)
      (spelled-number a (omega arith) u.0 u.1 u.3 Q R (subst (λ text. Spelled text Q) u.2 (jordan_of m b h))
      (λ t us k d. subst (λ f. Denotes p ls Term 64 (t ∷ us) f) (multiple-one p a m pos lt) (grammar.a_multiple 64 a t us ((1, m) ∷ []) k d)))

  term_of : (a : ℕ) (t : ℕ × Tree) → a ≡ absolute p t.0 → 0 < a → a < p → are_below (length ls) t.1 ≡ true → degree t.1 ≤ 64
      → Spelled (term_text p ls t) (λ ts. Denotes p ls Term 64 ts ((a, t.1) ∷ []))
  term_of a t e pos lt b h =
      subst (λ c. Spelled ((cond (c == 1) [] (decimal c)) ++ mono_text ls false t.1) (λ ts. Denotes p ls Term 64 ts ((a, t.1) ∷ []))) e (term_by (a == 1) a t.1 refl pos lt b h)

  -- the first term
  first_by : (b : Bool) (r : ℕ) (m : Tree) → is_negative p r ≡ b → 0 < r → r < p → are_below (length ls) m ≡ true → degree m ≤ 64
      → Spelled ((cond b (codes "-") []) ++ term_text p ls (r, m)) (λ ts. Denotes p ls Sum 64 ts ((r, m) ∷ []))
  first_by true r m e pos lt b h =
      spelled-then (45 ∷ []) (term_text p ls (r, m)) (λ ts. (t : Token) × (ts ≡ t ∷ []) × (t.kind ≡ kinds.Minus)) (λ ts. Denotes p ls Sum 64 ts ((r, m) ∷ []))
      (spelled-one 45 kinds.Minus (λ ts. (t : Token) × (ts ≡ t ∷ []) × (t.kind ≡ kinds.Minus)) refl refl refl (λ t k. (t, refl, k)))
      (λ us w. spelled-map (term_text p ls (r, m)) (λ ts. Denotes p ls Term 64 ts ((p - r, m) ∷ [])) (λ vs. Denotes p ls Sum 64 (us ++ vs) ((r, m) ∷ []))
      (term_of (p - r) (r, m) (negative p r e) (omega arith) (omega arith) b h)
      (λ vs d. subst (λ x. Denotes p ls Sum 64 (x ++ vs) ((r, m) ∷ [])) (sym w.1)
      (subst (λ f. Denotes p ls Sum 64 (w.0 ∷ vs) f) (minus-one p r m pos lt) (grammar.with_minus 64 w.0 vs ((p - r, m) ∷ []) w.2 d))))
  first_by false r m e pos lt b h =
      spelled-map (term_text p ls (r, m)) (λ ts. Denotes p ls Term 64 ts ((r, m) ∷ [])) (λ ts. Denotes p ls Sum 64 ts ((r, m) ∷ []))
      (term_of r (r, m) (positive p r e) pos lt b h) (λ ts d. grammar.one_term 64 ts _ d)

  -- a later term
  later_by : (b : Bool) (r : ℕ) (m : Tree) (us : List Token) (front : Poly) → is_negative p r ≡ b → IsCanonical cmp_monos p (front ++ (r, m) ∷ []) → ArePrintable (length ls) (front ++ (r, m) ∷ [])
      → length (front ++ (r, m) ∷ []) ≤ 65536 → Denotes p ls Sum 64 us front
      → Spelled ((cond b (codes " - ") (codes " + ")) ++ term_text p ls (r, m)) (λ vs. Denotes p ls Sum 64 (us ++ vs) (front ++ (r, m) ∷ []))
  later_by true r m us front e c fit len d =
      let w = canonical-last p front (r, m) c in
      let v = fit-last (length ls) front (r, m) fit in
      spelled-then (codes " - ") (term_text p ls (r, m)) (λ ts. (t : Token) × (ts ≡ t ∷ []) × (t.kind ≡ kinds.Minus)) (λ vs. Denotes p ls Sum 64 (us ++ vs) (front ++ (r, m) ∷ []))
      (spelled-sign 45 kinds.Minus (λ ts. (t : Token) × (ts ≡ t ∷ []) × (t.kind ≡ kinds.Minus)) refl refl refl (λ t k. (t, refl, k)))
      (λ xs x. spelled-map (term_text p ls (r, m)) (λ ts. Denotes p ls Term 64 ts ((p - r, m) ∷ [])) (λ ys. Denotes p ls Sum 64 (us ++ (xs ++ ys)) (front ++ (r, m) ∷ []))
      (term_of (p - r) (r, m) (negative p r e) (omega (arith, w.1)) (omega (arith, w.0, w.1)) v.0 v.1)
      (λ ys y. subst (λ z. Denotes p ls Sum 64 (us ++ (z ++ ys)) (front ++ (r, m) ∷ [])) (sym x.1)
      (grammar.subtracted 64 x.0 us ys front ((p - r, m) ∷ []) _ d x.2 y (difference-last p (length ls) r m front w.1 c fit len))))
  later_by false r m us front e c fit len d =
      let w = canonical-last p front (r, m) c in
      let v = fit-last (length ls) front (r, m) fit in
      spelled-then (codes " + ") (term_text p ls (r, m)) (λ ts. (t : Token) × (ts ≡ t ∷ []) × (t.kind ≡ kinds.Plus)) (λ vs. Denotes p ls Sum 64 (us ++ vs) (front ++ (r, m) ∷ []))
      (spelled-sign 43 kinds.Plus (λ ts. (t : Token) × (ts ≡ t ∷ []) × (t.kind ≡ kinds.Plus)) refl refl refl (λ t k. (t, refl, k)))
      (λ xs x. spelled-map (term_text p ls (r, m)) (λ ts. Denotes p ls Term 64 ts ((r, m) ∷ [])) (λ ys. Denotes p ls Sum 64 (us ++ (xs ++ ys)) (front ++ (r, m) ∷ []))
      (term_of r (r, m) (positive p r e) w.0 w.1 v.0 v.1)
      (λ ys y. subst (λ z. Denotes p ls Sum 64 (us ++ (z ++ ys)) (front ++ (r, m) ∷ [])) (sym x.1)
      (grammar.added 64 x.0 us ys front ((r, m) ∷ []) _ d x.2 y (sum-last p (length ls) r m front c fit len))))

  later : (us : List Token) (front f : Poly) → IsCanonical cmp_monos p (front ++ f) → ArePrintable (length ls) (front ++ f) → length (front ++ f) ≤ 65536 → Denotes p ls Sum 64 us front
      → Spelled (flat_map (later_text p ls) f) (λ vs. Denotes p ls Sum 64 (us ++ vs) (front ++ f))
  later us front [] c fit len d = spelled-none (λ vs. Denotes p ls Sum 64 (us ++ vs) (front ++ [])) (subst (λ x. Denotes p ls Sum 64 x (front ++ [])) (sym (append-nil us)) (subst (λ x. Denotes p ls Sum 64 us x) (sym (append-nil front)) d))
  later us front (t ∷ f) c fit len d =
      let q : (front ++ t ∷ []) ++ f ≡ front ++ t ∷ f = append_assoc front (t ∷ []) f in
      let c2 = subst (IsCanonical cmp_monos p) (sym q) c in
      let fit2 = subst (ArePrintable (length ls)) (sym q) fit in
      let len2 : length ((front ++ t ∷ []) ++ f) ≤ 65536 = subst (λ x. length x ≤ 65536) (sym q) len in
      subst (λ text. Spelled text (λ vs. Denotes p ls Sum 64 (us ++ vs) (front ++ t ∷ f))) (sym (flat_map-cons (later_text p ls) t f))
      (spelled-then (later_text p ls t) (flat_map (later_text p ls) f) (λ vs. Denotes p ls Sum 64 (us ++ vs) (front ++ t ∷ [])) (λ vs. Denotes p ls Sum 64 (us ++ vs) (front ++ t ∷ f))
      (later_by (is_negative p t.0) t.0 t.1 us front refl (canonical-front p (front ++ t ∷ []) f c2) (fit-front (length ls) (front ++ t ∷ []) f fit2) (omega (arith, len2, length-append (front ++ t ∷ []) f)) d)
      (λ vs e. spelled-map (flat_map (later_text p ls) f) (λ ws. Denotes p ls Sum 64 ((us ++ vs) ++ ws) ((front ++ t ∷ []) ++ f)) (λ ws. Denotes p ls Sum 64 (us ++ (vs ++ ws)) (front ++ t ∷ f))
      (later (us ++ vs) (front ++ t ∷ []) f c2 fit2 len2 e)
      (λ ws z. subst (λ x. Denotes p ls Sum 64 x (front ++ t ∷ f)) (append_assoc us vs ws) (subst (λ x. Denotes p ls Sum 64 ((us ++ vs) ++ ws) x) q z))))

  poly_of : (t : ℕ × Tree) (f : Poly) → IsCanonical cmp_monos p (t ∷ f) → ArePrintable (length ls) (t ∷ f) → length (t ∷ f) ≤ 65536 → Spelled (poly_text p ls (t ∷ f)) (λ ts. Denotes p ls Sum 64 ts (t ∷ f))
  poly_of t f c fit len =
      spelled-then ((cond (is_negative p t.0) (codes "-") []) ++ term_text p ls t) (flat_map (later_text p ls) f) (λ ts. Denotes p ls Sum 64 ts (t ∷ [])) (λ ts. Denotes p ls Sum 64 ts (t ∷ f))
      (first_by (is_negative p t.0) t.0 t.1 refl c.0 c.1 fit.0 fit.1)
      (λ us d. later us (t ∷ []) f c fit len d)

zero_denotes : (p : ℕ) (ls : List ℕ) → TextDenotes p ls (codes "0") []
unfolding tokens_from digit_run value_after
zero_denotes p ls at =
    let t : Token = record { kind = kinds.Number 0; from = at; to = at + 1 } in
    (t ∷ [], refl, grammar.one_term 64 (t ∷ []) [] (grammar.a_zero 64 t refl))

pub polynomials-denote : PolynomialsDenoteThemselves
polynomials-denote p letters [] one small are c fit len at = zero_denotes p letters at
polynomials-denote p letters (t ∷ f) one small are c fit len at =
    let u = spelled-all (poly_text p letters (t ∷ f)) (λ ts. Denotes p letters Sum 64 ts (t ∷ f)) (poly_of p letters are one small t f c fit len) at in
    (u.0, u.2, u.1)
