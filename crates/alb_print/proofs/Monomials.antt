-- A printed monomial denotes that monomial.
use Rattle.std.proofs.Common.{◌≡◌, ℕ, zero, suc, ◌+◌, ◌<◌, ◌≤◌, true, false, List, [], ◌∷◌, ◌++◌, length, refl, sym, ap, subst, arith}
use Rattle.std.specs.Prelude.{nat_lt, slice_index}
use Rattle.std.proofs.lemmas.Bool.{ltb-true}
use Rattle.alb_mono.specs.Tree.{Tree, leaf, node, degree, are_below, AreLetters}
use Rattle.alb_mono.proofs.Both.{both_tests}
use Rattle.alb_mono.proofs.Degrees.{degree_positive}
use Rattle.alb_lex.specs.declared.token.Token.{Token}
use Rattle.alb_lex.specs.declared.token.TokenKind.TheVariants as kinds
use Rattle.alb_poly.specs.Poly.{Poly}
use Rattle.alb_syntax.specs.Grammar.{Class, Denotes, Makes, Atom, Power, Juxt, Jordan, Term, Sum}
use Rattle.alb_syntax.specs.Grammar as grammar
use Rattle.alb_print.specs.Text.{mono_text}
use Rattle.alb_print.specs.Laws.{MonomialsDenoteThemselves}
use Rattle.alb_print.proofs.Spelled.{Spelled, spelled-one, spelled-both, spelled-all, letter_is}
use Rattle.alb_print.proofs.Values.{times-monomials}

pub below_from : (k n : ℕ) → nat_lt k n ≡ true → k < n
below_from k n e = ltb-true k n e

module _ (p : ℕ) (ls : List ℕ) (are : AreLetters ls) (one : 1 < p) where
  -- the juxtaposition of two factors
  pair : (n : ℕ) (l r : Tree) (us vs : List Token) → degree l + degree r ≤ 64 → Denotes p ls Atom n us ((1, l) ∷ []) → Denotes p ls Atom n vs ((1, r) ∷ []) → Denotes p ls Juxt n (us ++ vs) ((1, node l r) ∷ [])
  pair n l r us vs h dl dr =
      grammar.beside n us vs ((1, l) ∷ []) ((1, r) ∷ []) _ (grammar.one_power n us _ (grammar.an_atom n us _ dl)) (grammar.an_atom n vs _ dr) (times-monomials p l r one h)

  pub sum_of : (n : ℕ) (ts : List Token) (f : Poly) → Denotes p ls Juxt n ts f → Denotes p ls Sum n ts f
  sum_of n ts f d = grammar.one_term n ts f (grammar.a_product n ts f (grammar.one_juxt n ts f d))

  -- a factor: a letter, or a product in brackets, which nest less deep than the degree
  factor : (n : ℕ) (m : Tree) → are_below (length ls) m ≡ true → degree m ≤ suc n → degree m ≤ 64 → Spelled (mono_text ls true m) (λ ts. Denotes p ls Atom n ts ((1, m) ∷ []))
  factor n (leaf k) b h small =
      let lt = below_from k (length ls) b in
      let is = letter_is (slice_index ls k) (are.low k lt) (are.high k lt) in
      spelled-one (slice_index ls k) (kinds.Letter (slice_index ls k)) (λ ts. Denotes p ls Atom n ts ((1, leaf k) ∷ [])) is.0 is.1 is.2
      (λ t e. grammar.a_letter n k (slice_index ls k) t e (are.place k lt))
  factor zero (node l r) b h small = absurd (omega (arith, degree_positive l, degree_positive r))
  factor (suc n) (node l r) b h small =
      let bs = both_tests (are_below (length ls) l) (are_below (length ls) r) b in
      let xl = factor n l bs.0 (omega (arith, degree_positive r)) (omega (arith, degree_positive r)) in
      let xr = factor n r bs.1 (omega (arith, degree_positive l)) (omega (arith, degree_positive l)) in
      let inside = spelled-both (mono_text ls true l) (mono_text ls true r) (λ ts. Denotes p ls Atom n ts ((1, l) ∷ [])) (λ ts. Denotes p ls Atom n ts ((1, r) ∷ []))
      (λ ts. Denotes p ls Sum n ts ((1, node l r) ∷ [])) xl xr (λ us vs dl dr. sum_of n (us ++ vs) _ (pair n l r us vs small dl dr)) in
      let opened = spelled-both (40 ∷ []) (mono_text ls true l ++ mono_text ls true r) (λ ts. (o : Token) × (ts ≡ o ∷ []) × (o.kind ≡ kinds.Open)) (λ ts. Denotes p ls Sum n ts ((1, node l r) ∷ []))
      (λ ts. (o : Token) × (us : List Token) × (ts ≡ o ∷ us) × (o.kind ≡ kinds.Open) × Denotes p ls Sum n us ((1, node l r) ∷ []))
      (spelled-one 40 kinds.Open (λ ts. (o : Token) × (ts ≡ o ∷ []) × (o.kind ≡ kinds.Open)) refl refl refl (λ t e. (t, refl, e))) inside
      (λ us vs h d. (h.0, vs, ap (λ w. w ++ vs) h.1, h.2, d)) in
      spelled-both (40 ∷ (mono_text ls true l ++ mono_text ls true r)) (41 ∷ []) (λ ts. (o : Token) × (us : List Token) × (ts ≡ o ∷ us) × (o.kind ≡ kinds.Open) × Denotes p ls Sum n us ((1, node l r) ∷ []))
      (λ ts. (c : Token) × (ts ≡ c ∷ []) × (c.kind ≡ kinds.Close)) (λ ts. Denotes p ls Atom (suc n) ts ((1, node l r) ∷ []))
      opened (spelled-one 41 kinds.Close (λ ts. (c : Token) × (ts ≡ c ∷ []) × (c.kind ≡ kinds.Close)) refl refl refl (λ t e. (t, refl, e)))
      (λ us vs h q. subst (λ w. Denotes p ls Atom (suc n) w ((1, node l r) ∷ [])) (λ i. sym h.2 i ++ sym q.1 i) (grammar.in_round n h.0 q.0 h.1 _ h.3 h.4 q.2))

  -- the outermost product has no brackets
  pub whole : (m : Tree) → are_below (length ls) m ≡ true → degree m ≤ 64 → Spelled (mono_text ls false m) (λ ts. Denotes p ls Juxt 64 ts ((1, m) ∷ []))
  whole (leaf k) b small = λ j. let u = factor 64 (leaf k) b (omega arith) small j in (u.0, grammar.one_power 64 u.0 _ (grammar.an_atom 64 u.0 _ u.1), u.2)
  whole (node l r) b small =
      let bs = both_tests (are_below (length ls) l) (are_below (length ls) r) b in
      spelled-both (mono_text ls true l) (mono_text ls true r) (λ ts. Denotes p ls Atom 64 ts ((1, l) ∷ [])) (λ ts. Denotes p ls Atom 64 ts ((1, r) ∷ []))
      (λ ts. Denotes p ls Juxt 64 ts ((1, node l r) ∷ []))
      (factor 64 l bs.0 (omega (arith, degree_positive r)) (omega (arith, degree_positive r))) (factor 64 r bs.1 (omega (arith, degree_positive l)) (omega (arith, degree_positive l)))
      (λ us vs dl dr. pair 64 l r us vs small dl dr)

pub monomials-denote : MonomialsDenoteThemselves
monomials-denote p letters m one are below small at =
    let u = spelled-all (mono_text letters false m) (λ ts. Denotes p letters Juxt 64 ts ((1, m) ∷ [])) (whole p letters are one m below small) at in
    (u.0, u.2, sum_of p letters are one 64 u.0 ((1, m) ∷ []) u.1)
