-- What is read is what the grammar denotes by the tokens that were read.
use Rattle.std.proofs.Common.{◌≡◌, ℕ, zero, suc, ◌-◌, Bool, true, false, cond, List, [], ◌∷◌, ◌++◌, length, position, Option, Some, None, Result, Ok, Err, refl, sym, ap, subst, ◌∙◌, append_assoc, inl, inr, ◌⊎◌}
use Rattle.std.specs.Prelude.{IfOk, nat_le, ◌==◌, ◌&&◌, nat_lt}
use Rattle.std.specs.List.{list_any}
use Rattle.std.proofs.lemmas.Bool.{cases_Bool, leb-true, eqb-true}
use Rattle.std.proofs.lemmas.List.{append-nil}
use Rattle.alb_mono.specs.Tree.{degree}
use Rattle.alb_lex.specs.declared.token.Token.{Token}
use Rattle.alb_lex.specs.declared.token.TokenKind.{TokenKind}
use Rattle.alb_lex.specs.declared.token.TokenKind.TheVariants as kinds
use Rattle.alb_poly.specs.Poly.{Poly, generator, product, normal}
use Rattle.gf_sums.specs.Sums.{scale}
use Rattle.alb_syntax.specs.declared.error.SyntaxError.{SyntaxError}
use Rattle.alb_syntax.specs.declared.error.SyntaxError.TheVariants as errors
use Rattle.alb_lex.specs.Results.{◌>>=◌}
use Rattle.alb_syntax.specs.Gives.{Gives}
use Rattle.alb_syntax.specs.Reading.{limited, sum, difference, times, multiple, associator, commutator, jordan, raised, Setting, PolyReader, ReaderOf, next, after, place, must, must_or, unexpected, is_plus, is_sign, is_star, is_comma, is_close, is_square_close, begins_atom, turns, each, letter, atom_at, atom, exponent_at, exponent, is_caret, power, factor, juxt, star, jprod, multiple_from, term_at, term, first_at, first, signed, poly, two_more, round, square, bracketed, ended, denoted}
use Rattle.alb_syntax.specs.Grammar.{Class, Denotes, Makes, Atom, Power, Juxt, Jordan, Term, Sum}
use Rattle.alb_syntax.specs.Grammar as grammar
use Rattle.alb_mono.proofs.Both.{both_tests}
use Rattle.alb_lex.proofs.Binds.{bind_ok, guard_ok, ok_is}
use Rattle.alb_syntax.proofs.Regroups.{between_one, between_two, between_three}

-- ---- an operation has one result, wherever a limit would be answered

two_tests : {A : Type 0} (b c : Bool) (d e d' e' : SyntaxError) (f h : A) → cond b (Err d) (cond c (Err e) (Ok f)) ≡ Ok h → cond b (Err d') (cond c (Err e') (Ok f)) ≡ Ok h
two_tests true c d e d' e' f h q = absurd cc
two_tests false true d e d' e' f h q = absurd cc
two_tests false false d e d' e' f h q = q

within-any : (a b : ℕ) (f h : Poly) → limited a f ≡ Ok h → limited b f ≡ Ok h
unfolding limited
within-any a b f h q = two_tests (list_any (λ t. nat_lt 64 (degree t.1)) f) (nat_lt 65536 (length f)) (errors.TooHigh a) (errors.TooManyTerms a) (errors.TooHigh b) (errors.TooManyTerms b) f h q

module _ (p a b : ℕ) where
  times-any : (f g h : Poly) → times p a f g ≡ Ok h → times p b f g ≡ Ok h
  unfolding times
  times-any f g h q = within-any a b (normal p (product f g)) h q

  sum-any : (f g h : Poly) → sum p a f g ≡ Ok h → sum p b f g ≡ Ok h
  unfolding sum
  sum-any f g h q = within-any a b (normal p (f ++ g)) h q

  difference-any : (f g h : Poly) → difference p a f g ≡ Ok h → difference p b f g ≡ Ok h
  unfolding difference
  difference-any f g h q = within-any a b (normal p (f ++ scale (p - 1) g)) h q

  commutator-any : (x y f : Poly) → commutator p a x y ≡ Ok f → commutator p b x y ≡ Ok f
  unfolding commutator
  commutator-any x y f q =
      let u = bind_ok (times p a x y) (λ xy. times p a y x >>= λ yx. difference p a xy yx) f q in
      let v = bind_ok (times p a y x) (λ yx. difference p a u.0 yx) f u.2 in
      rw (times-any x y u.0 u.1, times-any y x v.0 v.1) (difference-any u.0 v.0 f v.2)

  jordan-any : (x y f : Poly) → jordan p a x y ≡ Ok f → jordan p b x y ≡ Ok f
  unfolding jordan
  jordan-any x y f q =
      let u = bind_ok (times p a x y) (λ xy. times p a y x >>= λ yx. sum p a xy yx) f q in
      let v = bind_ok (times p a y x) (λ yx. sum p a u.0 yx) f u.2 in
      rw (times-any x y u.0 u.1, times-any y x v.0 v.1) (sum-any u.0 v.0 f v.2)

  associator-any : (x y z f : Poly) → associator p a x y z ≡ Ok f → associator p b x y z ≡ Ok f
  unfolding associator
  associator-any x y z f q =
      let u = bind_ok (times p a x y) (λ xy. times p a xy z >>= λ l. times p a y z >>= λ yz. times p a x yz >>= λ r. difference p a l r) f q in
      let l = bind_ok (times p a u.0 z) (λ l. times p a y z >>= λ yz. times p a x yz >>= λ r. difference p a l r) f u.2 in
      let v = bind_ok (times p a y z) (λ yz. times p a x yz >>= λ r. difference p a l.0 r) f l.2 in
      let r = bind_ok (times p a x v.0) (λ r. difference p a l.0 r) f v.2 in
      rw (times-any x y u.0 u.1, times-any u.0 z l.0 l.1, times-any y z v.0 v.1, times-any x v.0 r.0 r.1) (difference-any l.0 r.0 f r.2)

raised-any : (p a b : ℕ) (x : Poly) (k : ℕ) (f h : Poly) → raised p a x k f ≡ Ok h → raised p b x k f ≡ Ok h
unfolding raised
raised-any p a b x zero f h q = q
raised-any p a b x (suc k) f h q =
    let u = bind_ok (times p a f x) (λ g. raised p a x k g) h q in
    rw (times-any p a b f x u.0 u.1) (raised-any p a b x k u.0 h u.2)

-- ---- what a test says of the next token

comma_is : (k : TokenKind) → is_comma (Some k) ≡ true → k ≡ kinds.Comma
comma_is kinds.Comma e = refl
comma_is _ e = absurd cc

pub close_is : (k : TokenKind) → is_close (Some k) ≡ true → k ≡ kinds.Close
close_is kinds.Close e = refl
close_is _ e = absurd cc

square_close_is : (k : TokenKind) → is_square_close (Some k) ≡ true → k ≡ kinds.SquareClose
square_close_is kinds.SquareClose e = refl
square_close_is _ e = absurd cc

caret_is : (k : TokenKind) → is_caret (Some k) ≡ true → k ≡ kinds.Caret
caret_is kinds.Caret e = refl
caret_is _ e = absurd cc

star_is : (k : TokenKind) → is_star (Some k) ≡ true → k ≡ kinds.Star
star_is kinds.Star e = refl
star_is _ e = absurd cc

plus_is : (k : TokenKind) → is_plus (Some k) ≡ true → k ≡ kinds.Plus
plus_is kinds.Plus e = refl
plus_is _ e = absurd cc

minus_is : (k : TokenKind) → is_sign (Some k) ≡ true → is_plus (Some k) ≡ false → k ≡ kinds.Minus
minus_is kinds.Minus e h = refl
minus_is kinds.Plus e h = absurd cc
minus_is _ e h = absurd cc

pub must-found : (end : ℕ) (is : Option TokenKind → Bool) (ts us : List Token) → is None ≡ false → must_or end is ts ≡ Ok us → (t : Token) × (ts ≡ t ∷ us) × (is (Some t.kind) ≡ true)
must-found end is [] us n e = absurd (let g = guard_ok (is None) (Ok []) (errors.Expected end) us e in cc)
must-found end is (t ∷ ts) us n e =
    let g = guard_ok (is (Some t.kind)) (Ok ts) (errors.Expected t.from) us e in
    (t, ap (λ x. t ∷ x) (ok_is ts us g.1), g.0)

-- ---- what was read

pub record Found (s : Setting) (c : Class) (n : ℕ) (ts : List Token) (x : Poly × List Token) : Type 0 where
  pub front : List Token
  pub whole : ts ≡ front ++ x.1
  pub denotes : Denotes s.field s.letters c n front x.0

abbrev Finds : Setting → Class → ℕ → PolyReader → Type 0
Finds s c n read = (ts : List Token) (x : Poly × List Token) → read ts ≡ Ok x → Found s c n ts x

-- a bracket is read where one opens
abbrev FindsOpen : Setting → ℕ → PolyReader → Type 0
FindsOpen s n bracket = (t : Token) (ts : List Token) (x : Poly × List Token) → (t.kind ≡ kinds.Open) ⊎ (t.kind ≡ kinds.SquareOpen) → bracket (t ∷ ts) ≡ Ok x → Found s Atom n (t ∷ ts) x

found_at : (s : Setting) (c : Class) (n : ℕ) (ts us : List Token) (f : Poly) (front : List Token) → ts ≡ front ++ us → Denotes s.field s.letters c n front f → (x : Poly × List Token) → (f, us) ≡ x → Found s c n ts x
found_at s c n ts us f front w d x e = subst (λ (y : Poly × List Token). Found s c n ts y) e (record { front = front; whole = w; denotes = d })

found_then : (s : Setting) (c : Class) (n : ℕ) (ts mid us vs : List Token) (x : Poly × List Token) → ts ≡ us ++ mid → mid ≡ vs ++ x.1 → Denotes s.field s.letters c n (us ++ vs) x.0 → Found s c n ts x
found_then s c n ts mid us vs x p q d = record { front = us ++ vs; whole = p ∙ ap (λ z. us ++ z) q ∙ sym (append_assoc us vs x.1); denotes = d }

-- one piece after another
joined : {V : Type 0} (P : List Token → V → Type 0) (us vs ws ts mid : List Token) (x : V × List Token) → ts ≡ vs ++ mid → mid ≡ ws ++ x.1 → P ((us ++ vs) ++ ws) x.0
    → (front : List Token) × (ts ≡ front ++ x.1) × P (us ++ front) x.0
joined P us vs ws ts mid x p q d = (vs ++ ws, p ∙ ap (λ z. vs ++ z) q ∙ sym (append_assoc vs ws x.1), subst (λ z. P z x.0) (append_assoc us vs ws) d)

-- turns of a repetition, of which the tokens so far denote the value so far
pub turns-found : {V : Type 0} (P : List Token → V → Type 0) (more : Option TokenKind → Bool) (part : V → ReaderOf V)
    → ((us : List Token) (f : V) (ts : List Token) (y : V × List Token) → P us f → more (next ts) ≡ true → part f ts ≡ Ok y → (vs : List Token) × (ts ≡ vs ++ y.1) × P (us ++ vs) y.0)
    → (n : ℕ) (us : List Token) (f : V) (ts : List Token) (x : V × List Token) → P us f → turns more part n f ts ≡ Ok x → (vs : List Token) × (ts ≡ vs ++ x.1) × P (us ++ vs) x.0
unfolding turns
turns-found {V} P more part step zero us f ts x d e =
    let q = ok_is (f, ts) x e in subst (λ (y : V × List Token). (vs : List Token) × (ts ≡ vs ++ y.1) × P (us ++ vs) y.0) q ([], refl, subst (λ w. P w f) (sym (append-nil us)) d)
turns-found {V} P more part step (suc n) us f ts x d e = elim (cases_Bool (more (next ts))) [
  | inl h ↦ (let k = rw h at e in
      let w = bind_ok (part f ts) (λ y. turns more part n y.0 y.1) x k in
      let v = step us f ts w.0 d h w.1 in
      let r = turns-found P more part step n (us ++ v.0) w.0.0 w.0.1 x v.2 w.2 in
      joined P us v.0 r.0 ts w.0.1 x v.1 r.1 r.2)
  | inr h ↦ (let k = rw h at e in let q = ok_is (f, ts) x k in
      subst (λ (y : V × List Token). (vs : List Token) × (ts ≡ vs ++ y.1) × P (us ++ vs) y.0) q ([], refl, subst (λ w. P w f) (sym (append-nil us)) d))
]

module _ (s : Setting) (n : ℕ) (bracket : PolyReader) (opens : FindsOpen s n bracket) where
  letter-found : (o : Option ℕ) (b : ℕ) (t : Token) (ts : List Token) (x : Poly × List Token) → t.kind ≡ kinds.Letter b → position (λ y. y == b) s.letters ≡ o → letter s o (t ∷ ts) ≡ Ok x → Found s Atom n (t ∷ ts) x
  letter-found (Some k) b t ts x e p h = found_at s Atom n (t ∷ ts) ts (generator k) (t ∷ []) refl (grammar.a_letter n k b t e p) x (ok_is (generator k, ts) x h)
  letter-found None b t ts x e p h = absurd cc

  atom_at-found : (k : TokenKind) (t : Token) (ts : List Token) (x : Poly × List Token) → t.kind ≡ k → atom_at s bracket (Some k) (t ∷ ts) ≡ Ok x → Found s Atom n (t ∷ ts) x
  atom_at-found (kinds.Letter b) t ts x e h = letter-found (position (λ y. y == b) s.letters) b t ts x e refl h
  atom_at-found kinds.Open t ts x e h = opens t ts x (inl e) h
  atom_at-found kinds.SquareOpen t ts x e h = opens t ts x (inr e) h
  atom_at-found _ t ts x e h = absurd cc

  atom-found : Finds s Atom n (atom s bracket)
  unfolding atom
  atom-found [] x h = absurd cc
  atom-found (t ∷ ts) x h = atom_at-found t.kind t ts x refl h

  exponent_at-found : (front : List Token) (h : Token) (f : Poly) (at : ℕ) (k : TokenKind) (t : Token) (us : List Token) (x : Poly × List Token) → Denotes s.field s.letters Atom n front f → h.kind ≡ kinds.Caret
      → t.kind ≡ k → exponent_at s at f (Some k) (t ∷ us) ≡ Ok x → Found s Power n (front ++ h ∷ t ∷ us) x
  exponent_at-found front h f at (kinds.Number m) t us x d eh et e =
      let g = guard_ok (nat_le 1 m && nat_le m 64) (raised s.field at f (m - 1) f >>= λ g. Ok (g, us)) (errors.Expected t.from) x e in
      let b = both_tests (nat_le 1 m) (nat_le m 64) g.0 in
      let w = bind_ok (raised s.field at f (m - 1) f) (λ g. Ok (g, us)) x g.1 in
      found_at s Power n (front ++ h ∷ t ∷ us) us w.0 (front ++ h ∷ t ∷ []) (sym (append_assoc front (h ∷ t ∷ []) us))
      (grammar.a_power n m h t front f w.0 d eh et (leb-true 1 m b.0) (leb-true m 64 b.1) (λ c. raised-any s.field at c f (m - 1) f w.0 w.1)) x (ok_is (w.0, us) x w.2)
  exponent_at-found front h f at _ t us x d eh et e = absurd cc

either_way : {A : Type 0} (b : Bool) (r q : Result A SyntaxError) (P : A → Type 0) → (b ≡ true → (x : A) → r ≡ Ok x → P x) → (b ≡ false → (x : A) → q ≡ Ok x → P x) → (x : A) → cond b r q ≡ Ok x → P x
either_way true r q P h k x e = h refl x e
either_way false r q P h k x e = k refl x e

module _ (s : Setting) (n : ℕ) (bracket : PolyReader) (opens : FindsOpen s n bracket) where
  -- after an atom
  power_behind : (front : List Token) (f : Poly) (us ts : List Token) (x : Poly × List Token) → ts ≡ front ++ us → Denotes s.field s.letters Atom n front f
      → cond (is_caret (next us)) (exponent s (place s us) f (after us)) (Ok (f, us)) ≡ Ok x → Found s Power n ts x
  unfolding exponent
  power_behind front f [] ts x w d e = found_at s Power n ts [] f front w (grammar.an_atom n front f d) x (ok_is (f, []) x e)
  power_behind front f (h ∷ []) ts x w d e = either_way (is_caret (Some h.kind)) (exponent s h.from f []) (Ok (f, h ∷ [])) (λ z. Found s Power n ts z)
      (λ c z k. absurd cc) (λ c z k. found_at s Power n ts (h ∷ []) f front w (grammar.an_atom n front f d) z (ok_is (f, h ∷ []) z k)) x e
  power_behind front f (h ∷ t ∷ us) ts x w d e = either_way (is_caret (Some h.kind)) (exponent s h.from f (t ∷ us)) (Ok (f, h ∷ t ∷ us)) (λ z. Found s Power n ts z)
      (λ c z k. subst (λ y. Found s Power n y z) (sym w) (exponent_at-found s n bracket opens front h f h.from t.kind t us z d (caret_is h.kind c) refl k))
      (λ c z k. found_at s Power n ts (h ∷ t ∷ us) f front w (grammar.an_atom n front f d) z (ok_is (f, h ∷ t ∷ us) z k)) x e

  power-found : Finds s Power n (power s bracket)
  unfolding power
  power-found ts x e =
      let w = bind_ok (atom s bracket ts) (λ y. cond (is_caret (next y.1)) (exponent s (place s y.1) y.0 (after y.1)) (Ok y)) x e in
      let a = atom-found s n bracket opens ts w.0 w.1 in
      power_behind a.front w.0.0 w.0.1 ts x a.whole a.denotes w.2

  juxt-found : Finds s Juxt n (juxt s bracket)
  unfolding juxt each factor
  juxt-found ts x e =
      let w = bind_ok (power s bracket ts) (λ y. each begins_atom (factor s bracket) y.0 y.1) x e in
      let a = power-found ts w.0 w.1 in
      let r = turns-found (λ us f. Denotes s.field s.letters Juxt n us f) begins_atom (factor s bracket)
      (λ us f ts y d more h.
      let u = bind_ok (power s bracket ts) (λ z. times s.field (place s ts) f z.0 >>= λ g. Ok (g, z.1)) y h in
      let v = bind_ok (times s.field (place s ts) f u.0.0) (λ g. Ok (g, u.0.1)) y u.2 in
      let b = power-found ts u.0 u.1 in
      let q = ok_is (v.0, u.0.1) y v.2 in
      subst (λ (z : Poly × List Token). (vs : List Token) × (ts ≡ vs ++ z.1) × Denotes s.field s.letters Juxt n (us ++ vs) z.0) q
      (b.front, b.whole, grammar.beside n us b.front f u.0.0 v.0 d b.denotes (λ c. times-any s.field (place s ts) c f u.0.0 v.0 v.1)))
      (length w.0.1) a.front w.0.0 w.0.1 x (grammar.one_power n a.front w.0.0 a.denotes) w.2 in
      found_then s Juxt n ts w.0.1 a.front r.0 x a.whole r.1 r.2

  -- after a token of which a test is true
  star_part : (us : List Token) (f : Poly) (ts : List Token) (y : Poly × List Token) → Denotes s.field s.letters Jordan n us f → is_star (next ts) ≡ true → star s bracket f ts ≡ Ok y
      → (vs : List Token) × (ts ≡ vs ++ y.1) × Denotes s.field s.letters Jordan n (us ++ vs) y.0
  unfolding star
  star_part us f [] y d more h = absurd cc
  star_part us f (t ∷ ts) y d more h =
      let u = bind_ok (juxt s bracket ts) (λ z. jordan s.field t.from f z.0 >>= λ g. Ok (g, z.1)) y h in
      let v = bind_ok (jordan s.field t.from f u.0.0) (λ g. Ok (g, u.0.1)) y u.2 in
      let b = juxt-found ts u.0 u.1 in
      let q = ok_is (v.0, u.0.1) y v.2 in
      subst (λ (z : Poly × List Token). (vs : List Token) × ((t ∷ ts) ≡ vs ++ z.1) × Denotes s.field s.letters Jordan n (us ++ vs) z.0) q
      (t ∷ b.front, ap (λ z. t ∷ z) b.whole, grammar.a_star n t us b.front f u.0.0 v.0 d (star_is t.kind more) b.denotes (λ c. jordan-any s.field t.from c f u.0.0 v.0 v.1))

  jprod-found : Finds s Jordan n (jprod s bracket)
  unfolding jprod each
  jprod-found ts x e =
      let w = bind_ok (juxt s bracket ts) (λ y. each is_star (star s bracket) y.0 y.1) x e in
      let a = juxt-found ts w.0 w.1 in
      let r = turns-found (λ us f. Denotes s.field s.letters Jordan n us f) is_star (star s bracket) star_part
      (length w.0.1) a.front w.0.0 w.0.1 x (grammar.one_juxt n a.front w.0.0 a.denotes) w.2 in
      found_then s Jordan n ts w.0.1 a.front r.0 x a.whole r.1 r.2

  product_found : (ts : List Token) (x : Poly × List Token) → jprod s bracket ts ≡ Ok x → Found s Term n ts x
  product_found ts x e = let a = jprod-found ts x e in record { front = a.front; whole = a.whole; denotes = grammar.a_product n a.front x.0 a.denotes }

  numbered-found : (m : ℕ) (t : Token) (ts : List Token) (x : Poly × List Token) → t.kind ≡ kinds.Number m → multiple_from s bracket m ts ≡ Ok x → Found s Term n (t ∷ ts) x
  unfolding multiple_from
  numbered-found m t ts x k e =
      either_way (begins_atom (next ts)) (jprod s bracket ts >>= λ y. Ok (multiple s.field m y.0, y.1)) (cond (m == 0) (Ok ([], ts)) (unexpected s ts)) (λ z. Found s Term n (t ∷ ts) z)
      (λ c z h. let w = bind_ok (jprod s bracket ts) (λ y. Ok (multiple s.field m y.0, y.1)) z h in
      let a = jprod-found ts w.0 w.1 in
      found_at s Term n (t ∷ ts) w.0.1 (multiple s.field m w.0.0) (t ∷ a.front) (ap (λ y. t ∷ y) a.whole) (grammar.a_multiple n m t a.front w.0.0 k a.denotes) z (ok_is (multiple s.field m w.0.0, w.0.1) z w.2))
      (λ c z h. let g = guard_ok (m == 0) (Ok ([], ts)) (errors.Expected (place s ts)) z h in
      let none : Poly = [] in
      let start : Poly × List Token = (none, ts) in
      found_at s Term n (t ∷ ts) ts none (t ∷ []) refl (grammar.a_zero n t (k ∙ ap (λ j. kinds.Number j) (eqb-true m 0 g.0))) z (ok_is start z g.1)) x e

  term_at-found : (k : TokenKind) (t : Token) (ts : List Token) (x : Poly × List Token) → t.kind ≡ k → term_at s bracket (Some k) (t ∷ ts) ≡ Ok x → Found s Term n (t ∷ ts) x
  term_at-found (kinds.Number m) t ts x e h = numbered-found m t ts x e h
  term_at-found _ t ts x e h = product_found (t ∷ ts) x h

  term-found : Finds s Term n (term s bracket)
  unfolding term
  term-found [] x e = product_found [] x e
  term-found (t ∷ ts) x e = term_at-found t.kind t ts x refl e

  one_found : (ts : List Token) (x : Poly × List Token) → term s bracket ts ≡ Ok x → Found s Sum n ts x
  one_found ts x e = let a = term-found ts x e in record { front = a.front; whole = a.whole; denotes = grammar.one_term n a.front x.0 a.denotes }

  first_at-found : (k : TokenKind) (t : Token) (ts : List Token) (x : Poly × List Token) → t.kind ≡ k → first_at s bracket (Some k) (t ∷ ts) ≡ Ok x → Found s Sum n (t ∷ ts) x
  first_at-found kinds.Plus t ts x k e =
      let a = term-found ts x e in record { front = t ∷ a.front; whole = ap (λ y. t ∷ y) a.whole; denotes = grammar.with_plus n t a.front x.0 k a.denotes }
  first_at-found kinds.Minus t ts x k e =
      let w = bind_ok (term s bracket ts) (λ y. Ok (multiple s.field (s.field - 1) y.0, y.1)) x e in
      let a = term-found ts w.0 w.1 in
      found_at s Sum n (t ∷ ts) w.0.1 (multiple s.field (s.field - 1) w.0.0) (t ∷ a.front) (ap (λ y. t ∷ y) a.whole) (grammar.with_minus n t a.front w.0.0 k a.denotes) x (ok_is (multiple s.field (s.field - 1) w.0.0, w.0.1) x w.2)
  first_at-found _ t ts x k e = one_found (t ∷ ts) x e

  first-found : Finds s Sum n (first s bracket)
  unfolding first
  first-found [] x e = one_found [] x e
  first-found (t ∷ ts) x e = first_at-found t.kind t ts x refl e

  signed_part : (us : List Token) (f : Poly) (ts : List Token) (y : Poly × List Token) → Denotes s.field s.letters Sum n us f → is_sign (next ts) ≡ true → signed s bracket f ts ≡ Ok y
      → (vs : List Token) × (ts ≡ vs ++ y.1) × Denotes s.field s.letters Sum n (us ++ vs) y.0
  unfolding signed
  signed_part us f [] y d more h = absurd cc
  signed_part us f (t ∷ ts) y d more h =
      let op = λ (z : Poly × List Token). cond (is_plus (Some t.kind)) (sum s.field t.from f z.0) (difference s.field t.from f z.0) in
      let u = bind_ok (term s bracket ts) (λ z. op z >>= λ g. Ok (g, z.1)) y h in
      let v = bind_ok (op u.0) (λ g. Ok (g, u.0.1)) y u.2 in
      let b = term-found ts u.0 u.1 in
      let q = ok_is (v.0, u.0.1) y v.2 in
      let here : Denotes s.field s.letters Sum n (us ++ t ∷ b.front) v.0 =
      either_way (is_plus (Some t.kind)) (sum s.field t.from f u.0.0) (difference s.field t.from f u.0.0) (λ g. Denotes s.field s.letters Sum n (us ++ t ∷ b.front) g)
      (λ c g k. grammar.added n t us b.front f u.0.0 g d (plus_is t.kind c) b.denotes (λ j. sum-any s.field t.from j f u.0.0 g k))
      (λ c g k. grammar.subtracted n t us b.front f u.0.0 g d (minus_is t.kind more c) b.denotes (λ j. difference-any s.field t.from j f u.0.0 g k)) v.0 v.1 in
      subst (λ (z : Poly × List Token). (vs : List Token) × ((t ∷ ts) ≡ vs ++ z.1) × Denotes s.field s.letters Sum n (us ++ vs) z.0) q (t ∷ b.front, ap (λ z. t ∷ z) b.whole, here)

  poly-found : Finds s Sum n (poly s bracket)
  unfolding poly each
  poly-found ts x e =
      let w = bind_ok (first s bracket ts) (λ y. each is_sign (signed s bracket) y.0 y.1) x e in
      let a = first-found ts w.0 w.1 in
      let r = turns-found (λ us f. Denotes s.field s.letters Sum n us f) is_sign (signed s bracket) signed_part
      (length w.0.1) a.front w.0.0 w.0.1 x a.denotes w.2 in
      found_then s Sum n ts w.0.1 a.front r.0 x a.whole r.1 r.2

-- a sum was read, and a mark after it
record SumAnd (s : Setting) (n : ℕ) (is : Option TokenKind → Bool) (ts : List Token) (f : Poly) (us : List Token) : Type 0 where
  front : List Token
  mark : Token
  whole : ts ≡ front ++ (mark ∷ us)
  denotes : Denotes s.field s.letters Sum n front f
  shows : is (Some mark.kind) ≡ true

comma_next : (s : Setting) (ts : List Token) → is_comma (next ts) ≡ true → must s is_comma ts ≡ Ok (after ts)
comma_next s ts h = rw h refl

module _ (s : Setting) (n : ℕ) (inside : PolyReader) (finds : Finds s Sum n inside) (o : Token) where
  sum_and : (is : Option TokenKind → Bool) (ts us : List Token) (x : Poly × List Token) → is None ≡ false → inside ts ≡ Ok x → must s is x.1 ≡ Ok us → SumAnd s n is ts x.0 us
  sum_and is ts us x none e m =
      let a = finds ts x e in
      let c = must-found s.end is x.1 us none m in
      record { front = a.front; mark = c.0; whole = a.whole ∙ ap (λ y. a.front ++ y) c.1; denotes = a.denotes; shows = c.2 }

  in_round : (ts rest : List Token) (f : Poly) → o.kind ≡ kinds.Open → SumAnd s n is_close ts f rest → Found s Atom (suc n) (o ∷ ts) (f, rest)
  in_round ts rest f eo c = record {
    front = o ∷ c.front ++ c.mark ∷ [];
    whole = ap (λ y. o ∷ y) (between_one ts c.front rest c.mark c.whole);
    denotes = grammar.in_round n o c.mark c.front f eo c.denotes (close_is c.mark.kind c.shows);
  }

  an_associator : (ts us vs rest : List Token) (x y z f : Poly) → o.kind ≡ kinds.Open → SumAnd s n is_comma ts x us → SumAnd s n is_comma us y vs → SumAnd s n is_close vs z rest
      → associator s.field o.from x y z ≡ Ok f → Found s Atom (suc n) (o ∷ ts) (f, rest)
  an_associator ts us vs rest x y z f eo a b c made = record {
    front = o ∷ a.front ++ a.mark ∷ b.front ++ b.mark ∷ c.front ++ c.mark ∷ [];
    whole = ap (λ y. o ∷ y) (between_three ts a.front us b.front vs c.front rest a.mark b.mark c.mark a.whole b.whole c.whole);
    denotes = grammar.an_associator n o a.mark b.mark c.mark a.front b.front c.front x y z f eo a.denotes (comma_is a.mark.kind a.shows) b.denotes (comma_is b.mark.kind b.shows) c.denotes
        (close_is c.mark.kind c.shows) (λ j. associator-any s.field o.from j x y z f made);
  }

  a_commutator : (ts us rest : List Token) (x y f : Poly) → o.kind ≡ kinds.SquareOpen → SumAnd s n is_comma ts x us → SumAnd s n is_square_close us y rest
      → commutator s.field o.from x y ≡ Ok f → Found s Atom (suc n) (o ∷ ts) (f, rest)
  a_commutator ts us rest x y f eo a c made = record {
    front = o ∷ a.front ++ a.mark ∷ c.front ++ c.mark ∷ [];
    whole = ap (λ y. o ∷ y) (between_two ts a.front us c.front rest a.mark c.mark a.whole c.whole);
    denotes = grammar.a_commutator n o a.mark c.mark a.front c.front x y f eo a.denotes (comma_is a.mark.kind a.shows) c.denotes (square_close_is c.mark.kind c.shows)
        (λ j. commutator-any s.field o.from j x y f made);
  }

  -- after the third polynomial of an associator, after the second, and after the first
  third_behind : (ts us vs : List Token) (x y : Poly) (z r : Poly × List Token) → o.kind ≡ kinds.Open → SumAnd s n is_comma ts x us → SumAnd s n is_comma us y vs → inside vs ≡ Ok z
      → (associator s.field o.from x y z.0 >>= λ g. must s is_close z.1 >>= λ ws. Ok (g, ws)) ≡ Ok r → Found s Atom (suc n) (o ∷ ts) r
  third_behind ts us vs x y z r eo a b i e =
      let g = bind_ok (associator s.field o.from x y z.0) (λ g. must s is_close z.1 >>= λ ws. Ok (g, ws)) r e in
      let v = bind_ok (must s is_close z.1) (λ ws. Ok (g.0, ws)) r g.2 in
      subst (λ (q : Poly × List Token). Found s Atom (suc n) (o ∷ ts) q) (ok_is (g.0, v.0) r v.2)
      (an_associator ts us vs v.0 x y z.0 g.0 eo a b (sum_and is_close vs v.0 z refl i v.1) g.1)

  second_behind : (ts us : List Token) (x : Poly) (y r : Poly × List Token) → o.kind ≡ kinds.Open → SumAnd s n is_comma ts x us → inside us ≡ Ok y
      → (must s is_comma y.1 >>= λ vs. inside vs >>= λ z. associator s.field o.from x y.0 z.0 >>= λ g. must s is_close z.1 >>= λ ws. Ok (g, ws)) ≡ Ok r → Found s Atom (suc n) (o ∷ ts) r
  second_behind ts us x y r eo a i e =
      let m = bind_ok (must s is_comma y.1) (λ vs. inside vs >>= λ z. associator s.field o.from x y.0 z.0 >>= λ g. must s is_close z.1 >>= λ ws. Ok (g, ws)) r e in
      let z = bind_ok (inside m.0) (λ z. associator s.field o.from x y.0 z.0 >>= λ g. must s is_close z.1 >>= λ ws. Ok (g, ws)) r m.2 in
      third_behind ts us m.0 x y.0 z.0 r eo a (sum_and is_comma us m.0 y refl i m.1) z.1 z.2

  two_more-found : (ts us : List Token) (x : Poly) (r : Poly × List Token) → o.kind ≡ kinds.Open → SumAnd s n is_comma ts x us → two_more s inside o.from x us ≡ Ok r → Found s Atom (suc n) (o ∷ ts) r
  unfolding two_more
  two_more-found ts us x r eo a e =
      let y = bind_ok (inside us) (λ y. must s is_comma y.1 >>= λ vs. inside vs >>= λ z. associator s.field o.from x y.0 z.0 >>= λ g. must s is_close z.1 >>= λ ws. Ok (g, ws)) r e in
      second_behind ts us x y.0 r eo a y.1 y.2

  first_behind : (ts : List Token) (x r : Poly × List Token) → o.kind ≡ kinds.Open → inside ts ≡ Ok x
      → cond (is_comma (next x.1)) (two_more s inside o.from x.0 (after x.1)) (must s is_close x.1 >>= λ us. Ok (x.0, us)) ≡ Ok r → Found s Atom (suc n) (o ∷ ts) r
  first_behind ts x r eo i e =
      either_way (is_comma (next x.1)) (two_more s inside o.from x.0 (after x.1)) (must s is_close x.1 >>= λ us. Ok (x.0, us)) (λ q. Found s Atom (suc n) (o ∷ ts) q)
      (λ c q k. two_more-found ts (after x.1) x.0 q eo (sum_and is_comma ts (after x.1) x refl i (comma_next s x.1 c)) k)
      (λ c q k. let v = bind_ok (must s is_close x.1) (λ us. Ok (x.0, us)) q k in
      subst (λ (w : Poly × List Token). Found s Atom (suc n) (o ∷ ts) w) (ok_is (x.0, v.0) q v.2) (in_round ts v.0 x.0 eo (sum_and is_close ts v.0 x refl i v.1))) r e

  round-found : (ts : List Token) (r : Poly × List Token) → o.kind ≡ kinds.Open → round s inside o.from ts ≡ Ok r → Found s Atom (suc n) (o ∷ ts) r
  unfolding round
  round-found ts r eo e =
      let x = bind_ok (inside ts) (λ y. cond (is_comma (next y.1)) (two_more s inside o.from y.0 (after y.1)) (must s is_close y.1 >>= λ us. Ok (y.0, us))) r e in
      first_behind ts x.0 r eo x.1 x.2

  -- after the second polynomial of a commutator
  last_behind : (ts us : List Token) (x : Poly) (y r : Poly × List Token) → o.kind ≡ kinds.SquareOpen → SumAnd s n is_comma ts x us → inside us ≡ Ok y
      → (commutator s.field o.from x y.0 >>= λ g. must s is_square_close y.1 >>= λ vs. Ok (g, vs)) ≡ Ok r → Found s Atom (suc n) (o ∷ ts) r
  last_behind ts us x y r eo a i e =
      let g = bind_ok (commutator s.field o.from x y.0) (λ g. must s is_square_close y.1 >>= λ vs. Ok (g, vs)) r e in
      let v = bind_ok (must s is_square_close y.1) (λ vs. Ok (g.0, vs)) r g.2 in
      subst (λ (q : Poly × List Token). Found s Atom (suc n) (o ∷ ts) q) (ok_is (g.0, v.0) r v.2)
      (a_commutator ts us v.0 x y.0 g.0 eo a (sum_and is_square_close us v.0 y refl i v.1) g.1)

  comma_behind : (ts : List Token) (x r : Poly × List Token) → o.kind ≡ kinds.SquareOpen → inside ts ≡ Ok x
      → (must s is_comma x.1 >>= λ us. inside us >>= λ y. commutator s.field o.from x.0 y.0 >>= λ g. must s is_square_close y.1 >>= λ vs. Ok (g, vs)) ≡ Ok r → Found s Atom (suc n) (o ∷ ts) r
  comma_behind ts x r eo i e =
      let m = bind_ok (must s is_comma x.1) (λ us. inside us >>= λ y. commutator s.field o.from x.0 y.0 >>= λ g. must s is_square_close y.1 >>= λ vs. Ok (g, vs)) r e in
      let y = bind_ok (inside m.0) (λ y. commutator s.field o.from x.0 y.0 >>= λ g. must s is_square_close y.1 >>= λ vs. Ok (g, vs)) r m.2 in
      last_behind ts m.0 x.0 y.0 r eo (sum_and is_comma ts m.0 x refl i m.1) y.1 y.2

  square-found : (ts : List Token) (r : Poly × List Token) → o.kind ≡ kinds.SquareOpen → square s inside o.from ts ≡ Ok r → Found s Atom (suc n) (o ∷ ts) r
  unfolding square
  square-found ts r eo e =
      let x = bind_ok (inside ts) (λ x. must s is_comma x.1 >>= λ us. inside us >>= λ y. commutator s.field o.from x.0 y.0 >>= λ g. must s is_square_close y.1 >>= λ vs. Ok (g, vs)) r e in
      comma_behind ts x.0 r eo x.1 x.2

bracketed-found : (s : Setting) (n : ℕ) → FindsOpen s n (bracketed s n)
unfolding bracketed
bracketed-found s zero t ts x k e = absurd cc
bracketed-found s (suc n) t ts x (inl k) e = round-found s n (poly s (bracketed s n)) (poly-found s n (bracketed s n) (bracketed-found s n)) t ts x k (rw k at e)
bracketed-found s (suc n) t ts x (inr k) e = square-found s n (poly s (bracketed s n)) (poly-found s n (bracketed s n) (bracketed-found s n)) t ts x k (rw k at e)

-- no token is left after the value
pub ended_nil : {V : Type 0} (g f : V) (ts : List Token) → ended g ts ≡ Ok f → (ts ≡ []) × (g ≡ f)
ended_nil g f [] e = (refl, ok_is g f e)
ended_nil g f (t ∷ ts) e = absurd cc

pub denoted-found : (s : Setting) (ts : List Token) (f : Poly) → denoted s ts ≡ Ok f → Denotes s.field s.letters Sum 64 ts f
unfolding denoted
denoted-found s ts f e =
    let w = bind_ok (poly s (bracketed s 64) ts) (λ x. ended x.0 x.1) f e in
    let a = poly-found s 64 (bracketed s 64) (bracketed-found s 64) ts w.0 w.1 in
    let n = ended_nil w.0.0 f w.0.1 w.2 in
    let q : ts ≡ a.front = a.whole ∙ ap (λ y. a.front ++ y) n.0 ∙ append-nil a.front in
    subst (λ g. Denotes s.field s.letters Sum 64 ts g) n.1 (subst (λ y. Denotes s.field s.letters Sum 64 y w.0.0) (sym q) a.denotes)

pub is_found : (s : Setting) (ts : List Token) (r : Result Poly SyntaxError) → Gives (λ f. f) r (denoted s ts) → IfOk r (λ f. Denotes s.field s.letters Sum 64 ts f)
is_found s ts (Ok f) h = denoted-found s ts f h
is_found s ts (Err e) h = tt
