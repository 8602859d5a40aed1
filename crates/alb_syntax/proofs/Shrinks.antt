-- What is read takes at least one token.
use Rattle.std.proofs.Common.{◌≡◌, ℕ, zero, suc, ◌-◌, ◌<◌, ◌≤◌, Bool, true, false, cond, List, [], ◌∷◌, length, position, Option, Some, None, Result, Ok, refl, ap, subst, arith}
use Rattle.std.specs.Prelude.{nat_le, ◌==◌, ◌&&◌}
use Rattle.alb_lex.specs.declared.token.Token.{Token}
use Rattle.alb_lex.specs.declared.token.TokenKind.{TokenKind}
use Rattle.alb_lex.specs.declared.token.TokenKind.TheVariants as kinds
use Rattle.alb_poly.specs.Poly.{Poly}
use Rattle.alb_syntax.specs.declared.error.SyntaxError.{SyntaxError}
use Rattle.alb_syntax.specs.declared.error.SyntaxError.TheVariants as errors
use Rattle.alb_lex.specs.Results.{◌>>=◌}
use Rattle.alb_syntax.specs.Reading.{sum, difference, times, multiple, associator, commutator, jordan, raised, Setting, ReadingOf, PolyReading, PolyReader, next, after, place, place_or, unexpected, must, must_or, is_plus, is_sign, is_star, is_comma, is_open, is_close, is_square_close, begins_atom, each, letter, atom_at, atom, exponent_at, exponent, is_caret, power, factor, juxt, star, jprod, multiple_from, term_at, term, first_at, first, signed, poly, two_more, round, square, bracketed}
use Rattle.alb_lex.proofs.Binds.{bind_ok, guard_ok, ok_is}
use Rattle.alb_syntax.proofs.Turns.{Shrinks, IsPart, each-less, each-stops}

pub after-less : (ts : List Token) → length (after ts) ≤ length ts
after-less [] = omega arith
after-less (t ∷ ts) = omega arith

pub after-shorter : (ts : List Token) (k : TokenKind) → next ts ≡ Some k → length (after ts) < length ts
after-shorter [] k e = absurd cc
after-shorter (t ∷ ts) k e = omega arith

-- what takes a front, perhaps empty
abbrev pub Keeps : {V : Type 0} → ReadingOf V → List Token → Type 0
Keeps {V} read ts = (x : V × List Token) → read ≡ Ok x → length x.1 ≤ length ts

abbrev Takes : PolyReading → List Token → Type 0
Takes read ts = (x : Poly × List Token) → read ≡ Ok x → length x.1 < length ts

pub ok_rest : {V : Type 0} (f : V) (ts us : List Token) → length us ≤ length ts → Keeps (Ok (f, us)) ts
ok_rest {V} f ts us h x e = let q = ok_is (f, us) x e in let r : us ≡ x.1 = ap (λ (y : V × List Token). y.1) q in omega (arith, ap (length {A = Token}) r)

pub must-less : (end : ℕ) (is : Option TokenKind → Bool) (ts us : List Token) → must_or end is ts ≡ Ok us → length us ≤ length ts
must-less end is ts us e =
    let g = guard_ok (is (next ts)) (Ok (after ts)) (errors.Expected (place_or end ts)) us e in
    let q = ok_is (after ts) us g.1 in
    omega (arith, after-less ts, ap (length {A = Token}) q)

letter-takes : (s : Setting) (o : Option ℕ) (ts : List Token) (k : TokenKind) → next ts ≡ Some k → Takes (letter s o ts) ts
letter-takes s (Some k) ts t n x e = let q = ok_rest _ (after ts) (after ts) (omega arith) x e in omega (arith, after-shorter ts t n, q)
letter-takes s None ts t n x e = absurd cc

module _ (s : Setting) (bracket : PolyReader) (is : Shrinks bracket) where
  atom_at-takes : (k : Option TokenKind) (ts : List Token) → next ts ≡ k → Takes (atom_at s bracket k ts) ts
  atom_at-takes (Some (kinds.Letter b)) ts n x e = letter-takes s (position (λ x. x == b) s.letters) ts (kinds.Letter b) n x e
  atom_at-takes (Some kinds.Open) ts n x e = is.less ts x e
  atom_at-takes (Some kinds.SquareOpen) ts n x e = is.less ts x e
  atom_at-takes _ ts n x e = absurd cc

  atom-takes : (ts : List Token) → Takes (atom s bracket ts) ts
  unfolding atom
  atom-takes ts x e = atom_at-takes (next ts) ts refl x e

exponent_at-keeps : (s : Setting) (at : ℕ) (f : Poly) (k : Option TokenKind) (ts : List Token) → Keeps (exponent_at s at f k ts) ts
exponent_at-keeps s at f (Some (kinds.Number n)) ts x e =
    let g = guard_ok (nat_le 1 n && nat_le n 64) (raised s.field at f (n - 1) f >>= λ g. Ok (g, after ts)) (errors.Expected (place s ts)) x e in
    let w = bind_ok (raised s.field at f (n - 1) f) (λ g. Ok (g, after ts)) x g.1 in
    ok_rest w.0 ts (after ts) (after-less ts) x w.2
exponent_at-keeps s at f _ ts x e = absurd cc

exponent-keeps : (s : Setting) (at : ℕ) (f : Poly) (ts : List Token) → Keeps (exponent s at f ts) ts
unfolding exponent
exponent-keeps s at f ts x e = exponent_at-keeps s at f (next ts) ts x e

either_ok : {A : Type 0} (b : Bool) (r q : Result A SyntaxError) (P : A → Type 0) → ((x : A) → r ≡ Ok x → P x) → ((x : A) → q ≡ Ok x → P x) → (x : A) → cond b r q ≡ Ok x → P x
either_ok true r q P h k x e = h x e
either_ok false r q P h k x e = k x e

module _ (s : Setting) (bracket : PolyReader) (is : Shrinks bracket) where
  pub power-takes : (ts : List Token) → Takes (power s bracket ts) ts
  unfolding power
  power-takes ts x e =
      let w = bind_ok (atom s bracket ts) (λ y. cond (is_caret (next y.1)) (exponent s (place s y.1) y.0 (after y.1)) (Ok y)) x e in
      let a = atom-takes s bracket is ts w.0 w.1 in
      either_ok (is_caret (next w.0.1)) (exponent s (place s w.0.1) w.0.0 (after w.0.1)) (Ok w.0) (λ z. length z.1 < length ts)
      (λ z k. omega (arith, after-less w.0.1, exponent-keeps s (place s w.0.1) w.0.0 (after w.0.1) z k))
      (λ z k. let q = ok_is w.0 z k in subst (λ (y : Poly × List Token). length y.1 < length ts) q a) x w.2

  pub factor-part : IsPart begins_atom (factor s bracket)
  unfolding factor
  factor-part = record {
    ends = refl;
    less = λ f ts x e.
        let w = bind_ok (power s bracket ts) (λ y. times s.field (place s ts) f y.0 >>= λ g. Ok (g, y.1)) x e in
        let v = bind_ok (times s.field (place s ts) f w.0.0) (λ g. Ok (g, w.0.1)) x w.2 in
        omega (arith, power-takes ts w.0 w.1, ok_rest v.0 w.0.1 w.0.1 (omega arith) x v.2);
  }

  pub juxt-takes : (ts : List Token) → Takes (juxt s bracket ts) ts
  unfolding juxt
  juxt-takes ts x e =
      let w = bind_ok (power s bracket ts) (λ y. each begins_atom (factor s bracket) y.0 y.1) x e in
      omega (arith, power-takes ts w.0 w.1, each-less begins_atom (factor s bracket) factor-part w.0.0 w.0.1 x w.2)

  pub star-part : IsPart is_star (star s bracket)
  unfolding star
  star-part = record {
    ends = refl;
    less = λ f ts x e.
        let w = bind_ok (juxt s bracket (after ts)) (λ y. jordan s.field (place s ts) f y.0 >>= λ g. Ok (g, y.1)) x e in
        let v = bind_ok (jordan s.field (place s ts) f w.0.0) (λ g. Ok (g, w.0.1)) x w.2 in
        omega (arith, juxt-takes (after ts) w.0 w.1, after-less ts, ok_rest v.0 w.0.1 w.0.1 (omega arith) x v.2);
  }

  pub jprod-takes : (ts : List Token) → Takes (jprod s bracket ts) ts
  unfolding jprod
  jprod-takes ts x e =
      let w = bind_ok (juxt s bracket ts) (λ y. each is_star (star s bracket) y.0 y.1) x e in
      omega (arith, juxt-takes ts w.0 w.1, each-less is_star (star s bracket) star-part w.0.0 w.0.1 x w.2)

  numbered-keeps : (n : ℕ) (ts : List Token) → Keeps (multiple_from s bracket n ts) ts
  unfolding multiple_from
  numbered-keeps n ts x e =
      either_ok (begins_atom (next ts)) (jprod s bracket ts >>= λ y. Ok (multiple s.field n y.0, y.1)) (cond (n == 0) (Ok ([], ts)) (unexpected s ts)) (λ z. length z.1 ≤ length ts)
      (λ z k. let w = bind_ok (jprod s bracket ts) (λ y. Ok (multiple s.field n y.0, y.1)) z k in
      omega (arith, jprod-takes ts w.0 w.1, ok_rest (multiple s.field n w.0.0) w.0.1 w.0.1 (omega arith) z w.2))
      (λ z k. let g = guard_ok (n == 0) (Ok ([], ts)) (errors.Expected (place s ts)) z k in ok_rest [] ts ts (omega arith) z g.1) x e

  term_at-takes : (k : Option TokenKind) (ts : List Token) → next ts ≡ k → Takes (term_at s bracket k ts) ts
  term_at-takes (Some (kinds.Number n)) ts h x e = omega (arith, after-shorter ts (kinds.Number n) h, numbered-keeps n (after ts) x e)
  term_at-takes _ ts h x e = jprod-takes ts x e

  pub term-takes : (ts : List Token) → Takes (term s bracket ts) ts
  unfolding term
  term-takes ts x e = term_at-takes (next ts) ts refl x e

  first_at-takes : (k : Option TokenKind) (ts : List Token) → Takes (first_at s bracket k ts) ts
  first_at-takes (Some kinds.Plus) ts x e = omega (arith, after-less ts, term-takes (after ts) x e)
  first_at-takes (Some kinds.Minus) ts x e =
      let w = bind_ok (term s bracket (after ts)) (λ y. Ok (multiple s.field (s.field - 1) y.0, y.1)) x e in
      omega (arith, after-less ts, term-takes (after ts) w.0 w.1, ok_rest (multiple s.field (s.field - 1) w.0.0) w.0.1 w.0.1 (omega arith) x w.2)
  first_at-takes _ ts x e = term-takes ts x e

  pub signed-part : IsPart is_sign (signed s bracket)
  unfolding signed
  signed-part = record {
    ends = refl;
    less = λ f ts x e.
        let op = λ (y : Poly × List Token). cond (is_plus (next ts)) (sum s.field (place s ts) f y.0) (difference s.field (place s ts) f y.0) in
        let w = bind_ok (term s bracket (after ts)) (λ y. op y >>= λ g. Ok (g, y.1)) x e in
        let v = bind_ok (op w.0) (λ g. Ok (g, w.0.1)) x w.2 in
        omega (arith, term-takes (after ts) w.0 w.1, after-less ts, ok_rest v.0 w.0.1 w.0.1 (omega arith) x v.2);
  }

  pub poly-takes : (ts : List Token) → Takes (poly s bracket ts) ts
  unfolding poly first
  poly-takes ts x e =
      let w = bind_ok (first s bracket ts) (λ y. each is_sign (signed s bracket) y.0 y.1) x e in
      omega (arith, first_at-takes (next ts) ts w.0 w.1, each-less is_sign (signed s bracket) signed-part w.0.0 w.0.1 x w.2)

  -- no sign follows the first term
  pub poly-single : (ts rest : List Token) (f : Poly) → first s bracket ts ≡ Ok (f, rest) → is_sign (next rest) ≡ false → poly s bracket ts ≡ Ok (f, rest)
  unfolding poly
  poly-single ts rest f e h = rw e (each-stops is_sign (signed s bracket) signed-part f rest h)

module _ (s : Setting) (inside : PolyReader) (is : (ts : List Token) → Takes (inside ts) ts) (at : ℕ) where
  two_more-takes : (f : Poly) (ts : List Token) → Takes (two_more s inside at f ts) ts
  unfolding two_more
  two_more-takes f ts x e =
      let a = bind_ok (inside ts) (λ y. must s is_comma y.1 >>= λ us. inside us >>= λ z. associator s.field at f y.0 z.0 >>= λ g. must s is_close z.1 >>= λ vs. Ok (g, vs)) x e in
      let b = bind_ok (must s is_comma a.0.1) (λ us. inside us >>= λ z. associator s.field at f a.0.0 z.0 >>= λ g. must s is_close z.1 >>= λ vs. Ok (g, vs)) x a.2 in
      let c = bind_ok (inside b.0) (λ z. associator s.field at f a.0.0 z.0 >>= λ g. must s is_close z.1 >>= λ vs. Ok (g, vs)) x b.2 in
      let d = bind_ok (associator s.field at f a.0.0 c.0.0) (λ g. must s is_close c.0.1 >>= λ vs. Ok (g, vs)) x c.2 in
      let m = bind_ok (must s is_close c.0.1) (λ vs. Ok (d.0, vs)) x d.2 in
      omega (arith, is ts a.0 a.1, must-less s.end is_comma a.0.1 b.0 b.1, is b.0 c.0 c.1, must-less s.end is_close c.0.1 m.0 m.1, ok_rest d.0 m.0 m.0 (omega arith) x m.2)

  round-takes : (ts : List Token) → Takes (round s inside at ts) ts
  unfolding round
  round-takes ts x e =
      let a = bind_ok (inside ts) (λ y. cond (is_comma (next y.1)) (two_more s inside at y.0 (after y.1)) (must s is_close y.1 >>= λ us. Ok (y.0, us))) x e in
      either_ok (is_comma (next a.0.1)) (two_more s inside at a.0.0 (after a.0.1)) (must s is_close a.0.1 >>= λ us. Ok (a.0.0, us)) (λ z. length z.1 < length ts)
      (λ z k. omega (arith, is ts a.0 a.1, after-less a.0.1, two_more-takes a.0.0 (after a.0.1) z k))
      (λ z k. let m = bind_ok (must s is_close a.0.1) (λ us. Ok (a.0.0, us)) z k in
      omega (arith, is ts a.0 a.1, must-less s.end is_close a.0.1 m.0 m.1, ok_rest a.0.0 m.0 m.0 (omega arith) z m.2)) x a.2

  square-takes : (ts : List Token) → Takes (square s inside at ts) ts
  unfolding square
  square-takes ts x e =
      let a = bind_ok (inside ts) (λ y. must s is_comma y.1 >>= λ us. inside us >>= λ z. commutator s.field at y.0 z.0 >>= λ g. must s is_square_close z.1 >>= λ vs. Ok (g, vs)) x e in
      let b = bind_ok (must s is_comma a.0.1) (λ us. inside us >>= λ z. commutator s.field at a.0.0 z.0 >>= λ g. must s is_square_close z.1 >>= λ vs. Ok (g, vs)) x a.2 in
      let c = bind_ok (inside b.0) (λ z. commutator s.field at a.0.0 z.0 >>= λ g. must s is_square_close z.1 >>= λ vs. Ok (g, vs)) x b.2 in
      let d = bind_ok (commutator s.field at a.0.0 c.0.0) (λ g. must s is_square_close c.0.1 >>= λ vs. Ok (g, vs)) x c.2 in
      let m = bind_ok (must s is_square_close c.0.1) (λ vs. Ok (d.0, vs)) x d.2 in
      omega (arith, is ts a.0 a.1, must-less s.end is_comma a.0.1 b.0 b.1, is b.0 c.0 c.1, must-less s.end is_square_close c.0.1 m.0 m.1, ok_rest d.0 m.0 m.0 (omega arith) x m.2)

pub bracketed-shrinks : (s : Setting) (n : ℕ) → Shrinks (bracketed s n)
unfolding bracketed
bracketed-shrinks s zero = record { less = λ ts x e. absurd cc }
bracketed-shrinks s (suc n) = record {
  less = λ ts x e.
      let inside = poly-takes s (bracketed s n) (bracketed-shrinks s n) in
      either_ok (is_open (next ts)) (round s (poly s (bracketed s n)) (place s ts) (after ts)) (square s (poly s (bracketed s n)) (place s ts) (after ts)) (λ z. length z.1 < length ts)
      (λ z k. omega (arith, after-less ts, round-takes s (poly s (bracketed s n)) inside (place s ts) (after ts) z k))
      (λ z k. omega (arith, after-less ts, square-takes s (poly s (bracketed s n)) inside (place s ts) (after ts) z k)) x e;
}
