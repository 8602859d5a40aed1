-- Repetition, where each turn takes a token.
use Rattle.std.proofs.Common.{◌≡◌, ℕ, zero, suc, ◌<◌, ◌≤◌, Bool, true, false, cond, List, [], ◌∷◌, length, Option, None, Ok, Err, refl, sym, ap, subst, ◌∙◌, inl, inr, arith}
use Rattle.std.proofs.lemmas.Bool.{cases_Bool}
use Rattle.alb_lex.specs.declared.token.Token.{Token}
use Rattle.alb_lex.specs.declared.token.TokenKind.{TokenKind}
use Rattle.alb_syntax.specs.declared.error.SyntaxError.{SyntaxError}
use Rattle.alb_lex.specs.Results.{◌>>=◌}
use Rattle.alb_syntax.specs.Gives.{Fails}
use Rattle.alb_syntax.specs.Reading.{ReadingOf, ReaderOf, next, turns, each}
use Rattle.alb_lex.proofs.Binds.{bind_ok}
use Rattle.alb_syntax.proofs.Binds.{Fails-bind}

-- what is read takes at least one token
pub record Shrinks {V : Type 0} (read : ReaderOf V) : Type 0 where
  pub less : (ts : List Token) (x : V × List Token) → read ts ≡ Ok x → length x.1 < length ts

-- a part of a repetition
pub record IsPart {V : Type 0} (more : Option TokenKind → Bool) (part : V → ReaderOf V) : Type 0 where
  pub ends : more None ≡ false
  pub less : (f : V) (ts : List Token) (x : V × List Token) → part f ts ≡ Ok x → length x.1 < length ts

module _ {V : Type 0} (more : Option TokenKind → Bool) (part : V → ReaderOf V) (is : IsPart more part) where
  -- the bound does not matter where it is at least the number of tokens
  bound : (m n : ℕ) (f : V) (ts : List Token) → length ts ≤ m → length ts ≤ n → turns more part m f ts ≡ turns more part n f ts
  unfolding turns
  bound zero zero f ts h k = refl
  bound zero (suc n) f [] h k = rw is.ends refl
  bound zero (suc n) f (t ∷ ts) h k = absurd (omega arith)
  bound (suc m) zero f [] h k = rw is.ends refl
  bound (suc m) zero f (t ∷ ts) h k = absurd (omega arith)
  bound (suc m) (suc n) f ts h k =
      let go : (r : ReadingOf V) → part f ts ≡ r → (r >>= λ x. turns more part m x.0 x.1) ≡ (r >>= λ x. turns more part n x.0 x.1) =
      λ r e. elim r as (λ r. part f ts ≡ r → (r >>= λ x. turns more part m x.0 x.1) ≡ (r >>= λ x. turns more part n x.0 x.1)) [
        | Ok x ↦ λ e. (let q = is.less f ts x e in bound m n x.0 x.1 (omega arith) (omega arith))
        | Err d ↦ λ e. refl
      ] e in
      ap (λ r. cond (more (next ts)) r (Ok (f, ts))) (go (part f ts) refl)

  pub each-stops : (f : V) (ts : List Token) → more (next ts) ≡ false → each more part f ts ≡ Ok (f, ts)
  unfolding each turns
  each-stops f [] h = refl
  each-stops f (t ∷ ts) h = rw h refl

  pub each-step : (f : V) (ts : List Token) → more (next ts) ≡ true → each more part f ts ≡ (part f ts >>= λ x. each more part x.0 x.1)
  unfolding each turns
  each-step f [] h = absurd (let k = is.ends in cc)
  each-step f (t ∷ ts) h =
      let go : (r : ReadingOf V) → part f (t ∷ ts) ≡ r → (r >>= λ x. turns more part (length ts) x.0 x.1) ≡ (r >>= λ x. turns more part (length x.1) x.0 x.1) =
      λ r e. elim r as (λ r. part f (t ∷ ts) ≡ r → (r >>= λ x. turns more part (length ts) x.0 x.1) ≡ (r >>= λ x. turns more part (length x.1) x.0 x.1)) [
        | Ok x ↦ λ e. (let q = is.less f (t ∷ ts) x e in bound (length ts) (length x.1) x.0 x.1 (omega arith) (omega arith))
        | Err d ↦ λ e. refl
      ] e in
      rw h (go (part f (t ∷ ts)) refl)

  -- what is read in all takes no token back
  turns-less : (n : ℕ) (f : V) (ts : List Token) (x : V × List Token) → turns more part n f ts ≡ Ok x → length x.1 ≤ length ts
  unfolding turns
  turns-less zero f ts x e = let q : ts ≡ x.1 = cc in omega (arith, ap (length {A = Token}) q)
  turns-less (suc n) f ts x e = elim (cases_Bool (more (next ts))) [
    | inl h ↦ (let k = rw h at e in
        let w = bind_ok (part f ts) (λ y. turns more part n y.0 y.1) x k in
        omega (arith, turns-less n w.0.0 w.0.1 x w.2, is.less f ts w.0 w.1))
    | inr h ↦ (let k = rw h at e in let q : ts ≡ x.1 = cc in omega (arith, ap (length {A = Token}) q))
  ]

  pub each-less : (f : V) (ts : List Token) (x : V × List Token) → each more part f ts ≡ Ok x → length x.1 ≤ length ts
  unfolding each
  each-less f ts x e = turns-less (length ts) f ts x e

  -- the steps of a loop
  pub goes_on : (total : ReadingOf V) (f : V) (ts : List Token) (x : V × List Token) → each more part f ts ≡ total → more (next ts) ≡ true → part f ts ≡ Ok x → each more part x.0 x.1 ≡ total
  goes_on total f ts x so_far h e = sym (ap (λ (r : ReadingOf V). r >>= λ x. each more part x.0 x.1) e) ∙ sym (each-step f ts h) ∙ so_far

  pub fails : (total : ReadingOf V) (f : V) (ts : List Token) (e : SyntaxError) → each more part f ts ≡ total → more (next ts) ≡ true → Fails e (part f ts) → Fails e total
  fails total f ts e so_far h w = subst (Fails e) (sym (each-step f ts h) ∙ so_far) (Fails-bind e (part f ts) (λ x. each more part x.0 x.1) w)

  pub stops : (total : ReadingOf V) (f : V) (ts : List Token) → each more part f ts ≡ total → more (next ts) ≡ false → total ≡ Ok (f, ts)
  stops total f ts so_far h = sym so_far ∙ each-stops f ts h
