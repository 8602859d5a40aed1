-- Counts of answers.
use Rattle.std.proofs.Common.{◌≡◌, ℕ, zero, suc, ◌+◌, ◌≤◌, ◌/◌, ◌%◌, true, Bool, List, [], ◌∷◌, ◌++◌, sym, refl, ap, ◌∙◌, subst, arith, inl, inr, ◌⊎◌, cond}
use Rattle.std.specs.Prelude.{count_by}
use Rattle.std.proofs.lemmas.Bool.{cases_lt}
use Rattle.std.proofs.lemmas.List.Sums.{sum_by-append}
use Rattle.alb_poly.specs.Poly.{Poly}
use Rattle.alb_query.specs.Answer.{Answer, Zero, NotZero, NotBuilt, OutOfType}
use Rattle.alb_table.specs.RightTable.{IsRightFor}
use Rattle.alb_table.specs.Table.{Table}
use Rattle.alb_sample.specs.Laws.{CountIsByParity}
use Rattle.alb_sample.specs.Problem.{sample_view}
use Rattle.alb_sample.specs.Sample.{polynomial, polynomials, state_at, state_drawn}
use Rattle.alb_sample.specs.Tally.{IsSampleAnswer, AreAnswers, is_zero, is_not_zero, IsTally, kind_of, HasKind, zeros_with, non_zeros_with}
use Rattle.alb_sample.specs.declared.tally.Kind.{Kind}
use Rattle.alb_sample.specs.declared.tally.Kind.TheVariants as kinds
use Rattle.alb_sample.proofs.ParityLemmas.{by-parity}

-- ---- one more answer

answers-more : (t : Table) (gs : List Poly) (xs : List Answer) (g : Poly) (a : Answer) → AreAnswers t gs xs → IsSampleAnswer t g a → AreAnswers t (gs ++ g ∷ []) (xs ++ a ∷ [])
answers-more t [] [] g a h k = (k, tt)
answers-more t [] (x ∷ xs) g a h k = absurd h
answers-more t (f ∷ gs) [] g a h k = absurd h
answers-more t (f ∷ gs) (x ∷ xs) g a h k = (h.0, answers-more t gs xs g a h.1 k)

count-more : (p : Answer → Bool) (xs : List Answer) (a : Answer) → count_by p (xs ++ a ∷ []) ≡ count_by p xs + cond (p a) 1 0
count-more p xs a = sum_by-append (λ x. cond (p x) 1 0) xs (a ∷ []) ∙ ap (λ n. count_by p xs + n) (omega arith)

zeros-more : (a : Answer) (z : ℕ) → z + cond (is_zero a) 1 0 ≡ zeros_with z (kind_of a)
zeros-more Zero z = refl
zeros-more (NotZero f) z = omega arith
zeros-more (NotBuilt n) z = omega arith
zeros-more (OutOfType m) z = omega arith

non_zeros-more : (a : Answer) (y : ℕ) → y + cond (is_not_zero a) 1 0 ≡ non_zeros_with y (kind_of a)
non_zeros-more Zero y = omega arith
non_zeros-more (NotZero f) y = refl
non_zeros-more (NotBuilt n) y = omega arith
non_zeros-more (OutOfType m) y = omega arith

pub tally-start : (t : Table) (s : ℕ) → IsTally t s 0 0 0
unfolding polynomials
tally-start t s = record { answers = []; are = tt; zeros = refl; non_zeros = refl }

pub tally-more : (t : Table) (s n z y : ℕ) (kind : Kind) → IsTally t s n z y → HasKind t (polynomial t (suc n) (state_at t s n)) kind →
    IsTally t s (suc n) (zeros_with z kind) (non_zeros_with y kind)
unfolding polynomials
tally-more t s n z y kind h k = record {
  answers = h.answers ++ k.answer ∷ [];
  are = answers-more t (polynomials t s n) h.answers (polynomial t (suc n) (state_at t s n)) k.answer h.are k.is;
  zeros = count-more is_zero h.answers k.answer ∙ ap (λ n. n + cond (is_zero k.answer) 1 0) h.zeros ∙ zeros-more k.answer z ∙ ap (zeros_with z) k.kind_is;
  non_zeros = count-more is_not_zero h.answers k.answer ∙ ap (λ n. n + cond (is_not_zero k.answer) 1 0) h.non_zeros ∙ non_zeros-more k.answer y ∙ ap (non_zeros_with y) k.kind_is;
}

pub zeros-most : (z : ℕ) (kind : Kind) → zeros_with z kind ≤ z + 1
zeros-most z kinds.Zero = omega arith
zeros-most z kinds.NotZero = omega arith
zeros-most z kinds.Other = omega arith

pub non_zeros-most : (y : ℕ) (kind : Kind) → non_zeros_with y kind ≤ y + 1
non_zeros-most y kinds.Zero = omega arith
non_zeros-most y kinds.NotZero = omega arith
non_zeros-most y kinds.Other = omega arith

-- the same, as the code counts
pub tally-next : (t : Table) (s n z y zs ys m : ℕ) (kind : Kind) → IsTally t s n z y → HasKind t (polynomial t (n + 1) (state_at t s n)) kind →
    zs ≡ zeros_with z kind → ys ≡ non_zeros_with y kind → m ≡ n + 1 → IsTally t s m zs ys
tally-next t s n z y zs ys m kind h k zi yi mi =
    let e : n + 1 ≡ suc n = omega arith in
    rw (zi, yi, mi, e) (tally-more t s n z y kind h (subst (λ (j : ℕ). HasKind t (polynomial t j (state_at t s n)) kind) e k))

pub state-start : (t : Table) (s : ℕ) → s ≡ state_at t s 0
unfolding state_at
state-start t s = refl

pub state-next : (t : Table) (s n d m : ℕ) → d ≡ state_drawn t (n + 1) (state_at t s n) → m ≡ n + 1 → d ≡ state_at t s m
unfolding state_at
state-next t s n d m h mi =
    let e : n + 1 ≡ suc n = omega arith in
    rw (mi, e) (h ∙ ap (λ (j : ℕ). state_drawn t j (state_at t s n)) e)

-- ---- the count by parity

-- the answers to a list with one more polynomial are those to the list, and one more
record Splits (t : Table) (gs : List Poly) (g : Poly) (xs : List Answer) : Type 0 where
  before : List Answer
  last : Answer
  is : xs ≡ before ++ last ∷ []
  are : AreAnswers t gs before
  answer : IsSampleAnswer t g last

split : (t : Table) (gs : List Poly) (g : Poly) (xs : List Answer) → AreAnswers t (gs ++ g ∷ []) xs → Splits t gs g xs
split t [] g [] h = absurd h
split t [] g (x ∷ []) h = record { before = []; last = x; is = refl; are = tt; answer = h.0 }
split t [] g (x ∷ y ∷ xs) h = absurd h.1
split t (f ∷ gs) g [] h = absurd h
split t (f ∷ gs) g (x ∷ xs) h =
    let r = split t gs g xs h.1 in
    record { before = x ∷ r.before; last = r.last; is = ap (λ l. x ∷ l) r.is; are = (h.0, r.are); answer = r.answer }

module _ (t : Table) (s : ℕ) (right : IsRightFor sample_view t) (big : 7 ≤ t.degree) where
  parity : (k : ℕ) (a : Answer) → (k % 2 ≡ 0 → a ≡ Zero) → (k % 2 ≡ 1 → is_not_zero a ≡ true) →
      (cond (is_zero a) 1 0 + k % 2 ≡ 1) × (cond (is_not_zero a) 1 0 ≡ k % 2)
  parity k a even odd = elim (halves k) [
    | inl e ↦ by-even e (even e)
    | inr e ↦ by-odd e a (odd e)
  ]
    where
      halves : (k : ℕ) → (k % 2 ≡ 0) ⊎ (k % 2 ≡ 1)
      halves k = elim (cases_lt (k % 2) 1) [
        | inl l ↦ inl (omega arith)
        | inr l ↦ inr (omega arith)
      ]

      by-even : k % 2 ≡ 0 → a ≡ Zero → (cond (is_zero a) 1 0 + k % 2 ≡ 1) × (cond (is_not_zero a) 1 0 ≡ k % 2)
      by-even e z = rw (z, e) (refl, refl)

      by-odd : k % 2 ≡ 1 → (a : Answer) → is_not_zero a ≡ true → (cond (is_zero a) 1 0 + k % 2 ≡ 1) × (cond (is_not_zero a) 1 0 ≡ k % 2)
      by-odd e Zero n = absurd (cc)
      by-odd e (NotZero f) n = rw e (refl, refl)
      by-odd e (NotBuilt m) n = absurd (cc)
      by-odd e (OutOfType m) n = absurd (cc)

  counted : (n : ℕ) (xs : List Answer) → AreAnswers t (polynomials t s n) xs → (count_by is_zero xs ≡ n / 2) × (count_by is_zero xs + count_by is_not_zero xs ≡ n)
  unfolding polynomials
  counted zero [] h = (refl, refl)
  counted zero (x ∷ xs) h = absurd h
  counted (suc n) xs h =
      let r = split t (polynomials t s n) (polynomial t (suc n) (state_at t s n)) xs h in
      let p = by-parity t right big (suc n) (state_at t s n) r.last r.answer in
      let q = parity (suc n) r.last p.even p.odd in
      let i = counted n r.before r.are in
      let z : count_by is_zero xs ≡ count_by is_zero r.before + cond (is_zero r.last) 1 0 = ap (count_by is_zero) r.is ∙ count-more is_zero r.before r.last in
      let y : count_by is_not_zero xs ≡ count_by is_not_zero r.before + cond (is_not_zero r.last) 1 0 = ap (count_by is_not_zero) r.is ∙ count-more is_not_zero r.before r.last in
      (omega (arith, i.0, i.1, q.0, q.1, z, y), omega (arith, i.0, i.1, q.0, q.1, z, y))

pub count-is-by-parity : CountIsByParity
count-is-by-parity t s n z y right big h =
    let c = counted t s right big n h.answers h.are in (sym h.zeros ∙ c.0, omega (arith, h.zeros, h.non_zeros, c.1))
