-- The numbers of the table are primes, and below a prime everything but 0 has an inverse.
use Rattle.std.proofs.Common.{◌≡◌, ◌≢◌, ℕ, zero, suc, ◌+◌, ◌-◌, ◌*◌, ◌/◌, ◌%◌, ◌<◌, ◌≤◌, Bool, true, false, ◌&&◌, ◌||◌, List, [], ◌∷◌, refl, ap, subst, arith, eqb, ltb, ◌==◌, inl, inr}
use Rattle.std.proofs.lemmas.Bool.{cases_Bool, cases_eq, eqb-true, ltb-true, false≢true}
use Rattle.std.proofs.lemmas.Bool.Decides.{nat_tests}
use Rattle.std.proofs.Math.Nat.{mod-add-div, mod-lt, div-le_self}
use Rattle.std.specs.List.{list_any, list_all}
use Rattle.gf_field.specs.Modular.{IsInTable, IsPrime, primes, is_in_table, IsSameMod, IsUnit}
use Rattle.gf_field.proofs.Mod.{same, next, times, of_mod, multiple}

and_left : (a b : Bool) → (a && b) ≡ true → a ≡ true
and_left true b h = refl
and_left false b h = h

and_right : (a b : Bool) → (a && b) ≡ true → b ≡ true
and_right true b h = h
and_right false b h = absurd (false≢true h)

-- `suc d` is 1 or does not divide `p`
passes : ℕ → ℕ → Bool
passes p d = eqb d 0 || ltb 0 (p % suc d)

passes_tells : (p d : ℕ) → 0 < d → passes p d ≡ true → 0 < p % suc d
unfolding passes
passes_tells p d pos h = grind (arith, nat_tests)

-- no number from 2 to `n` divides `p`
undivided : ℕ → ℕ → Bool
undivided p zero = true
undivided p (suc n) = passes p n && undivided p n

undivided_at : (p n d : ℕ) → undivided p n ≡ true → 1 < d → d ≤ n → p % d ≢ 0
unfolding undivided
undivided_at p zero d h low high = absurd (omega arith)
undivided_at p (suc n) d h low high = elim (cases_eq d (suc n)) [
  | inl e ↦ λ z. let k : 0 < p % suc n = passes_tells p n (omega arith) (and_left _ _ h) in
      let y : p % suc n ≡ 0 = rw e at z in absurd (omega arith)
  | inr ne ↦ undivided_at p n d (and_right _ _ h) low (omega arith)
]

is_prime : ℕ → Bool
is_prime p = ltb 1 p && undivided p (p - 1)

is_prime_tells : (p : ℕ) → is_prime p ≡ true → IsPrime p
unfolding is_prime
is_prime_tells p h = record {
  above_one = ltb-true 1 p (and_left _ _ h);
  no_divisor = λ d low high. undivided_at p (p - 1) d (and_right _ _ h) low (omega arith);
}

-- what passes on the whole list passes at each of its numbers
all_at : (f : ℕ → Bool) (xs : List ℕ) (p : ℕ) → list_all f xs ≡ true → list_any (λ q. q == p) xs ≡ true → f p ≡ true
all_at f [] p h k = absurd (false≢true k)
all_at f (x ∷ xs) p h k = elim (cases_Bool (x == p)) [
  | inl e ↦ subst (λ y. f y ≡ true) (eqb-true x p e) (and_left _ _ h)
  | inr e ↦ all_at f xs p (and_right _ _ h) (rw e at k)
]

table_passes : list_all is_prime primes ≡ true
unfolding primes is_prime undivided passes
table_passes = refl

pub IsPrime-from_table : (p : ℕ) → IsInTable p → IsPrime p
unfolding is_in_table
IsPrime-from_table p h = is_prime_tells p (all_at is_prime primes p table_passes h)

difference : (p q d r x w : ℕ) → d + q ≡ p → w + 1 ≡ x → r + x * q ≡ p → x * d ≡ w * p + r
difference p q d r x w e1 e2 e3 = omega (arith, ap (λ z. x * z) e1, ap (λ z. z * p) e2)

pub step : (p x below : ℕ) → 0 < x → IsSameMod p (p % x * below) 1 → IsSameMod p (x * (below * (p - p / x) % p)) 1
step p x below pos h =
    let q : p / x ≤ p = div-le_self p x in
    let e : x * (p - p / x) ≡ (x - 1) * p + p % x =
    difference p (p / x) (p - p / x) (p % x) x (x - 1) (omega arith) (omega arith) (mod-add-div p x) in
    let f : x * (below * (p - p / x)) ≡ below * (x - 1) * p + p % x * below = grind (arith, ap (λ z. below * z) e) in
    next (times (same {a = x} refl) (of_mod (below * (p - p / x))))
    (next (same f) (next (multiple (below * (x - 1)) (p % x * below)) h))

-- below a prime each number but 0 has an inverse, by Euclid's algorithm
inverse_within : (p : ℕ) → IsPrime p → (n x : ℕ) → x ≤ n → 0 < x → x < p → IsUnit p x
inverse_within p prime zero x low pos high = absurd (omega arith)
inverse_within p prime (suc n) x low pos high = elim (cases_eq x 1) [
  | inl e ↦ (1, same (rw e))
  | inr ne ↦
      let nz : p % x ≢ 0 = prime.no_divisor x (omega arith) high in
      let small : p % x < x = mod-lt p pos in
      let u = inverse_within p prime n (p % x) (omega arith) (omega arith) (omega arith) in
      (u.0 * (p - p / x) % p, step p x u.0 pos u.1)
]

pub IsUnit-below_prime : (p x : ℕ) → IsPrime p → 0 < x → x < p → IsUnit p x
IsUnit-below_prime p x prime pos high = inverse_within p prime x x (omega arith) pos high
