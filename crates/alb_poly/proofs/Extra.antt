-- Small laws: sums over permutations, factorials as units, the number of orders.
use Rattle.std.proofs.Common.{◌≡◌, ℕ, zero, suc, ◌+◌, ◌*◌, ◌<◌, List, [], ◌∷◌, sym, refl, ap, ◌∙◌, arith, IsPermutation}
use Rattle.std.specs.List.{sum_by}
use Rattle.std.proofs.lemmas.List.Sums.{sum_by-cons}
use Rattle.std.proofs.lemmas.List.Sorted.{sum_by-IsPermutation}
use Rattle.gf_field.specs.Modular.{IsPrime, IsUnit}
use Rattle.gf_field.proofs.Mod.{same, unit_times}
use Rattle.gf_field.proofs.Table.{IsUnit-below_prime}
use Rattle.gf_sums.specs.Sums.{total}
use Rattle.alb_poly.proofs.Multilinear.{IsOrder}

pub total-sum_by : {X : Type 0} (f : X → ℕ) (xs : List X) → total f xs ≡ sum_by f xs
total-sum_by f [] = refl
total-sum_by f (x ∷ xs) = ap (λ n. f x + n) (total-sum_by f xs) ∙ sym (sum_by-cons f x xs)

-- a permutation is an order
pub order-permutation : {X : Type 0} (xs ys : List X) → IsPermutation xs ys → IsOrder xs ys
order-permutation xs ys h w = total-sum_by w ys ∙ sum_by-IsPermutation w xs ys h ∙ sym (total-sum_by w xs)

abbrev pub factorial : ℕ → ℕ
factorial zero = 1
factorial (suc n) = suc n * factorial n

-- below a prime, factorials have inverses
pub unit_factorial : (p n : ℕ) → IsPrime p → n < p → IsUnit p (factorial n)
unit_factorial p zero prime h = (1, same refl)
unit_factorial p (suc n) prime h = unit_times (suc n) (factorial n) (IsUnit-below_prime p (suc n) prime (omega arith) h) (unit_factorial p n prime (omega arith))
