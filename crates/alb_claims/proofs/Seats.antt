-- Facts on lists of views.
use Rattle.std.proofs.Common.{◌≡◌, ℕ, zero, suc, ◌+◌, ◌*◌, ◌<◌, ◌≤◌, List, [], ◌∷◌, length, set, sym, refl, ap, arith}
use Rattle.std.specs.List.{sum_by}
use Rattle.std.proofs.lemmas.List.Sums.{sum_by-cons}
use mathlib.Core.Option.{some, some-injective, some-ne-none}
use lib.ListN.{get_elem?}

module _ {A : Type 0} where
  pub sum_set : (f : A → ℕ) (vs : List A) (i : ℕ) (v w : A) → get_elem? vs i ≡ some v → sum_by f (set vs i w) + f v ≡ sum_by f vs + f w
  sum_set f [] i v w e = absurd (some-ne-none v (sym e))
  sum_set f (x ∷ xs) zero v w e = let same : f x ≡ f v = ap f (some-injective x v e) in omega (arith, sum_by-cons f w xs, sum_by-cons f x xs)
  sum_set f (x ∷ xs) (suc i) v w e = let rec = sum_set f xs i v w e in omega (arith, rec, sum_by-cons f x (set xs i w), sum_by-cons f x xs)

  pub sum_most : (f : A → ℕ) (vs : List A) (most : ℕ) → ((i : ℕ) (v : A) → get_elem? vs i ≡ some v → f v ≤ most) → sum_by f vs ≤ length vs * most
  sum_most f [] most all = omega arith
  sum_most f (x ∷ xs) most all = let here = all 0 x refl in let rec = sum_most f xs most (λ i v e. all (suc i) v e) in omega (arith, here, rec, sum_by-cons f x xs)

  pub within : (vs : List A) (i : ℕ) (v : A) → get_elem? vs i ≡ some v → i < length vs
  within [] i v e = absurd (some-ne-none v (sym e))
  within (x ∷ xs) zero v e = omega arith
  within (x ∷ xs) (suc i) v e = let rec = within xs i v e in omega arith

  pub one_of : (f : A → ℕ) (vs : List A) (i : ℕ) (v : A) → get_elem? vs i ≡ some v → f v ≤ sum_by f vs
  one_of f [] i v e = absurd (some-ne-none v (sym e))
  one_of f (x ∷ xs) zero v e = let same : f x ≡ f v = ap f (some-injective x v e) in omega (arith, same, sum_by-cons f x xs)
  one_of f (x ∷ xs) (suc i) v e = let rec = one_of f xs i v e in omega (arith, rec, sum_by-cons f x xs)
