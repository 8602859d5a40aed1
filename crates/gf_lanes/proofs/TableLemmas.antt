-- The size of the fields.
use Rattle.std.proofs.Common.{◌≡◌, ℕ, ◌≤◌, Bool, true, false, ◌&&◌, List, [], ◌∷◌, refl, subst, leb, ◌==◌, inl, inr}
use Rattle.std.proofs.lemmas.Bool.{cases_Bool, eqb-true, leb-true, false≢true}
use Rattle.std.specs.List.{list_any, list_all}
use Rattle.gf_field.specs.Modular.{IsInTable, primes, is_in_table}

and_left : (a b : Bool) → (a && b) ≡ true → a ≡ true
and_left true b h = refl
and_left false b h = h

and_right : (a b : Bool) → (a && b) ≡ true → b ≡ true
and_right true b h = h
and_right false b h = absurd (false≢true h)

all_at : (f : ℕ → Bool) (xs : List ℕ) (p : ℕ) → list_all f xs ≡ true → list_any (λ q. q == p) xs ≡ true → f p ≡ true
all_at f [] p h k = absurd (false≢true k)
all_at f (x ∷ xs) p h k = elim (cases_Bool (x == p)) [
  | inl e ↦ subst (λ y. f y ≡ true) (eqb-true x p e) (and_left _ _ h)
  | inr e ↦ all_at f xs p (and_right _ _ h) (rw e at k)
]

table_is_small : list_all (λ p. leb p 256) primes ≡ true
unfolding primes
table_is_small = refl

-- no field of the table has more than 256 elements
pub small_from_table : (p : ℕ) → IsInTable p → p ≤ 256
unfolding is_in_table
small_from_table p h = leb-true p 256 (all_at (λ q. leb q 256) primes p table_is_small h)
