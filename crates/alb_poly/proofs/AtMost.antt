-- Monomials that are at most a target, and their degrees.
use Rattle.std.proofs.Common.{◌≡◌, ℕ, zero, suc, ◌+◌, ◌<◌, ◌≤◌, true, false, List, [], ◌∷◌, length, sum, refl, arith, inl, inr, eqb, leb}
use Rattle.std.specs.Bool.{if◌then◌else◌, IsTrue, ◌==◌}
use Rattle.std.proofs.lemmas.Bool.{cases_eq}
use Rattle.std.proofs.lemmas.Bool.Decides.{nat_tests}
use Rattle.alb_mono.specs.Listing.{Each}
use Rattle.alb_mono.specs.Tree.{Tree, leaf, node, degree, count, listed, type_of, type_le, AreBelow}
use Rattle.alb_mono.proofs.Both.{and_left, and_right}
use Rattle.alb_poly.specs.Poly.{Poly}
use Rattle.alb_poly.specs.Instance.{total_from, IsAtMost, IsWithin}
use Rattle.alb_poly.proofs.Multilinear.{sum_cons}
use Rattle.alb_poly.proofs.Terms.{of_terms}

-- ---- degrees within a target

pub run-plus_both : (f g : ℕ → ℕ) (k n : ℕ) → total_from (λ i. f i + g i) k n ≡ total_from f k n + total_from g k n
run-plus_both f g k zero = refl
run-plus_both f g k (suc n) = omega (arith, run-plus_both f g (suc k) n)

run-here : (k i n : ℕ) → i ≤ k → k < i + n → 1 ≤ total_from (λ g. if k == g then 1 else 0) i n
run-here k i zero h l = absurd (omega arith)
run-here k i (suc n) h l = elim (cases_eq k i) [
  | inl e ↦ let q : eqb k i ≡ true = grind (arith, nat_tests) in rw q (omega arith)
  | inr e ↦ let q : eqb k i ≡ false = grind (arith, nat_tests) in rw q (omega (arith, run-here k (suc i) n (omega arith) (omega arith)))
]

pub degree-counts : (n : ℕ) (m : Tree) → AreBelow n m → degree m ≤ total_from (λ g. count g m) 0 n
degree-counts n (leaf k) h = run-here k 0 n (omega arith) (omega arith)
degree-counts n (node l r) h = omega (arith, degree-counts n l h.0, degree-counts n r h.1, run-plus_both (λ g. count g l) (λ g. count g r) 0 n)

pub run-at_most : (f : ℕ → ℕ) (k : ℕ) (target : List ℕ) → IsTrue (type_le (listed f k (length target)) target) → total_from f k (length target) ≤ sum target
run-at_most f k [] h = omega arith
run-at_most f k (x ∷ target) h =
    let a : IsTrue (leb (f k) x) = and_left _ _ h in
    let b : f k ≤ x = grind (arith, nat_tests) in
    omega (arith, run-at_most f (suc k) target (and_right _ _ h), sum_cons x target)

-- the degree of a monomial that is at most the target is at most the target's
pub degree-at_most : (target : List ℕ) (m : Tree) → IsAtMost target m → degree m ≤ sum target
unfolding type_of
degree-at_most target m h = omega (arith, degree-counts (length target) m h.below, run-at_most (λ g. count g m) 0 target h.counts)

-- a polynomial whose terms are at most the target is within it
pub IsWithin-terms : (p : ℕ) (target : List ℕ) (g : Poly) → 0 < p → Each (λ t. IsAtMost target t.1) g → IsWithin p target g
IsWithin-terms p target g pos h m ne = of_terms (IsAtMost target) p g pos h m ne
