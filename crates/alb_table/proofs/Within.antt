-- Types within a target.
use Rattle.std.proofs.Common.{◌≡◌, ℕ, zero, suc, ◌+◌, ◌<◌, ◌≤◌, Bool, true, false, List, [], ◌∷◌, length, sym, refl, ap, ◌∙◌, subst, arith, inl, inr, ◌⊎◌, eqb, get_or}
use Rattle.std.specs.Bool.{IsTrue}
use Rattle.std.specs.Prelude.{nat_le}
use Rattle.std.proofs.lemmas.Bool.{cases_eq, cases_lt}
use Rattle.std.proofs.lemmas.Bool.Decides.{nat_tests}
use Rattle.alb_mono.specs.Tree.{Tree, leaf, node, degree, count, listed, type_of, type_le, AreBelow}
use Rattle.alb_poly.specs.Instance.{total_from}
use Rattle.alb_mono.proofs.Leaves.{below_from_test}
use Rattle.alb_mono.proofs.Both.{and_left, and_right}
pub use Rattle.alb_linear.proofs.LinearLemmas.{test_from_below}
use Rattle.alb_table.specs.Right.{SameType, IsOfType, IsWithinDegree}
use Rattle.alb_table.proofs.Types.{type-turned, type-listed}
use Rattle.alb_table.proofs.Bases.{IsClosed, IsNext, IsBlock}

-- no generator from `n` on occurs
pub none-past : (n k : ℕ) (m : Tree) → AreBelow n m → n ≤ k → count k m ≡ 0
none-past n k (leaf j) h l = let e : eqb j k ≡ false = grind (arith, nat_tests) in rw e
none-past n k (node a b) h l = omega (arith, none-past n k a h.0 l, none-past n k b h.1 l)

below-none : (n : ℕ) (m : Tree) → ((k : ℕ) → n ≤ k → count k m ≡ 0) → AreBelow n m
below-none n (leaf j) h = elim (cases_lt j n) [
  | inl l ↦ l
  | inr g ↦ let e : eqb j j ≡ true = grind (arith, nat_tests) in absurd (omega (arith, rw e at (h j g)))
]
below-none n (node a b) h = (below-none n a (λ k l. omega (arith, h k l)), below-none n b (λ k l. omega (arith, h k l)))

pub below-same : (n : ℕ) (x y : Tree) → SameType x y → AreBelow n x → AreBelow n y
below-same n x y s h = below-none n y (λ k l. sym (s.counts k) ∙ none-past n k x h l)

pub run-equal : (v w : ℕ → ℕ) (k n : ℕ) → ((j : ℕ) → v j ≡ w j) → total_from v k n ≡ total_from w k n
run-equal v w k zero h = refl
run-equal v w k (suc n) h = rw (h k, run-equal v w (suc k) n h)

run-sum : (v w : ℕ → ℕ) (k n : ℕ) → total_from (λ j. v j + w j) k n ≡ total_from v k n + total_from w k n
run-sum v w k zero = refl
run-sum v w k (suc n) = omega (arith, run-sum v w (suc k) n)

run-absent : (j k n : ℕ) → j < k → total_from (λ i. count i (leaf j)) k n ≡ 0
run-absent j k zero h = refl
run-absent j k (suc n) h = let e : eqb j k ≡ false = grind (arith, nat_tests) in rw e (omega (arith, run-absent j (suc k) n (omega arith)))

run-once : (j k n : ℕ) → k ≤ j → j < k + n → total_from (λ i. count i (leaf j)) k n ≡ 1
run-once j k zero h l = absurd (omega arith)
run-once j k (suc n) h l = elim (cases_eq j k) [
  | inl e ↦ let q : eqb j k ≡ true = grind (arith, nat_tests) in rw q (omega (arith, run-absent j (suc k) n (omega arith)))
  | inr e ↦ let q : eqb j k ≡ false = grind (arith, nat_tests) in rw q (omega (arith, run-once j (suc k) n (omega arith) (omega arith)))
]

-- the degree is the sum of the counts
pub degree-counts : (n : ℕ) (m : Tree) → AreBelow n m → total_from (λ i. count i m) 0 n ≡ degree m
degree-counts n (leaf j) h = run-once j 0 n (omega arith) (omega arith)
degree-counts n (node l r) h = run-sum (λ i. count i l) (λ i. count i r) 0 n ∙ rw (degree-counts n l h.0, degree-counts n r h.1)

top_letter : Tree → ℕ
top_letter (leaf k) = suc k
top_letter (node l r) = top_letter l + top_letter r

pub below-more : (n k : ℕ) (m : Tree) → n ≤ k → AreBelow n m → AreBelow k m
below-more n k (leaf j) h b = omega arith
below-more n k (node l r) h b = (below-more n k l h b.0, below-more n k r h b.1)

below-top : (m : Tree) → AreBelow (top_letter m) m
unfolding top_letter
below-top (leaf k) = omega arith
below-top (node l r) = (
  below-more (top_letter l) (top_letter l + top_letter r) l (omega arith) (below-top l),
  below-more (top_letter r) (top_letter l + top_letter r) r (omega arith) (below-top r),
)

pub degree-same : (x y : Tree) → SameType x y → degree x ≡ degree y
degree-same x y s =
    let n = top_letter x in
    sym (degree-counts n x (below-top x)) ∙ run-equal _ _ 0 n s.counts ∙ degree-counts n y (below-same n x y s (below-top x))

-- smaller counts are within the same target
le-listed : (f g : ℕ → ℕ) (k n : ℕ) (u : List ℕ) → ((j : ℕ) → f j ≤ g j) → type_le (listed g k n) u ≡ true → type_le (listed f k n) u ≡ true
le-listed f g k zero u h e = refl
le-listed f g k (suc n) [] h e = refl
le-listed f g k (suc n) (x ∷ u) h e =
    let l : f k ≤ g k = h k in
    let rest : Bool = type_le (listed g (suc k) n) u in
    let a : nat_le (g k) x ≡ true = and_left (nat_le (g k) x) rest e in
    let q : nat_le (f k) x ≡ true = grind (arith, nat_tests) in
    rw q (le-listed f g (suc k) n u h (and_right (nat_le (g k) x) rest e))

pub le-factor : (n : ℕ) (m x : Tree) (u : List ℕ) → ((j : ℕ) → count j x ≤ count j m) → type_le (type_of n m) u ≡ true → type_le (type_of n x) u ≡ true
unfolding type_of
le-factor n m x u h e = le-listed _ _ 0 n u h e

pub degree-positive : (m : Tree) → 1 ≤ degree m
degree-positive (leaf k) = omega arith
degree-positive (node l r) = omega (arith, degree-positive l)

module _ (target : List ℕ) (d : ℕ) where
  within-left : (l r : Tree) → IsWithinDegree target d (node l r) → IsWithinDegree target d l
  within-left l r h = record { below = and_left _ _ h.below; type = le-factor (length target) (node l r) l target (λ j. omega arith) h.type; degree = omega (arith, h.degree, degree-positive r) }

  within-right : (l r : Tree) → IsWithinDegree target d (node l r) → IsWithinDegree target d r
  within-right l r h = record { below = and_right _ _ h.below; type = le-factor (length target) (node l r) r target (λ j. omega arith) h.type; degree = omega (arith, h.degree, degree-positive l) }

  pub within-same : (x y : Tree) → SameType x y → IsWithinDegree target d x → IsWithinDegree target d y
  within-same x y s h = record {
    below = test_from_below (length target) y (below-same (length target) x y s (below_from_test (length target) x h.below));
    type = subst (λ t. IsTrue (type_le t target)) (type-listed (length target) x y s) h.type;
    degree = subst (λ n. n ≤ d) (degree-same x y s) h.degree;
  }

  pub within-closed : IsClosed (IsWithinDegree target d)
  within-closed = record { left = within-left; right = within-right; respects = within-same }

  pub within-more : (m : Tree) → IsWithinDegree target d m → IsWithinDegree target (d + 1) m
  within-more m h = record { below = h.below; type = h.type; degree = omega (arith, h.degree) }

  -- a monomial of the next degree, or one of the table
  pub within-cases : (m : Tree) → IsWithinDegree target (d + 1) m → IsWithinDegree target d m ⊎ (degree m ≡ d + 1)
  within-cases m h = elim (cases_lt d (degree m)) [
    | inl l ↦ inr (omega (arith, h.degree))
    | inr g ↦ inl (record { below = h.below; type = h.type; degree = g })
  ]

  -- the monomials of one type of the next degree are products of monomials of the table
  pub within-block : (z : Tree) → 1 ≤ d → IsWithinDegree target (d + 1) z → degree z ≡ d + 1 → IsBlock (IsWithinDegree target d) z
  within-block z pos h e = record { next = λ x s. factors x (omega (arith, degree-same x z s)) (same_within x s) }
    where
      same_within : (x : Tree) → SameType x z → IsWithinDegree target (d + 1) x
      same_within x s = record {
        below = test_from_below (length target) x (below-same (length target) z x (type-turned s) (below_from_test (length target) z h.below));
        type = subst (λ t. IsTrue (type_le t target)) (type-listed (length target) z x (type-turned s)) h.type;
        degree = omega (arith, degree-same x z s, h.degree);
      }

      factors : (x : Tree) → degree x ≡ d + 1 → IsWithinDegree target (d + 1) x → IsNext (IsWithinDegree target d) x
      factors (leaf k) q w = absurd (omega arith)
      factors (node l r) q w = (
        record { below = and_left _ _ w.below; type = le-factor (length target) (node l r) l target (λ j. omega arith) w.type; degree = omega (arith, degree-positive r) },
        record { below = and_right _ _ w.below; type = le-factor (length target) (node l r) r target (λ j. omega arith) w.type; degree = omega (arith, degree-positive l) },
      )

-- ---- monomials of one type

pub get-listed : (f : ℕ → ℕ) (k n j : ℕ) → j < n → get_or (listed f k n) j 0 ≡ f (k + j)
get-listed f k zero j h = absurd (omega arith)
get-listed f k (suc n) zero h = let e : k ≡ k + 0 = omega arith in ap f e
get-listed f k (suc n) (suc j) h = let e : suc k + j ≡ k + suc j = omega arith in get-listed f (suc k) n j (omega arith) ∙ ap f e

count-type_of : (n k : ℕ) (m : Tree) → k < n → get_or (type_of n m) k 0 ≡ count k m
unfolding type_of
count-type_of n k m h = get-listed (λ g. count g m) 0 n k h ∙ (let e : 0 + k ≡ k = omega arith in ap (λ g. count g m) e)

-- equal lists of counts give one type
pub listed-same : (n : ℕ) (x y : Tree) → AreBelow n x → AreBelow n y → type_of n x ≡ type_of n y → SameType x y
listed-same n x y h g e = record {
  counts = λ k. elim (cases_lt k n) [
    | inl l ↦ sym (count-type_of n k x l) ∙ ap (λ t. get_or t k 0) e ∙ count-type_of n k y l
    | inr p ↦ none-past n k x h p ∙ sym (none-past n k y g p)
  ];
}

pub of_type-same : (t : List ℕ) (x y : Tree) → IsOfType t x → IsOfType t y → SameType x y
of_type-same t x y h g = listed-same (length t) x y (below_from_test (length t) x h.below) (below_from_test (length t) y g.below) (h.counts ∙ sym g.counts)

pub same-of_type : (t : List ℕ) (x y : Tree) → SameType x y → IsOfType t x → IsOfType t y
same-of_type t x y s h = record {
  below = test_from_below (length t) y (below-same (length t) x y s (below_from_test (length t) x h.below));
  counts = sym (type-listed (length t) x y s) ∙ h.counts;
}
