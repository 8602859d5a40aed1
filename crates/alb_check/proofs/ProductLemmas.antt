-- Lists of products.
use Rattle.std.proofs.Common.{◌≡◌, ℕ, zero, suc, ◌<◌, ◌≤◌, ◌==◌, Bool, true, false, ◌&&◌, List, [], ◌∷◌, length, get_or, sym, refl, ap, ◌∙◌, subst, arith, inl, inr, ◌⊎◌}
use Rattle.std.specs.Prelude.{IsTrue}
use Rattle.std.specs.List.{AllPairs}
use Rattle.std.proofs.lemmas.Bool.{cases_Bool}
use Rattle.std.proofs.lemmas.Bool.Decides.{nat_tests}
use Rattle.std.proofs.lemmas.List.{get_or_default}
use Rattle.std.specs.List.Sorted.{IsPartitionedBy, IsPartitionPoint}
use Rattle.alb_mono.specs.Listing.{Each}
use Rattle.alb_rows.specs.Row.{AreCellResidues}
use Rattle.alb_check.specs.declared.product.Product.{Product}
use Rattle.alb_check.specs.Products.{row_at, is_pair_before}

-- the row of a pair has residues
pub row_residues : (p : ℕ) (xs : List Product) (i j : ℕ) → Each (λ x. AreCellResidues p x.row) xs → AreCellResidues p (row_at xs i j)
row_residues p [] i j h = λ k d l. absurd (omega arith)
row_residues p (x ∷ xs) i j h = elim (cases_Bool (x.left == i && x.right == j)) [
  | inl e ↦ rw e h.0
  | inr e ↦ rw e (row_residues p xs i j h.1)
]

-- ---- the place of a pair

abbrev pub is_pair : ℕ → ℕ → Product → Bool
is_pair i j x = x.left == i && x.right == j

pub row_none : (xs : List Product) (i j : ℕ) → ((k : ℕ) (d : Product) → k < length xs → is_pair i j (get_or xs k d) ≡ false) → row_at xs i j ≡ []
row_none [] i j h = refl
row_none (x ∷ xs) i j h =
    let e : (x.left == i && x.right == j) ≡ false = h 0 x (omega arith) in
    rw e (row_none xs i j (λ k d l. h (suc k) d (omega arith)))

pub row_first : (xs : List Product) (i j n : ℕ) (d : Product) → n < length xs → ((k : ℕ) → k < n → is_pair i j (get_or xs k d) ≡ false) →
    is_pair i j (get_or xs n d) ≡ true → row_at xs i j ≡ (get_or xs n d).row
row_first [] i j n d l h e = absurd (omega arith)
row_first (x ∷ xs) i j zero d l h e = rw e refl
row_first (x ∷ xs) i j (suc n) d l h e =
    let q : (x.left == i && x.right == j) ≡ false = h 0 (omega arith) in
    rw q (row_first xs i j n d (omega arith) (λ k m. h (suc k) (omega arith)) e)

pub before_before : (a b c d e f : ℕ) → is_pair_before a b c d ≡ true → is_pair_before c d e f ≡ true → is_pair_before a b e f ≡ true
before_before a b c d e f h k = grind (arith, nat_tests)

pub before_other : (a b i j : ℕ) → is_pair_before a b i j ≡ true → (a == i && b == j) ≡ false
before_other a b i j h = grind (arith, nat_tests)

-- what stands after a pair that is not before (i, j) and is another one is not (i, j)
later_other : (a b c d i j : ℕ) → is_pair_before a b c d ≡ true → is_pair_before a b i j ≡ false → (c == i && d == j) ≡ false
later_other a b c d i j h k = grind (arith, nat_tests)

module _ (xs : List Product) (i j : ℕ) (ascending : AllPairs (λ x y. IsTrue (is_pair_before x.left x.right y.left y.right)) xs) where
  pub parted : IsPartitionedBy (λ x. is_pair_before x.left x.right i j) xs
  parted m n d l s h = elim (split m n l) [
    | inl e ↦ subst (λ q. is_pair_before (get_or xs q d).left (get_or xs q d).right i j ≡ true) (sym e) h
    | inr e ↦ before_before (get_or xs m d).left (get_or xs m d).right (get_or xs n d).left (get_or xs n d).right i j (ascending m n d e s) h
  ]
    where
      split : (m n : ℕ) → m ≤ n → (m ≡ n) ⊎ (m < n)
      split m n l = grind arith

  module _ (at : ℕ) (point : IsPartitionPoint (λ x. is_pair_before x.left x.right i j ≡ true) (λ x. is_pair_before x.left x.right i j ≡ false) xs at) where
    before : (k : ℕ) (d : Product) → k < length xs → k < at → is_pair i j (get_or xs k d) ≡ false
    before k d l h = before_other (get_or xs k d).left (get_or xs k d).right i j (point.0 k d (omega arith) h)

    pub at_end : length xs ≤ at → row_at xs i j ≡ []
    at_end l = row_none xs i j (λ k d m. before k d m (omega arith))

    pub at_pair : (x : Product) → at < length xs → x ≡ get_or xs at x → is_pair i j x ≡ true → row_at xs i j ≡ x.row
    at_pair x l is e = row_first xs i j at x l (λ k h. before k x (omega arith) h) (subst (λ y. is_pair i j y ≡ true) is e) ∙ ap (λ y. y.row) (sym is)

    pub at_other : (x : Product) → at < length xs → x ≡ get_or xs at x → is_pair i j x ≡ false → row_at xs i j ≡ []
    at_other x l is e = row_none xs i j (λ k d m. elim (place k) [
      | inl h ↦ before k d m h
      | inr h ↦ elim h [
        | inl q ↦ subst (λ n. is_pair i j (get_or xs n d) ≡ false) (sym q) (subst (λ y. is_pair i j y ≡ false) (is ∙ get_or_default xs at x d l) e)
        | inr q ↦ later k d m q
      ]
    ])
      where
        place : (k : ℕ) → (k < at) ⊎ ((k ≡ at) ⊎ (at < k))
        place k = grind arith

        later : (k : ℕ) (d : Product) → k < length xs → at < k → is_pair i j (get_or xs k d) ≡ false
        later k d m q = later_other (get_or xs at d).left (get_or xs at d).right (get_or xs k d).left (get_or xs k d).right i j
            (ascending at k d q m) (point.1 at d (omega arith) l)
