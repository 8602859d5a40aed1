-- A test whether two monomials have one type.
use Rattle.std.proofs.Common.{◌≡◌, ℕ, zero, suc, ◌+◌, ◌<◌, ◌≤◌, Bool, true, false, List, length, sym, refl, ap, ◌∙◌, arith, inl, inr, eqb, ◌&&◌}
use Rattle.std.specs.Bool.{◌==◌}
use Rattle.std.proofs.lemmas.Bool.{cases_Bool, cases_eq, cases_lt, false≢true, eqb-true, eq-eqb}
use Rattle.std.proofs.lemmas.Bool.Decides.{nat_tests}
use Rattle.alb_mono.specs.Tree.{Tree, leaf, node, count, type_of}
use Rattle.alb_mono.proofs.Both.{and_left, and_right}
use Rattle.alb_poly.specs.Instance.{IsMultilinear, fill}
use Rattle.alb_poly.proofs.Multilinear.{leaves-multilinear}
use Rattle.alb_poly.proofs.Parts.{count-leaves, count-within, listed-equal}
use Rattle.alb_mono.specs.declared.side.Side.{Side}
use Rattle.alb_poly.specs.Consequence.{within}
use Rattle.gf_sums.specs.Sums.{total}
use Rattle.alb_table.specs.Right.{SameType}

pub type-itself : (x : Tree) → SameType x x
type-itself x = record { counts = λ k. refl }

pub type-turned : {x y : Tree} → SameType x y → SameType y x
type-turned h = record { counts = λ k. sym (h.counts k) }

pub type-joined : {x y z : Tree} → SameType x y → SameType y z → SameType x z
type-joined h g = record { counts = λ k. h.counts k ∙ g.counts k }

pub type-node : {l r l' r' : Tree} → SameType l l' → SameType r r' → SameType (node l r) (node l' r')
type-node h g = record { counts = λ k. rw (h.counts k, g.counts k) }

-- the types are equal as lists
pub type-listed : (n : ℕ) (x y : Tree) → SameType x y → type_of n x ≡ type_of n y
unfolding type_of
type-listed n x y h = listed-equal _ _ 0 n h.counts

-- above every generator
abbrev bound : Tree → ℕ
bound (leaf k) = suc k
bound (node l r) = bound l + bound r

count-past : (k : ℕ) (m : Tree) → bound m ≤ k → count k m ≡ 0
count-past k (leaf j) h = let e : eqb j k ≡ false = grind (arith, nat_tests) in rw e
count-past k (node l r) h = omega (arith, count-past k l (omega arith), count-past k r (omega arith))

-- equal counts of the generators below `n`
abbrev agree : ℕ → Tree → Tree → Bool
agree zero x y = true
agree (suc n) x y = count n x == count n y && agree n x y

pub same_type : Tree → Tree → Bool
same_type x y = agree (bound x + bound y) x y

agree-all : (n : ℕ) (x y : Tree) → SameType x y → agree n x y ≡ true
agree-all zero x y h = refl
agree-all (suc n) x y h = rw (eq-eqb _ _ (h.counts n), agree-all n x y h)

agree-below : (n : ℕ) (x y : Tree) → agree n x y ≡ true → (k : ℕ) → k < n → count k x ≡ count k y
agree-below zero x y h k l = absurd (omega arith)
agree-below (suc n) x y h k l = elim (cases_eq k n) [
  | inl e ↦ rw e (eqb-true _ _ (and_left _ _ h))
  | inr e ↦ agree-below n x y (and_right _ _ h) k (omega arith)
]

pub same_type-whole : (x y : Tree) → SameType x y → same_type x y ≡ true
unfolding same_type
same_type-whole x y h = agree-all (bound x + bound y) x y h

pub same_type-sound : (x y : Tree) → same_type x y ≡ true → SameType x y
unfolding same_type
same_type-sound x y h = record {
  counts = λ k. elim (cases_lt k (bound x + bound y)) [
    | inl l ↦ agree-below _ x y h k l
    | inr g ↦ count-past k x (omega arith) ∙ sym (count-past k y (omega arith))
  ];
}

-- the test depends on the type alone
pub same_type-respects : (z x y : Tree) → SameType x y → same_type z x ≡ same_type z y
same_type-respects z x y h = elim (cases_Bool (same_type z x)) [
  | inl a ↦ a ∙ sym (same_type-whole z y (type-joined (same_type-sound z x a) h))
  | inr a ↦ elim (cases_Bool (same_type z y)) [
    | inl b ↦ absurd (false≢true (sym a ∙ same_type-whole z x (type-joined (same_type-sound z y b) (type-turned h))))
    | inr b ↦ a ∙ sym b
  ]
]

-- the monomials of an item have one type
pub type-within : (c : List (Side × Tree)) (ms : List Tree) (x y : Tree) → IsMultilinear (length ms) x → IsMultilinear (length ms) y →
    SameType (within c (fill ms x)) (within c (fill ms y))
type-within c ms x y h g = record {
  counts = λ k.
      count-within k c (fill ms x)
      ∙ ap (λ n. total (λ s. count k s.1) c + n)
      (count-leaves k (fill ms x) ∙ leaves-multilinear _ ms x h ∙ sym (leaves-multilinear _ ms y g) ∙ sym (count-leaves k (fill ms y)))
      ∙ sym (count-within k c (fill ms y));
}
