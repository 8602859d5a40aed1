-- Lists whose monomials descend.
use Rattle.std.proofs.Common.{◌≡◌, ℕ, zero, suc, ◌+◌, ◌<◌, ◌≤◌, true, false, List, [], ◌∷◌, length, get_or, sum, sym, refl, ap, subst, ◌∙◌, arith, inl, inr, All, replicate}
use Rattle.std.specs.Ordering.{is_lt, nat_cmp, ordering_then}
use Rattle.std.specs.Cmp.Lexicographic.{slice_cmp}
use Rattle.std.specs.declared.cmp.Ordering.{Ordering}
use Rattle.std.specs.declared.cmp.Ordering.TheVariants.{Less, Equal, Greater}
use Rattle.std.proofs.lemmas.Bool.{cases_Bool}
use Rattle.std.proofs.lemmas.Bool.Decides.{nat_tests}
use Rattle.std.proofs.lemmas.Cmp.{tied_itself, nat_cmp_total, lists_total}
use Rattle.std.proofs.lemmas.List.Elements.{All-cons, All-nil}
use Rattle.std.proofs.lemmas.List.Sums.{sum_by-cons}
use Rattle.gf_sums.specs.Sums.{AllBefore, coefficient, reindex}
use Rattle.alb_mono.specs.Tree.{tree, Tree, node, degree, are_below, type_of, type_plus, cmp_types, cmp_trees, cmp_monos, same_tree}
use Rattle.alb_mono.specs.declared.side.Side.{Side}
use Rattle.alb_mono.specs.declared.side.Side.TheVariants.{Left, Right}
use Rattle.alb_mono.proofs.Leaves.{length-type_of, plus-node, plus_replicate}
use Rattle.std.proofs.lemmas.List.{length-replicate}
use Rattle.alb_mono.proofs.Order.{cmp_monos_total, product_left, product_right}
use Rattle.alb_poly.specs.Consequence.{beside}
use Rattle.alb_poly.specs.Poly.{Poly, IsDescending}
use Rattle.alb_poly.specs.Sorted.{comes_first, AreSorted}
use Rattle.alb_poly.specs.Terms.{term, terms, multiples}
use Rattle.alb_poly.specs.declared.term.Term.{Term}
use Rattle.alb_poly.proofs.Consequence.{tree_tells}
use Rattle.alb_poly.proofs.NormalLemmas.{less_greater}

-- ---- the terms' own bounds

pub small_terms : (ts : List Term) → All (λ t. degree t.1 ≤ 64) (terms ts)
small_terms [] = All-nil _
small_terms (t ∷ ts) = All-cons (λ t. degree t.1 ≤ 64) (term t) (terms ts) t.small (small_terms ts)

pub letters_terms : (ts : List Term) → All (λ t. are_below 26 t.1 ≡ true) (terms ts)
letters_terms [] = All-nil _
letters_terms (t ∷ ts) = All-cons (λ t. are_below 26 t.1 ≡ true) (term t) (terms ts) t.letters (letters_terms ts)

-- ---- descending lists are in order

-- strictly descending, whatever the coefficients
abbrev pub Falls : Poly → Type 0
Falls [] = Unit {0}
Falls (t ∷ f) = AllBefore cmp_monos t.1 f × Falls f

pub descending-falls : (f : Poly) → IsDescending f → Falls f
descending-falls [] h = tt
descending-falls (t ∷ f) h = (h.1, descending-falls f h.2)

before-multiples : (p c : ℕ) (m : Tree) (f : Poly) → AllBefore cmp_monos m f → AllBefore cmp_monos m (multiples p c f)
before-multiples p c m [] h = tt
before-multiples p c m (t ∷ f) h = (h.0, before-multiples p c m f h.1)

pub falls-multiples : (p c : ℕ) (f : Poly) → Falls f → Falls (multiples p c f)
falls-multiples p c [] h = tt
falls-multiples p c (t ∷ f) h = (before-multiples p c t.1 f h.0, falls-multiples p c f h.1)

not_first : (m n : Tree) → cmp_monos n m ≡ Less → is_lt (cmp_monos m n) ≡ false
not_first m n h = rw (less_greater n m h) refl

falls_index : (ts : List Term) → Falls (terms ts) → (k : ℕ) (d : Term) → suc k < length ts → comes_first (get_or ts (suc k) d) (get_or ts k d) ≡ false
falls_index [] f k d h = absurd (omega arith)
falls_index (t ∷ []) f k d h = absurd (omega arith)
falls_index (t ∷ u ∷ ts) f zero d h = not_first (tree t.mono) (tree u.mono) f.0.0
falls_index (t ∷ u ∷ ts) f (suc k) d h = falls_index (u ∷ ts) f.1 k d (omega arith)

pub falls-sorted : (ts : List Term) → Falls (terms ts) → AreSorted ts
falls-sorted ts f k d low high =
    let e : k + 1 ≡ suc k = omega arith in
    rw e (falls_index ts f k d (omega arith))

-- ---- the coefficient at a monomial

other : (m n : Tree) → cmp_monos m n ≡ Less → same_tree m n ≡ false
other m n h = elim (cases_Bool (same_tree m n)) [
  | inl e ↦ (let q : cmp_monos m n ≡ Equal = ap (λ k. cmp_monos k n) (tree_tells.sound m n e) ∙ tied_itself cmp_monos_total n in absurd (cc))
  | inr e ↦ e
]

absent : (m : Tree) (f : Poly) → AllBefore cmp_monos m f → coefficient same_tree f m ≡ 0
absent m [] h = refl
absent m (t ∷ f) h = rw (other t.1 m h.0) (omega (arith, absent m f h.1))

pub coefficient_none : (ts : List Term) (m : Tree) → ((k : ℕ) (d : Term) → k < length ts → same_tree (tree (get_or ts k d).mono) m ≡ false) → coefficient same_tree (terms ts) m ≡ 0
coefficient_none [] m h = refl
coefficient_none (t ∷ ts) m h =
    let e : same_tree (tree t.mono) m ≡ false = h 0 t (omega arith) in
    rw e (omega (arith, coefficient_none ts m (λ k d l. h (suc k) d (omega arith))))

pub coefficient_index : (ts : List Term) (m : Tree) → Falls (terms ts) → (k : ℕ) (d : Term) → k < length ts → same_tree (tree (get_or ts k d).mono) m ≡ true →
    coefficient same_tree (terms ts) m ≡ (get_or ts k d).coef
coefficient_index [] m f k d h e = absurd (omega arith)
coefficient_index (t ∷ ts) m f zero d h e =
    let q : coefficient same_tree (terms ts) m ≡ 0 = subst (λ n. coefficient same_tree (terms ts) n ≡ 0) (tree_tells.sound (tree t.mono) m e) (absent (tree t.mono) (terms ts) f.0) in
    rw e (omega arith)
coefficient_index (t ∷ ts) m f (suc k) d h e =
    let q : same_tree (tree t.mono) m ≡ false = later (tree t.mono) m ts k d (omega arith) f.0 e in
    rw q (omega (arith, coefficient_index ts m f.1 k d (omega arith) e))
  where
    before_at : (m : Tree) (ts : List Term) (k : ℕ) (d : Term) → k < length ts → AllBefore cmp_monos m (terms ts) → cmp_monos (tree (get_or ts k d).mono) m ≡ Less
    before_at m [] k d h f = absurd (omega arith)
    before_at m (t ∷ ts) zero d h f = f.0
    before_at m (t ∷ ts) (suc k) d h f = before_at m ts k d (omega arith) f.1

    later : (n m : Tree) (ts : List Term) (k : ℕ) (d : Term) → k < length ts → AllBefore cmp_monos n (terms ts) → same_tree (tree (get_or ts k d).mono) m ≡ true → same_tree n m ≡ false
    later n m ts k d h f e = elim (cases_Bool (same_tree n m)) [
      | inl q ↦ (let u : cmp_monos m n ≡ Less = ap (λ x. cmp_monos x n) (sym (tree_tells.sound _ m e)) ∙ before_at n ts k d h f in
          let v : cmp_monos m n ≡ Equal = ap (cmp_monos m) (tree_tells.sound n m q) ∙ tied_itself cmp_monos_total m in absurd (cc))
      | inr q ↦ q
    ]

-- ---- a product with one monomial keeps the order

sum-plus : (xs ys : List ℕ) → length xs ≡ length ys → sum (type_plus xs ys) ≡ sum xs + sum ys
sum-plus [] ys h = omega arith
sum-plus (x ∷ xs) [] h = omega arith
sum-plus (x ∷ xs) (y ∷ ys) h =
    omega (arith, sum_by-cons (λ z. z) (x + y) (type_plus xs ys), sum_by-cons (λ z. z) x xs, sum_by-cons (λ z. z) y ys, sum-plus xs ys (omega arith))

nat_shift : (x y z : ℕ) → nat_cmp (x + z) (y + z) ≡ nat_cmp x y
nat_shift x y z = grind (arith, nat_tests)

lists_shift : (xs ys zs : List ℕ) → length xs ≡ length zs → length ys ≡ length zs → slice_cmp nat_cmp (type_plus xs zs) (type_plus ys zs) ≡ slice_cmp nat_cmp xs ys
lists_shift [] [] zs h k = rw (tied_itself (lists_total nat_cmp_total) zs) refl
lists_shift [] (y ∷ ys) zs h k = absurd (omega arith)
lists_shift (x ∷ xs) [] zs h k = absurd (omega arith)
lists_shift (x ∷ xs) (y ∷ ys) [] h k = absurd (omega arith)
lists_shift (x ∷ xs) (y ∷ ys) (z ∷ zs) h k = rw (nat_shift x y z, lists_shift xs ys zs (omega arith) (omega arith)) refl

pub types_shift : (xs ys zs : List ℕ) → length xs ≡ length zs → length ys ≡ length zs → cmp_types (type_plus xs zs) (type_plus ys zs) ≡ cmp_types xs ys
types_shift xs ys zs h k = rw (sum-plus xs zs h, sum-plus ys zs k, nat_shift (sum xs) (sum ys) (sum zs), lists_shift ys xs zs k h) refl

plus-comm : (xs ys : List ℕ) → length xs ≡ length ys → type_plus xs ys ≡ type_plus ys xs
plus-comm [] [] h = refl
plus-comm [] (y ∷ ys) h = absurd (omega arith)
plus-comm (x ∷ xs) [] h = absurd (omega arith)
plus-comm (x ∷ xs) (y ∷ ys) h = let e : x + y ≡ y + x = omega arith in rw (e, plus-comm xs ys (omega arith)) refl

pub type_of-node : (n : ℕ) (l r : Tree) → type_of n (node l r) ≡ type_plus (type_of n l) (type_of n r)
type_of-node n l r =
    sym (plus_replicate n (node l r)) ∙ sym (plus-node (replicate n 0) n l r (length-replicate {A = ℕ} n 0))
    ∙ ap (λ t. type_plus t (type_of n r)) (plus_replicate n l)

type_of-beside : (n : ℕ) (s : Side) (m x : Tree) → type_of n (beside (s, m) x) ≡ type_plus (type_of n x) (type_of n m)
type_of-beside n Left m x = type_of-node n m x ∙ plus-comm (type_of n m) (type_of n x) (length-type_of n m ∙ sym (length-type_of n x))
type_of-beside n Right m x = type_of-node n x m

lists_equal : (xs ys : List ℕ) → slice_cmp nat_cmp xs ys ≡ Equal → xs ≡ ys
lists_equal [] [] h = refl
lists_equal [] (y ∷ ys) h = absurd (cc)
lists_equal (x ∷ xs) [] h = absurd (cc)
lists_equal (x ∷ xs) (y ∷ ys) h =
    let b = both (nat_cmp x y) (slice_cmp nat_cmp xs ys) h in
    let e : x ≡ y = nat_equal x y b.0 in
    rw (e, lists_equal xs ys b.1) refl
  where
    nat_equal : (x y : ℕ) → nat_cmp x y ≡ Equal → x ≡ y
    nat_equal x y h = grind (arith, nat_tests)

    both : (a b : Ordering) → ordering_then a b ≡ Equal → (a ≡ Equal) × (b ≡ Equal)
    both Less b h = absurd (cc)
    both Equal b h = (refl, h)
    both Greater b h = absurd (cc)

-- types that tie are one
pub types_equal : (xs ys : List ℕ) → cmp_types xs ys ≡ Equal → xs ≡ ys
types_equal xs ys h = sym (lists_equal ys xs (second (nat_cmp (sum xs) (sum ys)) (slice_cmp nat_cmp ys xs) h))
  where
    second : (a b : Ordering) → ordering_then a b ≡ Equal → b ≡ Equal
    second Less b h = absurd (cc)
    second Equal b h = h
    second Greater b h = absurd (cc)

beside_trees : (s : Side) (m x y : Tree) → type_of 26 x ≡ type_of 26 y → cmp_trees x y ≡ Less → cmp_trees (beside (s, m) x) (beside (s, m) y) ≡ Less
beside_trees Left m x y t h = product_right x y m t h
beside_trees Right m x y t h = product_left x y m t h

by_parts : (a b a' b' : Ordering) → a' ≡ a → (a ≡ Equal → b ≡ Less → b' ≡ Less) → ordering_then a b ≡ Less → ordering_then a' b' ≡ Less
by_parts Less b a' b' e k h = rw e refl
by_parts Equal b a' b' e k h = rw e (k refl h)
by_parts Greater b a' b' e k h = absurd (cc)

types_beside : (s : Side) (m x y : Tree) → cmp_types (type_of 26 (beside (s, m) x)) (type_of 26 (beside (s, m) y)) ≡ cmp_types (type_of 26 x) (type_of 26 y)
types_beside s m x y =
    rw (type_of-beside 26 s m x, type_of-beside 26 s m y)
    (types_shift (type_of 26 x) (type_of 26 y) (type_of 26 m) (length-type_of 26 x ∙ sym (length-type_of 26 m)) (length-type_of 26 y ∙ sym (length-type_of 26 m)))

pub beside_less : (s : Side) (m x y : Tree) → cmp_monos x y ≡ Less → cmp_monos (beside (s, m) x) (beside (s, m) y) ≡ Less
beside_less s m x y h =
    by_parts (cmp_types (type_of 26 x) (type_of 26 y)) (cmp_trees x y) _ (cmp_trees (beside (s, m) x) (beside (s, m) y)) (types_beside s m x y)
    (λ e l. beside_trees s m x y (types_equal (type_of 26 x) (type_of 26 y) e) l) h

before-beside : (s : Side) (m i : Tree) (f : Poly) → AllBefore cmp_monos i f → AllBefore cmp_monos (beside (s, m) i) (reindex (beside (s, m)) f)
before-beside s m i [] h = tt
before-beside s m i (t ∷ f) h = (beside_less s m t.1 i h.0, before-beside s m i f h.1)

pub descending-beside : (s : Side) (m : Tree) (f : Poly) → IsDescending f → IsDescending (reindex (beside (s, m)) f)
descending-beside s m [] h = tt
descending-beside s m (t ∷ f) h = (h.0, before-beside s m t.1 f h.1, descending-beside s m f h.2)
