-- The leaves of a product.
use Rattle.std.proofs.Common.{◌≡◌, ℕ, zero, suc, ◌+◌, ◌-◌, ◌<◌, ◌≤◌, List, [], ◌∷◌, ◌++◌, length, sym, refl, ap, ◌∙◌, arith, length-append, get_or, replicate, eqb, false, true, add_assoc, sum}
use Rattle.std.specs.List.{slice_set}
use Rattle.std.proofs.lemmas.List.Sums.{sum_by-cons}
use Rattle.std.proofs.lemmas.Bool.{ltb-true}
use Rattle.std.proofs.lemmas.Bool.Decides.{nat_tests}
use Rattle.std.specs.List.{slice_get}
use Rattle.std.proofs.Math.Nat.{zero-add, add-zero, suc-add}
use Rattle.alb_mono.proofs.Both.{and_left, and_right}
use Rattle.alb_mono.specs.Tree.{Tree, leaf, node, degree, leaf_list, count, listed, type_of, type_plus, AreBelow, are_below}

sum_cons : (x : ℕ) (xs : List ℕ) → sum (x ∷ xs) ≡ x + sum xs
sum_cons x xs = sum_by-cons (λ n. n) x xs

pub length-leaf_list : (m : Tree) → length (leaf_list m) ≡ degree m
length-leaf_list (leaf k) = refl
length-leaf_list (node l r) = length-append (leaf_list l) (leaf_list r) ∙ rw (length-leaf_list l, length-leaf_list r)

get-left : (xs ys : List ℕ) (k : ℕ) → k < length xs → slice_get (xs ++ ys) k ≡ slice_get xs k
get-left [] ys k h = absurd (omega arith)
get-left (x ∷ xs) ys zero h = refl
get-left (x ∷ xs) ys (suc k) h = get-left xs ys k (omega arith)

get-right : (xs ys : List ℕ) (k : ℕ) → slice_get (xs ++ ys) (length xs + k) ≡ slice_get ys k
get-right [] ys k = rw zero-add
get-right (x ∷ xs) ys k = rw (suc-add (length xs) k) (get-right xs ys k)

pub leaf_left : (l r : Tree) (k : ℕ) → k < degree l → slice_get (leaf_list (node l r)) k ≡ slice_get (leaf_list l) k
leaf_left l r k h = get-left (leaf_list l) (leaf_list r) k (omega (arith, length-leaf_list l))

pub leaf_right : (l r : Tree) (k : ℕ) → degree l ≤ k → slice_get (leaf_list (node l r)) k ≡ slice_get (leaf_list r) (k - degree l)
leaf_right l r k h =
    let e : k ≡ length (leaf_list l) + (k - degree l) = omega (arith, length-leaf_list l) in
    ap (slice_get (leaf_list l ++ leaf_list r)) e ∙ get-right (leaf_list l) (leaf_list r) (k - degree l)

-- ---- counting leaves into a list of counts

pub length-listed : (f : ℕ → ℕ) (k n : ℕ) → length (listed f k n) ≡ n
length-listed f k zero = refl
length-listed f k (suc n) = ap suc (length-listed f (suc k) n)

plus_listed : (xs : List ℕ) (f g : ℕ → ℕ) (k n : ℕ) → length xs ≡ n → type_plus (type_plus xs (listed f k n)) (listed g k n) ≡ type_plus xs (listed (λ i. f i + g i) k n)
plus_listed [] f g k zero h = refl
plus_listed [] f g k (suc n) h = absurd (omega arith)
plus_listed (x ∷ xs) f g k zero h = absurd (omega arith)
plus_listed (x ∷ xs) f g k (suc n) h = rw (plus_listed xs f g (suc k) n (omega arith), add_assoc x (f k) (g k))

pub plus-node : (xs : List ℕ) (n : ℕ) (l r : Tree) → length xs ≡ n → type_plus (type_plus xs (type_of n l)) (type_of n r) ≡ type_plus xs (type_of n (node l r))
unfolding type_of
plus-node xs n l r h = plus_listed xs (λ g. count g l) (λ g. count g r) 0 n h

none_left : (xs : List ℕ) (j k n : ℕ) → j < k → length xs ≡ n → type_plus xs (listed (λ g. count g (leaf j)) k n) ≡ xs
none_left [] j k zero h e = refl
none_left [] j k (suc n) h e = absurd (omega arith)
none_left (x ∷ xs) j k zero h e = absurd (omega arith)
none_left (x ∷ xs) j k (suc n) h e =
    let q : eqb j k ≡ false = grind (arith, nat_tests) in rw (q, none_left xs j (suc k) n (omega arith) (omega arith), add-zero x)

one_more : (xs : List ℕ) (i k n : ℕ) → i < length xs → length xs ≡ n → type_plus xs (listed (λ g. count g (leaf (k + i))) k n) ≡ slice_set xs i (get_or xs i 0 + 1)
one_more [] i k n h e = absurd (omega arith)
one_more (x ∷ xs) i k zero h e = absurd (omega arith)
one_more (x ∷ xs) zero k (suc n) h e =
    let q : eqb (k + 0) k ≡ true = grind (arith, nat_tests) in rw (q, none_left xs (k + 0) (suc k) n (omega arith) (omega arith))
one_more (x ∷ xs) (suc i) k (suc n) h e =
    let q : eqb (k + suc i) k ≡ false = grind (arith, nat_tests) in
    let s : k + suc i ≡ suc k + i = omega arith in
    rw (q, add-zero x) (ap (λ ys. x ∷ ys) (ap (λ j. type_plus xs (listed (λ g. count g (leaf j)) (suc k) n)) s ∙ one_more xs i (suc k) n (omega arith) (omega arith)))

pub plus-leaf : (xs : List ℕ) (n i : ℕ) → i < length xs → length xs ≡ n → type_plus xs (type_of n (leaf i)) ≡ slice_set xs i (get_or xs i 0 + 1)
unfolding type_of
plus-leaf xs n i h e = let q : 0 + i ≡ i = omega arith in ap (λ j. type_plus xs (type_of n (leaf j))) (sym q) ∙ one_more xs i 0 n h e

zeros : ℕ → List ℕ
zeros n = listed (λ _. 0) 0 n

plus_zeros : (f : ℕ → ℕ) (k n : ℕ) → type_plus (listed (λ _. 0) k n) (listed f k n) ≡ listed f k n
plus_zeros f k zero = refl
plus_zeros f k (suc n) = rw (plus_zeros f (suc k) n, zero-add (f k))

pub length-type_of : (n : ℕ) (m : Tree) → length (type_of n m) ≡ n
unfolding type_of
length-type_of n m = length-listed _ 0 n

listed-replicate : (k n : ℕ) → listed (λ _. 0) k n ≡ replicate n 0
listed-replicate k zero = refl
listed-replicate k (suc n) = rw (listed-replicate (suc k) n)

pub plus_replicate : (n : ℕ) (m : Tree) → type_plus (replicate n 0) (type_of n m) ≡ type_of n m
unfolding type_of
plus_replicate n m = rw (← (listed-replicate 0 n)) (plus_zeros (λ g. count g m) 0 n)

pub below_from_test : (n : ℕ) (m : Tree) → are_below n m ≡ true → AreBelow n m
below_from_test n (leaf k) h = ltb-true k n h
below_from_test n (node l r) h = (below_from_test n l (and_left _ _ h), below_from_test n r (and_right _ _ h))

-- the count of a generator stands at its place
get-listed : (f : ℕ → ℕ) (k n v : ℕ) → v < n → get_or (listed f k n) v 0 ≡ f (k + v)
get-listed f k zero v h = absurd (omega arith)
get-listed f k (suc n) zero h = let e : k + 0 ≡ k = omega arith in rw e
get-listed f k (suc n) (suc v) h = let e : k + suc v ≡ suc k + v = omega arith in get-listed f (suc k) n v (omega arith) ∙ ap f (sym e)

pub get-type : (n : ℕ) (m : Tree) (v : ℕ) → v < n → get_or (type_of n m) v 0 ≡ count v m
unfolding type_of
get-type n m v h = let e : 0 + v ≡ v = omega arith in get-listed (λ g. count g m) 0 n v h ∙ ap (λ g. count g m) e

-- ---- the degree is the sum of the type

sum_none : (j k n : ℕ) → j < k → sum (listed (λ g. count g (leaf j)) k n) ≡ 0
sum_none j k zero h = refl
sum_none j k (suc n) h =
    let q : eqb j k ≡ false = grind (arith, nat_tests) in
    rw q (omega (arith, sum_cons 0 (listed (λ g. count g (leaf j)) (suc k) n), sum_none j (suc k) n (omega arith)))

sum_one : (i k n : ℕ) → i < n → sum (listed (λ g. count g (leaf (k + i))) k n) ≡ 1
sum_one i k zero h = absurd (omega arith)
sum_one zero k (suc n) h =
    let q : eqb (k + 0) k ≡ true = grind (arith, nat_tests) in
    rw q (omega (arith, sum_cons 1 (listed (λ g. count g (leaf (k + 0))) (suc k) n), sum_none (k + 0) (suc k) n (omega arith)))
sum_one (suc i) k (suc n) h =
    let q : eqb (k + suc i) k ≡ false = grind (arith, nat_tests) in
    let s : k + suc i ≡ suc k + i = omega arith in
    rw q (omega (
      arith,
      sum_cons 0 (listed (λ g. count g (leaf (k + suc i))) (suc k) n),
      ap (λ j. sum (listed (λ g. count g (leaf j)) (suc k) n)) s,
      sum_one i (suc k) n (omega arith),
    ))

sum_plus : (f g : ℕ → ℕ) (k n : ℕ) → sum (listed (λ i. f i + g i) k n) ≡ sum (listed f k n) + sum (listed g k n)
sum_plus f g k zero = refl
sum_plus f g k (suc n) =
    omega (arith, sum_cons (f k + g k) (listed (λ i. f i + g i) (suc k) n), sum_cons (f k) (listed f (suc k) n), sum_cons (g k) (listed g (suc k) n), sum_plus f g (suc k) n)

pub sum-type_of : (n : ℕ) (m : Tree) → are_below n m ≡ true → sum (type_of n m) ≡ degree m
unfolding type_of
sum-type_of n (leaf k) h = let q : 0 + k ≡ k = omega arith in ap (λ j. sum (listed (λ g. count g (leaf j)) 0 n)) (sym q) ∙ sum_one k 0 n (ltb-true k n h)
sum-type_of n (node l r) h =
    let a : sum (listed (λ g. count g l) 0 n) ≡ degree l = sum-type_of n l (and_left _ _ h) in
    let b : sum (listed (λ g. count g r) 0 n) ≡ degree r = sum-type_of n r (and_right _ _ h) in
    omega (arith, sum_plus (λ g. count g l) (λ g. count g r) 0 n, a, b)
