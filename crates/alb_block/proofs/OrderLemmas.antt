-- The order of products by their types and factors.
use Rattle.std.proofs.Common.{◌≡◌, ℕ, zero, suc, ◌+◌, ◌≤◌, List, [], ◌∷◌, ◌++◌, length, replicate, sym, refl, ap, ◌∙◌, arith, sum}
use Rattle.std.specs.Ordering.{nat_cmp, ordering_then}
use Rattle.std.specs.Cmp.Lexicographic.{slice_cmp}
use Rattle.std.specs.declared.cmp.Ordering.TheVariants.{Less}
use Rattle.std.proofs.lemmas.Bool.Decides.{nat_tests}
use Rattle.std.proofs.lemmas.Cmp.{tied_itself, nat_list_cmp_total}
use Rattle.alb_mono.specs.Tree.{Tree, node, listed, count, type_of, cmp_types, cmp_trees, AreBelow}
use Rattle.alb_mono.proofs.Order.{cmp_types_total, cmp_trees_total}
use Rattle.alb_mono.proofs.Leaves.{length-type_of}
use Rattle.alb_poly.proofs.Multilinear.{sum_cons}
use Rattle.alb_table.proofs.Within.{none-past}

sum-more : (xs zs : List ℕ) → sum (xs ++ zs) ≡ sum xs + sum zs
sum-more [] zs = omega arith
sum-more (x ∷ xs) zs = omega (arith, sum_cons x (xs ++ zs), sum_cons x xs, sum-more xs zs)

cmp-plus : (a b c : ℕ) → nat_cmp (a + c) (b + c) ≡ nat_cmp a b
cmp-plus a b c = grind (arith, nat_tests)

slices-more : (xs ys zs : List ℕ) → length xs ≡ length ys → slice_cmp nat_cmp (xs ++ zs) (ys ++ zs) ≡ slice_cmp nat_cmp xs ys
slices-more [] [] zs h = tied_itself nat_list_cmp_total zs
slices-more [] (y ∷ ys) zs h = absurd (omega (arith, h))
slices-more (x ∷ xs) [] zs h = absurd (omega (arith, h))
slices-more (x ∷ xs) (y ∷ ys) zs h = ap (ordering_then (nat_cmp x y)) (slices-more xs ys zs (omega (arith, h)))

-- the same counts after both types leave their order
types-more : (xs ys zs : List ℕ) → length xs ≡ length ys → cmp_types (xs ++ zs) (ys ++ zs) ≡ cmp_types xs ys
types-more xs ys zs h =
    let s : nat_cmp (sum (xs ++ zs)) (sum (ys ++ zs)) ≡ nat_cmp (sum xs) (sum ys) =
    ap (λ n. nat_cmp n (sum (ys ++ zs))) (sum-more xs zs) ∙ ap (nat_cmp (sum xs + sum zs)) (sum-more ys zs) ∙ cmp-plus (sum xs) (sum ys) (sum zs) in
    ap (λ o. ordering_then o (slice_cmp nat_cmp (ys ++ zs) (xs ++ zs))) s ∙ ap (ordering_then (nat_cmp (sum xs) (sum ys))) (slices-more ys xs zs (sym h))

listed-split : (f : ℕ → ℕ) (a n k : ℕ) → listed f a (n + k) ≡ listed f a n ++ listed f (a + n) k
listed-split f a zero k =
    let e : 0 + k ≡ k = omega arith in
    let g : a ≡ a + 0 = omega arith in
    ap (listed f a) e ∙ ap (λ i. listed f i k) g
listed-split f a (suc n) k =
    let e : suc n + k ≡ suc (n + k) = omega arith in
    let g : suc a + n ≡ a + suc n = omega arith in
    ap (listed f a) e ∙ ap (λ xs. f a ∷ xs) (listed-split f (suc a) n k ∙ ap (λ i. listed f (suc a) n ++ listed f i k) g)

listed-zeros : (f : ℕ → ℕ) (a k : ℕ) → ((j : ℕ) → a ≤ j → f j ≡ 0) → listed f a k ≡ replicate k 0
listed-zeros f a zero h = refl
listed-zeros f a (suc k) h = rw (h a (omega arith), listed-zeros f (suc a) k (λ j l. h j (omega arith))) refl

-- the type over more generators
type-more : (n k : ℕ) (m : Tree) → AreBelow n m → type_of (n + k) m ≡ type_of n m ++ replicate k 0
unfolding type_of
type-more n k m b =
    let e : 0 + n ≡ n = omega arith in
    listed-split (λ g. count g m) 0 n k
    ∙ ap (λ i. listed (λ g. count g m) 0 n ++ listed (λ g. count g m) i k) e
    ∙ ap (λ xs. listed (λ g. count g m) 0 n ++ xs) (listed-zeros (λ g. count g m) n k (λ j l. none-past n j m b l))

pub types-order : (n k : ℕ) (x y : Tree) → AreBelow n x → AreBelow n y → cmp_types (type_of (n + k) x) (type_of (n + k) y) ≡ cmp_types (type_of n x) (type_of n y)
types-order n k x y b c =
    rw (type-more n k x b, type-more n k y c) (types-more (type_of n x) (type_of n y) (replicate k 0) (length-type_of n x ∙ sym (length-type_of n y)))

-- products with left factors of different types
pub less-by-type : (l r l' r' : Tree) → cmp_types (type_of 26 l) (type_of 26 l') ≡ Less → cmp_trees (node l r) (node l' r') ≡ Less
less-by-type l r l' r' h = rw h refl

-- with different left factors of one type
pub less-by-left : (l r l' r' : Tree) → type_of 26 l ≡ type_of 26 l' → cmp_trees l l' ≡ Less → cmp_trees (node l r) (node l' r') ≡ Less
less-by-left l r l' r' t h = rw (t, tied_itself cmp_types_total (type_of 26 l'), h) refl

-- and with one left factor
pub less-by-right : (l r r' : Tree) → cmp_trees r r' ≡ Less → cmp_trees (node l r) (node l r') ≡ Less
less-by-right l r r' h = rw (tied_itself cmp_types_total (type_of 26 l), tied_itself cmp_trees_total l, h) refl
