-- Linearizations are multilinear, and their instances are those of the identity.
use Rattle.std.proofs.Common.{◌≡◌, ℕ, zero, suc, ◌+◌, ◌<◌, ◌≤◌, true, List, [], ◌∷◌, ◌++◌, map, take, drop, length, get_or, sum, sym, refl, ap, ◌∙◌, subst, arith, ltb, drop-cons}
use Rattle.std.specs.Bool.{if◌then◌else◌}
use Rattle.std.specs.List.{All, flat_map}
use Rattle.std.proofs.lemmas.List.{get_or-map, take-append-drop, length-drop, take_all}
use Rattle.std.proofs.Math.ListN.{drop_of_length-le}
use Rattle.std.proofs.lemmas.List.Sums.{sum_by_more, sum_by-cons}
use Rattle.std.proofs.Math.Nat.{zero-add}
use Rattle.std.proofs.Math.Numerals.{add-one}
use Rattle.std.proofs.lemmas.Bool.Decides.{nat_tests}
use Rattle.alb_mono.specs.Tree.{Tree, leaf, node, AreBelow}
use Rattle.gf_sums.specs.Sums.{total}
use Rattle.gf_sums.proofs.Totals.{total-append}
use Rattle.alb_poly.specs.Poly.{Poly}
use Rattle.alb_poly.specs.Instance.{fill, insertions, orders, arrangements, numbered, first_number, identity_instance, positions, linearization, instance, HasType, IsHomogeneous, IsMultilinear, IsMultilinearForm, leaves, total_from}
use Rattle.alb_mono.specs.Listing.{Each}
use Rattle.alb_mono.proofs.ListingLemmas.{each-at}
pub use Rattle.alb_mono.proofs.ListingLemmas.{each-append, each-weaker as each-from}
use Rattle.alb_poly.proofs.Orders.{map-flat, map-map, arrangements-map, run-plus, runs, leaves-numbered}

-- ---- what holds of each element

pub each_from_all : {X : Type 0} (P : X → Type 0) (xs : List X) → All P xs → Each P xs
each_from_all P [] h = tt
each_from_all P (x ∷ xs) h = (h 0 x (omega arith), each_from_all P xs (λ k d l. h (suc k) d (omega arith)))

pub all_from_each : {X : Type 0} (P : X → Type 0) (xs : List X) → Each P xs → All P xs
all_from_each P xs h k d l = each-at P xs k d h l

pub each-map : {X Y : Type 0} (P : X → Type 0) (Q : Y → Type 0) (h : X → Y) (xs : List X) → ((x : X) → P x → Q (h x)) → Each P xs → Each Q (map h xs)
each-map P Q h [] k a = tt
each-map P Q h (x ∷ xs) k a = (k x a.0, each-map P Q h xs k a.1)

pub each-flat : {X Y : Type 0} (P : X → Type 0) (Q : Y → Type 0) (h : X → List Y) (xs : List X) → ((x : X) → P x → Each Q (h x)) → Each P xs → Each Q (flat_map h xs)
each-flat P Q h [] k a = tt
each-flat P Q h (x ∷ xs) k a = each-append Q (h x) (flat_map h xs) (k x a.0) (each-flat P Q h xs k a.1)

pub map-each : {X Y : Type 0} (P : X → Type 0) (g h : X → Y) (xs : List X) → ((x : X) → P x → g x ≡ h x) → Each P xs → map g xs ≡ map h xs
map-each P g h [] k a = refl
map-each P g h (x ∷ xs) k a = rw (k x a.0, map-each P g h xs k a.1)

pub flat-each : {X Y : Type 0} (P : X → Type 0) (g h : X → List Y) (xs : List X) → ((x : X) → P x → g x ≡ h x) → Each P xs → flat_map g xs ≡ flat_map h xs
flat-each P g h [] k a = refl
flat-each P g h (x ∷ xs) k a = rw (k x a.0, flat-each P g h xs k a.1)

-- ---- an order has the elements of the list

abbrev pub IsOrder : {X : Type 0} → List X → List X → Type 0
IsOrder {X} xs zs = (w : X → ℕ) → total w zs ≡ total w xs

insertions-order : {X : Type 0} (x : X) (xs : List X) → Each (IsOrder (x ∷ xs)) (insertions x xs)
insertions-order x [] = (λ w. refl, tt)
insertions-order x (y ∷ ys) = (
  λ w. refl,
  each-map (IsOrder (x ∷ ys)) (IsOrder (x ∷ y ∷ ys)) (λ zs. y ∷ zs) (insertions x ys) (λ zs k w. omega (arith, k w)) (insertions-order x ys),
)

pub orders-order : {X : Type 0} (xs : List X) → Each (IsOrder xs) (orders xs)
orders-order [] = (λ w. refl, tt)
orders-order (x ∷ xs) = each-flat (IsOrder xs) (IsOrder (x ∷ xs)) (insertions x) (orders xs)
    (λ zs k. each-from (IsOrder (x ∷ zs)) (IsOrder (x ∷ xs)) (insertions x zs) (λ q m w. m w ∙ ap (λ n. w x + n) (k w)) (insertions-order x zs))
    (orders-order xs)

pub sum_cons : (n : ℕ) (e : List ℕ) → sum (n ∷ e) ≡ n + sum e
sum_cons n e = sum_by-cons (λ x. x) n e

total_parts : {X : Type 0} (w : X → ℕ) (n : ℕ) (xs : List X) → total w (take n xs) + total w (drop n xs) ≡ total w xs
total_parts w n xs = sym (total-append w (take n xs) (drop n xs)) ∙ ap (total w) (take-append-drop n xs)

pub arrangements-order : {X : Type 0} (e : List ℕ) (xs : List X) → length xs ≡ sum e → Each (IsOrder xs) (arrangements e xs)
arrangements-order [] [] h = (λ w. refl, tt)
arrangements-order [] (x ∷ xs) h = absurd (omega arith)
arrangements-order (n ∷ e) xs h =
    let k : length (drop n xs) ≡ sum e = omega (arith, length-drop n xs, sum_cons n e) in
    each-flat (IsOrder (take n xs)) (IsOrder xs) (λ a. map (λ b. a ++ b) (arrangements e (drop n xs))) (orders (take n xs))
    (λ a u. each-map (IsOrder (drop n xs)) (IsOrder xs) (λ b. a ++ b) (arrangements e (drop n xs))
    (λ b v w. omega (arith, total-append w a b, u w, v w, total_parts w n xs)) (arrangements-order e (drop n xs) k))
    (orders-order (take n xs))

pub length_total : {X : Type 0} (xs : List X) → total (λ x. 1) xs ≡ length xs
length_total [] = refl
length_total (x ∷ xs) = omega (arith, length_total xs)

pub order-length : {X : Type 0} (xs zs : List X) → IsOrder xs zs → length zs ≡ length xs
order-length xs zs h = sym (length_total zs) ∙ h (λ x. 1) ∙ length_total xs

-- ---- the numbered leaves

runs-first : (w : ℕ → ℕ) (e : List ℕ) (m : Tree) (u : ℕ) → HasType e m → u ≤ length e → runs w (first_number e) m u ≡ total_from w 0 (sum (take u e))
unfolding runs
runs-first w e m zero h k = refl
runs-first w e m (suc v) h k =
    let s : sum (take (v + 1) e) ≡ sum (take v e) + get_or e v 0 = sum_by_more (λ x. x) e v 0 k in
    rw (← (add-one v), s, h.counts v k) (omega (arith, runs-first w e m v h (omega arith), run-plus w 0 (sum (take v e)) (get_or e v 0), ap (λ z. total_from w z (get_or e v 0)) (zero-add (sum (take v e)))))

pub leaves-first : (w : ℕ → ℕ) (e : List ℕ) (m : Tree) → HasType e m → leaves w (numbered (first_number e) m) ≡ total_from w 0 (sum e)
leaves-first w e m h =
    leaves-numbered w (first_number e) m (length e) h.below ∙ runs-first w e m (length e) h (omega arith) ∙ ap (λ x. total_from w 0 (sum x)) (take_all (length e) e (omega arith))

-- 0 below `n` and 1 from there on
unfoldable pub past : ℕ → ℕ → ℕ
past n k = if ltb k n then 0 else 1

run-past : (n k j : ℕ) → k + j ≤ n → total_from (past n) k j ≡ 0
unfolding past
run-past n k zero h = refl
run-past n k (suc j) h = let e : ltb k n ≡ true = grind (arith, nat_tests) in rw e (omega (arith, run-past n (suc k) j (omega arith)))

pub none_past : (n : ℕ) (m : Tree) → leaves (past n) m ≡ 0 → AreBelow n m
unfolding past
none_past n (leaf k) h = grind (arith, nat_tests)
none_past n (node l r) h = (none_past n l (omega arith), none_past n r (omega arith))

pub past-below : (n : ℕ) (m : Tree) → AreBelow n m → leaves (past n) m ≡ 0
unfolding past
past-below n (leaf k) h = let e : ltb k n ≡ true = grind (arith, nat_tests) in rw e
past-below n (node l r) h = omega (arith, past-below n l h.0, past-below n r h.1)

pub multilinear-below : (n : ℕ) (m : Tree) → IsMultilinear n m → AreBelow n m
multilinear-below n m h = none_past n m (h (past n) ∙ run-past n 0 n (omega arith))

-- ---- filling

fill-fill : (ms a : List Tree) (m : Tree) → AreBelow (length a) m → fill ms (fill a m) ≡ fill (map (fill ms) a) m
fill-fill ms a (leaf k) h = sym (get_or-map (fill ms) a k (leaf k) (leaf k) h)
fill-fill ms a (node l r) h = rw (fill-fill ms a l h.0, fill-fill ms a r h.1)

leaves-equal : (v w : ℕ → ℕ) (n : ℕ) (m : Tree) → AreBelow n m → ((k : ℕ) → k < n → v k ≡ w k) → leaves v m ≡ leaves w m
leaves-equal v w n (leaf k) h e = e k h
leaves-equal v w n (node l r) h e = rw (leaves-equal v w n l h.0 e, leaves-equal v w n r h.1 e)

leaves-fill : (w : ℕ → ℕ) (ms : List Tree) (m : Tree) → leaves w (fill ms m) ≡ leaves (λ k. leaves w (get_or ms k (leaf k))) m
leaves-fill w ms (leaf k) = refl
leaves-fill w ms (node l r) = rw (leaves-fill w ms l, leaves-fill w ms r)

run-drop : (w : ℕ → ℕ) (ms : List Tree) (k n : ℕ) → k + n ≡ length ms → total_from (λ k. leaves w (get_or ms k (leaf k))) k n ≡ total (leaves w) (drop k ms)
run-drop w ms k zero h = let e : drop k ms ≡ [] = drop_of_length-le ms (omega arith) in rw e
run-drop w ms k (suc n) h =
    let e : drop k ms ≡ get_or ms k (leaf k) ∷ drop (suc k) ms = drop-cons ms k (leaf k) (omega arith) in
    rw (e, run-drop w ms (suc k) n (omega arith))

-- a multilinear monomial filled with monomials has the leaves of all of them
pub leaves-multilinear : (w : ℕ → ℕ) (ms : List Tree) (m : Tree) → IsMultilinear (length ms) m → leaves w (fill ms m) ≡ total (leaves w) ms
leaves-multilinear w ms m h = leaves-fill w ms m ∙ h _ ∙ run-drop w ms 0 (length ms) (omega arith)

-- ---- the linearization

leaves-positions : (w : ℕ → ℕ) (k n : ℕ) → total (leaves w) (positions k n) ≡ total_from w k n
leaves-positions w k zero = refl
leaves-positions w k (suc n) = rw (leaves-positions w (suc k) n)

pub length-positions : (k n : ℕ) → length (positions k n) ≡ n
length-positions k zero = refl
length-positions k (suc n) = ap suc (length-positions (suc k) n)

pub fill-positions : (ms : List Tree) (k n : ℕ) → k + n ≡ length ms → map (fill ms) (positions k n) ≡ drop k ms
fill-positions ms k zero h = sym (drop_of_length-le ms (omega arith))
fill-positions ms k (suc n) h =
    let e : drop k ms ≡ get_or ms k (leaf k) ∷ drop (suc k) ms = drop-cons ms k (leaf k) (omega arith) in
    rw (e, fill-positions ms (suc k) n (omega arith))

pub positions-sum : (e : List ℕ) → length (positions 0 (sum e)) ≡ sum e
positions-sum e = length-positions 0 (sum e)

-- the linearization of a homogeneous polynomial is multilinear
pub linearization-multilinear : (e : List ℕ) (f : Poly) → IsHomogeneous e f → IsMultilinearForm (linearization e f)
linearization-multilinear e f h =
    each-flat (λ t. HasType e t.1) (λ t. IsMultilinear (sum e) t.1) _ f (λ t k.
    each-map (IsOrder (positions 0 (sum e))) (λ t. IsMultilinear (sum e) t.1) _ (arrangements e (positions 0 (sum e)))
    (λ a o w.
    let n : length a ≡ sum e = order-length (positions 0 (sum e)) a o ∙ positions-sum e in
    leaves-multilinear w a _ (λ v. leaves-first v e t.1 k ∙ ap (total_from v 0) (sym n))
    ∙ o (leaves w) ∙ leaves-positions w 0 (sum e))
    (arrangements-order e (positions 0 (sum e)) (positions-sum e))) h

-- its instances are those of the polynomial
pub instance-linearization : (e : List ℕ) (f : Poly) (ms : List Tree) → IsHomogeneous e f → length ms ≡ sum e →
    instance (linearization e f) ms ≡ identity_instance e f ms
instance-linearization e f ms h n =
    map-flat _ _ f ∙ flat-each (λ t. HasType e t.1) _ _ f (λ t k.
    let T : Tree = numbered (first_number e) t.1 in
    map-map _ _ (arrangements e (positions 0 (sum e)))
    ∙ map-each (IsOrder (positions 0 (sum e))) _ _ (arrangements e (positions 0 (sum e)))
    (λ a o. ap (λ m. (t.0, m)) (fill-fill ms a T (subst (λ j. AreBelow j T)
    (sym (order-length (positions 0 (sum e)) a o ∙ positions-sum e))
    (multilinear-below (sum e) T (λ w. leaves-first w e t.1 k)))))
    (arrangements-order e (positions 0 (sum e)) (positions-sum e))
    ∙ sym (map-map _ _ (arrangements e (positions 0 (sum e))))
    ∙ ap (map (λ a. (t.0, fill a T))) (sym (arrangements-map (fill ms) e (positions 0 (sum e)))
    ∙ ap (arrangements e) (fill-positions ms 0 (sum e) (zero-add (sum e) ∙ sym n)))) h
