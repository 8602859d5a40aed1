-- The linearization of an identity, and its instances.
use Rattle.std.proofs.Common.{◌≡◌, ℕ, zero, suc, ◌+◌, ◌<◌, ◌≤◌, true, false, List, [], ◌∷◌, ◌++◌, map, take, drop, sym, refl, ap, ◌∙◌, arith, inl, inr, eqb}
use Rattle.std.specs.List.{flat_map}
use Rattle.std.proofs.lemmas.List.{map-append, take-map, drop-map}
use Rattle.std.proofs.Math.Nat.{zero-add, add-zero, suc-add, add-suc}
use Rattle.std.proofs.lemmas.Bool.{cases_eq, eq-eqb}
use Rattle.std.proofs.lemmas.Bool.Decides.{nat_tests}
use Rattle.alb_mono.specs.Tree.{Tree, leaf, node, count, AreBelow}
use Rattle.alb_poly.specs.Instance.{leaves, total_from, insertions, orders, arrangements, numbered}

pub map-flat : {X Y Z : Type 0} (h : Y → Z) (g : X → List Y) (xs : List X) → map h (flat_map g xs) ≡ flat_map (λ x. map h (g x)) xs
map-flat h g [] = refl
map-flat h g (x ∷ xs) = map-append h (g x) (flat_map g xs) ∙ ap (λ ys. map h (g x) ++ ys) (map-flat h g xs)

pub flat-map : {X Y Z : Type 0} (g : Y → List Z) (h : X → Y) (xs : List X) → flat_map g (map h xs) ≡ flat_map (λ x. g (h x)) xs
flat-map g h [] = refl
flat-map g h (x ∷ xs) = ap (λ ys. g (h x) ++ ys) (flat-map g h xs)

pub flat-equal : {X Y : Type 0} (g h : X → List Y) (xs : List X) → ((x : X) → g x ≡ h x) → flat_map g xs ≡ flat_map h xs
flat-equal g h [] k = refl
flat-equal g h (x ∷ xs) k = rw (k x, flat-equal g h xs k)

pub map-equal : {X Y : Type 0} (g h : X → Y) (xs : List X) → ((x : X) → g x ≡ h x) → map g xs ≡ map h xs
map-equal g h [] k = refl
map-equal g h (x ∷ xs) k = rw (k x, map-equal g h xs k)

pub map-map : {X Y Z : Type 0} (g : Y → Z) (h : X → Y) (xs : List X) → map g (map h xs) ≡ map (λ x. g (h x)) xs
map-map g h [] = refl
map-map g h (x ∷ xs) = rw (map-map g h xs)

-- ---- orders and arrangements of a changed list are the changed ones

insertions-map : {X Y : Type 0} (h : X → Y) (x : X) (xs : List X) → insertions (h x) (map h xs) ≡ map (map h) (insertions x xs)
insertions-map h x [] = refl
insertions-map h x (y ∷ ys) =
    ap (λ zs. (h x ∷ h y ∷ map h ys) ∷ zs)
    (ap (map (λ zs. h y ∷ zs)) (insertions-map h x ys) ∙ map-map _ _ (insertions x ys) ∙ sym (map-map _ _ (insertions x ys)))

orders-map : {X Y : Type 0} (h : X → Y) (xs : List X) → orders (map h xs) ≡ map (map h) (orders xs)
orders-map h [] = refl
orders-map h (x ∷ xs) =
    ap (flat_map (insertions (h x))) (orders-map h xs) ∙ flat-map _ _ (orders xs)
    ∙ flat-equal _ _ (orders xs) (insertions-map h x) ∙ sym (map-flat _ _ (orders xs))

pub arrangements-map : {X Y : Type 0} (h : X → Y) (e : List ℕ) (xs : List X) → arrangements e (map h xs) ≡ map (map h) (arrangements e xs)
arrangements-map h [] xs = refl
arrangements-map h (n ∷ e) xs =
    rw (take-map h n xs, drop-map h n xs, orders-map h (take n xs), arrangements-map h e (drop n xs))
    (flat-map _ _ (orders (take n xs)) ∙ flat-equal _ _ (orders (take n xs)) (λ a.
    map-map _ _ (arrangements e (drop n xs)) ∙ map-equal _ _ (arrangements e (drop n xs)) (λ b. sym (map-append h a b))
    ∙ sym (map-map _ _ (arrangements e (drop n xs))))
    ∙ sym (map-flat _ _ (orders (take n xs))))

-- ---- sums over the leaves

pub run-plus : (w : ℕ → ℕ) (k m n : ℕ) → total_from w k (m + n) ≡ total_from w k m + total_from w (k + m) n
run-plus w k zero n = rw (zero-add n, add-zero k) (omega arith)
run-plus w k (suc m) n = rw (suc-add m n, add-suc k m) (rw (← (suc-add k m)) (omega (arith, run-plus w (suc k) m n)))

-- The sum over the numbered leaves: each variable below `u` has its numbers in a row.
unfoldable pub runs : (ℕ → ℕ) → (ℕ → ℕ) → Tree → ℕ → ℕ
runs w next m zero = 0
runs w next m (suc v) = runs w next m v + total_from w (next v) (count v m)

runs-node : (w next : ℕ → ℕ) (l r : Tree) (u : ℕ) → runs w next (node l r) u ≡ runs w next l u + runs w (λ v. next v + count v l) r u
unfolding runs
runs-node w next l r zero = refl
runs-node w next l r (suc v) = omega (arith, runs-node w next l r v, run-plus w (next v) (count v l) (count v r))

runs-past : (w next : ℕ → ℕ) (k u : ℕ) → u ≤ k → runs w next (leaf k) u ≡ 0
unfolding runs
runs-past w next k zero h = refl
runs-past w next k (suc v) h = let e : eqb k v ≡ false = grind (arith, nat_tests) in rw e (omega (arith, runs-past w next k v (omega arith)))

runs-leaf : (w next : ℕ → ℕ) (k u : ℕ) → k < u → runs w next (leaf k) u ≡ w (next k)
unfolding runs
runs-leaf w next k zero h = absurd (omega arith)
runs-leaf w next k (suc v) h = elim (cases_eq k v) [
  | inl e ↦ let q : eqb k v ≡ true = eq-eqb k v e in rw q (rw (← e) (omega (arith, runs-past w next k k (omega arith))))
  | inr e ↦ let q : eqb k v ≡ false = grind (arith, nat_tests) in rw q (omega (arith, runs-leaf w next k v (omega arith)))
]

pub leaves-numbered : (w next : ℕ → ℕ) (m : Tree) (u : ℕ) → AreBelow u m → leaves w (numbered next m) ≡ runs w next m u
leaves-numbered w next (leaf k) u h = sym (runs-leaf w next k u h)
leaves-numbered w next (node l r) u h =
    rw (leaves-numbered w next l u h.0, leaves-numbered w (λ v. next v + count v l) r u h.1) (sym (runs-node w next l r u))
