-- How many monomials there are within a target: each is written, from the left and each product before its factors, with some
-- letters of a list and as many marks of products.
use Rattle.std.proofs.Common.{◌≡◌, ℕ, zero, suc, ◌+◌, ◌-◌, ◌*◌, ◌<◌, ◌≤◌, true, false, List, [], ◌∷◌, ◌++◌, map, length, replicate, sum, sym, refl, ap, ◌∙◌, subst, arith, inl, inr}
use Rattle.std.specs.Prelude.{nat_le}
use Rattle.std.specs.Bool.{if◌then◌else◌, IsTrue, ◌==◌}
use Rattle.std.specs.List.{flat_map}
use Rattle.std.proofs.lemmas.Bool.{cases_eq, cases_lt, and_parts}
use Rattle.std.proofs.lemmas.Bool.Decides.{nat_tests}
use Rattle.std.proofs.lemmas.List.{length-append, length-map, length-replicate}
use Rattle.gf_sums.specs.Sums.{total}
use Rattle.gf_sums.proofs.Totals.{total-append}
use Rattle.alb_mono.specs.Listing.{Each, IsIn}
use Rattle.alb_mono.specs.Tree.{Tree, leaf, node, degree, count, listed, type_of, type_le, AreBelow}
use Rattle.alb_mono.proofs.ListingLemmas.{each-map, each-weaker, in-map, in-flat, in-left, in-right}
use Rattle.alb_poly.specs.Instance.{IsAtMost}
use Rattle.alb_poly.proofs.AtMost.{degree-at_most}
use Rattle.alb_poly.proofs.Multilinear.{sum_cons}

-- each letter of a list, with the others
takes : List ℕ → List (ℕ × List ℕ)
takes [] = []
takes (x ∷ xs) = (x, xs) ∷ map (λ q. (q.0, x ∷ q.1)) (takes xs)

join_first : List Tree → List Tree
join_first [] = []
join_first (a ∷ []) = a ∷ []
join_first (a ∷ b ∷ ts) = node a b ∷ ts

-- lists of k monomials, whose leaves are some of the letters, written in at most n steps: a step is a leaf or a product
forests : ℕ → ℕ → List ℕ → List (List Tree)
forests zero n letters = [] ∷ []
forests (suc k) zero letters = []
forests (suc k) (suc n) letters = flat_map (λ q. map (λ ts. leaf q.0 ∷ ts) (forests k n q.1)) (takes letters) ++ map join_first (forests (suc (suc k)) n letters)

-- ---- how many

factorial : ℕ → ℕ
factorial zero = 1
factorial (suc n) = suc n * factorial n

-- m! doubled n times
ways : ℕ → ℕ → ℕ
ways zero m = factorial m
ways (suc n) m = 2 * ways n m

ways-next : (n m : ℕ) → suc m * ways n m ≡ ways n (suc m)
unfolding ways factorial
ways-next zero m = refl
ways-next (suc n) m = let e : suc m * (2 * ways n m) ≡ 2 * (suc m * ways n m) = grind arith in e ∙ ap (λ x. 2 * x) (ways-next n m)

ways-positive : (n m : ℕ) → 1 ≤ ways n m
unfolding ways factorial
ways-positive zero zero = omega arith
ways-positive zero (suc m) = omega (arith, ways-positive zero m)
ways-positive (suc n) m = omega (arith, ways-positive n m)

ways-rise : (n m d : ℕ) → ways n m ≤ ways n (d + m)
ways-rise n m zero = let e : 0 + m ≡ m = omega arith in rw e (omega arith)
ways-rise n m (suc d) =
    let e : suc d + m ≡ suc (d + m) = omega arith in
    rw e (omega (arith, ways-rise n m d, ways-next n (d + m), ways-positive n (d + m)))

length-takes : (xs : List ℕ) → length (takes xs) ≡ length xs
unfolding takes
length-takes [] = refl
length-takes (x ∷ xs) = omega (arith, length-map {B = ℕ × List ℕ} (takes xs) (λ q. (q.0, x ∷ q.1)), length-takes xs)

takes-length : (xs : List ℕ) → Each (λ q. suc (length q.1) ≡ length xs) (takes xs)
unfolding takes
takes-length [] = tt
takes-length (x ∷ xs) = (omega arith, each-map _ (λ q. (q.0, x ∷ q.1)) (takes xs) (each-weaker _ _ (takes xs) (λ q e. omega (arith, e)) (takes-length xs)))

length-flat : {X Y : Type 0} (g : X → List Y) (b : ℕ) (xs : List X) → Each (λ x. length (g x) ≤ b) xs → length (flat_map g xs) ≤ length xs * b
length-flat g b [] h = omega arith
length-flat g b (x ∷ xs) h = omega (arith, length-append (g x) (flat_map g xs), h.0, length-flat g b xs h.1)

few-forests : (k n : ℕ) (letters : List ℕ) → length (forests k n letters) ≤ ways n (length letters)
unfolding forests ways takes
few-forests zero n letters = omega (arith, ways-positive n (length letters))
few-forests (suc k) zero letters = omega arith
few-forests (suc k) (suc n) letters =
    let calls : (more : List ℕ) → length (forests k n more) ≤ ways n (length more) = λ more. few-forests k n more in
    omega (
      arith,
      length-append (flat_map (λ q. map (λ ts. leaf q.0 ∷ ts) (forests k n q.1)) (takes letters)) (map join_first (forests (suc (suc k)) n letters)),
      length-map (forests (suc (suc k)) n letters) join_first,
      few-forests (suc (suc k)) n letters,
      leaves-few calls letters,
      doubled n (length letters),
    )
  where
    doubled : (n m : ℕ) → ways (suc n) m ≡ 2 * ways n m
    doubled n m = refl

    leaf-few : ((more : List ℕ) → length (forests k n more) ≤ ways n (length more)) → (m : ℕ) (q : ℕ × List ℕ) → suc (length q.1) ≡ suc m → length (map (λ ts. leaf q.0 ∷ ts) (forests k n q.1)) ≤ ways n m
    leaf-few calls m q e =
        let l : length q.1 ≡ m = omega (arith, e) in
        omega (arith, length-map (forests k n q.1) (λ ts. leaf q.0 ∷ ts), calls q.1, ap (ways n) l)

    leaves-few : ((more : List ℕ) → length (forests k n more) ≤ ways n (length more)) → (letters : List ℕ) → length (flat_map (λ q. map (λ ts. leaf q.0 ∷ ts) (forests k n q.1)) (takes letters)) ≤ ways n (length letters)
    leaves-few calls [] = omega arith
    leaves-few calls (x ∷ xs) =
        let m : ℕ = length xs in
        let h = length-flat (λ q. map (λ ts. leaf q.0 ∷ ts) (forests k n q.1)) (ways n m) (takes (x ∷ xs))
        (each-weaker _ _ (takes (x ∷ xs)) (λ q e. leaf-few calls m q e) (takes-length (x ∷ xs))) in
        let e : length (takes (x ∷ xs)) * ways n m ≡ ways n (suc m) = ap (λ j. j * ways n m) (length-takes (x ∷ xs)) ∙ ways-next n m in
        omega (arith, h, e)

-- ---- which

-- how often a letter stands in a list
abbrev occurs : ℕ → List ℕ → ℕ
occurs g letters = total (λ x. if x == g then 1 else 0) letters

-- the letter x may be taken, and leaves the others
record Leaves (x : ℕ) (letters : List ℕ) : Type 0 where
  rest : List ℕ
  among : IsIn (x, rest) (takes letters)
  counts : (g : ℕ) → occurs g letters ≡ (if x == g then 1 else 0) + occurs g rest

leaves-later : (x y : ℕ) (letters : List ℕ) → Leaves x letters → Leaves x (y ∷ letters)
unfolding takes
leaves-later x y letters h = record {
  rest = y ∷ h.rest;
  among = inr (in-map (λ q. (q.0, y ∷ q.1)) (x, h.rest) (takes letters) h.among);
  counts = λ g. omega (arith, h.counts g);
}

leaves-first : (x : ℕ) (letters : List ℕ) → Leaves x (x ∷ letters)
unfolding takes
leaves-first x letters = record { rest = letters; among = inl refl; counts = λ g. refl }

taken : (x : ℕ) (letters : List ℕ) → 0 < occurs x letters → Leaves x letters
taken x [] h = absurd (omega arith)
taken x (y ∷ letters) h = elim (cases_eq y x) [
  | inl e ↦ subst (λ z. Leaves x (z ∷ letters)) (sym e) (leaves-first x letters)
  | inr e ↦ (let q : (y == x) ≡ false = grind (arith, nat_tests) in
      let l : 0 < 0 + occurs x letters = rw q at h in leaves-later x y letters (taken x letters (omega arith)))
]

-- how many steps a monomial takes
size : Tree → ℕ
size (leaf k) = 1
size (node l r) = suc (size l + size r)

size-degree : (m : Tree) → suc (size m) ≡ 2 * degree m
unfolding size
size-degree (leaf k) = refl
size-degree (node l r) = omega (arith, size-degree l, size-degree r)

forest-among : (n : ℕ) (ts : List Tree) (letters : List ℕ) → total size ts ≤ n → ((g : ℕ) → total (count g) ts ≤ occurs g letters) → IsIn ts (forests (length ts) n letters)
unfolding forests size join_first
forest-among n [] letters s h = inl refl
forest-among zero (leaf x ∷ ts) letters s h = absurd (omega arith)
forest-among zero (node a b ∷ ts) letters s h = absurd (omega arith)
forest-among (suc n) (leaf x ∷ ts) letters s h =
    let q : (x == x) ≡ true = grind (arith, nat_tests) in
    let l : 1 + total (count x) ts ≤ occurs x letters = rw q at (h x) in
    let t = taken x letters (omega arith) in
    let inner = forest-among n ts t.rest (omega arith) (λ g. omega (arith, h g, t.counts g)) in
    in-left (leaf x ∷ ts) _ (map join_first (forests (suc (suc (length ts))) n letters))
    (in-flat (λ q. map (λ us. leaf q.0 ∷ us) (forests (length ts) n q.1)) (x, t.rest) (leaf x ∷ ts) (takes letters) t.among
    (in-map (λ us. leaf x ∷ us) ts (forests (length ts) n t.rest) inner))
forest-among (suc n) (node a b ∷ ts) letters s h =
    let inner = forest-among n (a ∷ b ∷ ts) letters (omega arith) (λ g. omega (arith, h g)) in
    in-right (node a b ∷ ts) (flat_map (λ q. map (λ us. leaf q.0 ∷ us) (forests (length ts) n q.1)) (takes letters)) _
    (in-map join_first (a ∷ b ∷ ts) (forests (suc (suc (length ts))) n letters) inner)

-- ---- those within a target

-- each generator as often as the target says
letters_of : ℕ → List ℕ → List ℕ
letters_of k [] = []
letters_of k (c ∷ cs) = replicate c k ++ letters_of (suc k) cs

length-letters : (k : ℕ) (target : List ℕ) → length (letters_of k target) ≡ sum target
unfolding letters_of
length-letters k [] = refl
length-letters k (c ∷ cs) = omega (arith, length-append (replicate c k) (letters_of (suc k) cs), length-replicate c k, length-letters (suc k) cs, sum_cons c cs)

occurs-replicate : (g n : ℕ) → occurs g (replicate n g) ≡ n
occurs-replicate g zero = refl
occurs-replicate g (suc n) = let q : (g == g) ≡ true = grind (arith, nat_tests) in rw q (omega (arith, occurs-replicate g n))

within-occurs : (f : ℕ → ℕ) (k : ℕ) (target : List ℕ) → IsTrue (type_le (listed f k (length target)) target) → (g : ℕ) → k ≤ g → g < k + length target → f g ≤ occurs g (letters_of k target)
unfolding letters_of
within-occurs f k [] h g l m = absurd (omega arith)
within-occurs f k (c ∷ cs) h g l m =
    let a = and_parts (nat_le (f k) c) _ h in
    let joined : occurs g (replicate c k ++ letters_of (suc k) cs) ≡ occurs g (replicate c k) + occurs g (letters_of (suc k) cs) = total-append _ (replicate c k) (letters_of (suc k) cs) in
    elim (cases_eq g k) [
      | inl e ↦ (let b : f k ≤ c = grind (arith, nat_tests, a.0) in
          omega (arith, joined, ap f e, subst (λ j. occurs j (replicate c k) ≡ c) (sym e) (occurs-replicate k c), b))
      | inr e ↦ omega (arith, joined, within-occurs f (suc k) cs a.1 g (omega arith) (omega arith))
    ]

count-past : (n g : ℕ) (m : Tree) → AreBelow n m → n ≤ g → count g m ≡ 0
count-past n g (leaf k) h l = let q : (k == g) ≡ false = grind (arith, nat_tests) in rw q
count-past n g (node a b) h l = omega (arith, count-past n g a h.0 l, count-past n g b h.1 l)

first_of : List Tree → Tree
first_of [] = leaf 0
first_of (t ∷ ts) = t

-- the monomials that are at most the target
pub monos_within : List ℕ → List Tree
monos_within target = map first_of (forests 1 24 (letters_of 0 target))

most : ways 24 12 ≡ 8036313307545600
unfolding ways factorial
most = refl

-- a bound on how many they are, for a target of degree at most 12: 12! · 2^24
pub few-within : (target : List ℕ) → sum target ≤ 12 → length (monos_within target) ≤ 8036313307545600
unfolding monos_within
few-within target h =
    let n : ℕ = sum target in
    let rise : ways 24 (length (letters_of 0 target)) ≤ ways 24 12 =
    subst (λ m. ways 24 (length (letters_of 0 target)) ≤ ways 24 m) (omega (arith, length-letters 0 target)) (ways-rise 24 (length (letters_of 0 target)) (12 - n)) in
    omega (arith, length-map (forests 1 24 (letters_of 0 target)) first_of, few-forests 1 24 (letters_of 0 target), rise, most)

pub all-within : (target : List ℕ) (m : Tree) → sum target ≤ 12 → IsAtMost target m → IsIn m (monos_within target)
unfolding monos_within first_of size type_of
all-within target m small h = in-map first_of (m ∷ []) (forests 1 24 (letters_of 0 target)) (forest-among 24 (m ∷ []) (letters_of 0 target) (omega (arith, size-degree m, degree-at_most target m h)) counts)
  where
    counts : (g : ℕ) → total (count g) (m ∷ []) ≤ occurs g (letters_of 0 target)
    counts g = elim (cases_lt g (length target)) [
      | inl l ↦ omega (arith, within-occurs (λ i. count i m) 0 target h.counts g (omega arith) (omega arith))
      | inr l ↦ omega (arith, count-past (length target) g m h.below l)
    ]
