-- Types of monomials together, and the tests of the code.
use Rattle.std.proofs.Common.{take, map, ◌≡◌, ℕ, zero, suc, ◌+◌, ◌<◌, ◌≤◌, Bool, true, false, List, [], ◌∷◌, length, get_or, refl, ap, ◌∙◌, arith}
use Rattle.std.specs.Prelude.{◌&&◌, nat_le}
use Rattle.std.proofs.lemmas.Bool.Decides.{nat_tests}
use Rattle.std.proofs.lemmas.List.{take_more, map-append}
use Rattle.gf_sums.specs.Sums.{total}
use Rattle.gf_sums.proofs.Totals.{total-append}
use Rattle.alb_mono.specs.Tree.{listed, type_le}

-- each number is at most the target's
pub within_all : (f : ℕ → ℕ) (k : ℕ) (target : List ℕ) → ((i : ℕ) → i < length target → f (k + i) ≤ get_or target i 0) → type_le (listed f k (length target)) target ≡ true
within_all f k [] h = refl
within_all f k (x ∷ target) h =
    let here : f (k + 0) ≤ x = h 0 (omega arith) in
    let e : k + 0 ≡ k = omega arith in
    let first : nat_le (f k) x ≡ true = grind (arith, nat_tests, ap f e) in
    rw first (within_all f (suc k) target (λ i l.
    let q : suc k + i ≡ k + suc i = omega arith in
    let later : f (k + suc i) ≤ get_or target i 0 = h (suc i) (omega arith) in omega (arith, later, ap f q)))

and_false : (a : Bool) → (a && false) ≡ false
and_false true = refl
and_false false = refl

-- one number is above the target's
pub within_not : (f : ℕ → ℕ) (k : ℕ) (target : List ℕ) (i : ℕ) → i < length target → get_or target i 0 < f (k + i) → type_le (listed f k (length target)) target ≡ false
within_not f k [] i l h = absurd (omega arith)
within_not f k (x ∷ target) zero l h =
    let e : k + 0 ≡ k = omega arith in
    let first : nat_le (f k) x ≡ false = grind (arith, nat_tests, ap f e, h) in rw first refl
within_not f k (x ∷ target) (suc i) l h =
    let q : suc k + i ≡ k + suc i = omega arith in
    let later : get_or target i 0 < f (suc k + i) = omega (arith, ap f q, h) in
    rw (within_not f (suc k) target i (omega arith) later) (and_false _)

-- one more element of a list whose images are added up
pub total-more : {X Y : Type 0} (w : Y → ℕ) (h : X → Y) (xs : List X) (i : ℕ) (x : X) → i < length xs → x ≡ get_or xs i x →
    total w (map h (take (i + 1) xs)) ≡ total w (map h (take i xs)) + w (h x)
total-more w h xs i x l e =
    ap (λ ys. total w (map h ys)) (take_more xs i x l)
    ∙ ap (total w) (map-append h (take i xs) (get_or xs i x ∷ []))
    ∙ omega (arith, total-append w (map h (take i xs)) (map h (get_or xs i x ∷ [])), ap (λ y. w (h y)) e)
