-- The type of a monomial, as a test and as counts.
use Rattle.std.proofs.Common.{◌≡◌, ◌≢◌, ℕ, ◌<◌, ◌≤◌, Bool, true, false, List, [], ◌∷◌, length, get_or, sym, refl, ap, ◌∙◌, arith, inl, inr}
use Rattle.std.specs.Prelude.{◌==◌, if◌then◌else◌}
use Rattle.std.proofs.lemmas.Bool.{cases_Bool, cases_lt, false≢true, eqb-true, eq-eqb}
use Rattle.std.proofs.lemmas.Bool.Decides.{nat_tests}
use Rattle.std.proofs.lemmas.Grind.{same_number_lists}
use Rattle.alb_mono.specs.Tree.{Tree, leaf, node, count, type_of, are_below, AreBelow}
use Rattle.alb_mono.proofs.Both.{and_left, and_right, both_true}
use Rattle.alb_mono.proofs.Leaves.{length-type_of, below_from_test, get-type}
use Rattle.alb_poly.specs.Poly.{list_eq, has_type}
use Rattle.alb_poly.specs.Instance.{HasType}

-- ---- lists of numbers

pub list_eq-itself : (xs : List ℕ) → list_eq xs xs ≡ true
list_eq-itself [] = refl
list_eq-itself (x ∷ xs) = both_true (x == x) (list_eq xs xs) (eq-eqb x x refl) (list_eq-itself xs)

pub list_eq-sound : (xs ys : List ℕ) → list_eq xs ys ≡ true → xs ≡ ys
list_eq-sound [] [] h = refl
list_eq-sound [] (y ∷ ys) h = absurd (false≢true h)
list_eq-sound (x ∷ xs) [] h = absurd (false≢true h)
list_eq-sound (x ∷ xs) (y ∷ ys) h =
    let p : x ≡ y = eqb-true x y (and_left (x == y) (list_eq xs ys) h) in
    let q : xs ≡ ys = list_eq-sound xs ys (and_right (x == y) (list_eq xs ys) h) in cc

pub list_eq-other : (xs ys : List ℕ) → xs ≢ ys → list_eq xs ys ≡ false
list_eq-other xs ys h = elim (cases_Bool (list_eq xs ys)) [ inl e ↦ absurd (h (list_eq-sound xs ys e)) | inr e ↦ e ]

-- ---- generators below a number

pub test_from_below : (n : ℕ) (m : Tree) → AreBelow n m → are_below n m ≡ true
test_from_below n (leaf k) h = grind (arith, nat_tests)
test_from_below n (node l r) h = both_true (are_below n l) (are_below n r) (test_from_below n l h.0) (test_from_below n r h.1)

pub none_past : (g n : ℕ) (m : Tree) → AreBelow n m → n ≤ g → count g m ≡ 0
none_past g n (leaf k) h l = let e : (k == g) ≡ false = grind (arith, nat_tests) in rw e refl
none_past g n (node l r) h k = omega (arith, none_past g n l h.0 k, none_past g n r h.1 k)

below-none : (n : ℕ) (m : Tree) → ((g : ℕ) → n ≤ g → count g m ≡ 0) → AreBelow n m
below-none n (leaf k) h = elim (cases_lt k n) [
  | inl l ↦ l
  | inr g ↦ absurd (let e : (k == k) ≡ true = eq-eqb k k refl in let z : (if k == k then 1 else 0) ≡ 0 = h k g in let o = rw e at z in omega arith)
]
below-none n (node l r) h = (below-none n l (λ g k. omega (arith, h g k)), below-none n r (λ g k. omega (arith, h g k)))

-- ---- types

pub has_type-sound : (e : List ℕ) (m : Tree) → has_type e m ≡ true → HasType e m
has_type-sound e m h =
    let b : AreBelow (length e) m = below_from_test (length e) m (and_left (are_below (length e) m) (list_eq (type_of (length e) m) e) h) in
    let q : type_of (length e) m ≡ e = list_eq-sound _ e (and_right (are_below (length e) m) (list_eq (type_of (length e) m) e) h) in
    record { below = b; counts = λ v k. sym (ap (λ z. get_or z v 0) (sym q) ∙ get-type (length e) m v k) }

pub type-is : (e : List ℕ) (m : Tree) → HasType e m → type_of (length e) m ≡ e
type-is e m h =
    same_number_lists (type_of (length e) m) e (length-type_of (length e) m)
    (λ k l. let u : k < length e = omega (arith, length-type_of (length e) m, l) in get-type (length e) m k u ∙ h.counts k u)

pub has_type-whole : (e : List ℕ) (m : Tree) → HasType e m → has_type e m ≡ true
has_type-whole e m h =
    both_true (are_below (length e) m) (list_eq (type_of (length e) m) e) (test_from_below (length e) m h.below)
    (ap (λ z. list_eq z e) (type-is e m h) ∙ list_eq-itself e)

-- over the generators of `e` a monomial has the type that `type_of` gives it
pub has_type-of : (n : ℕ) (e : List ℕ) (m : Tree) → length e ≡ n → are_below n m ≡ true → type_of n m ≡ e → has_type e m ≡ true
has_type-of n e m l b q =
    both_true (are_below (length e) m) (list_eq (type_of (length e) m) e) (ap (λ k. are_below k m) l ∙ b)
    (ap (λ k. list_eq (type_of k m) e) l ∙ ap (λ z. list_eq z e) q ∙ list_eq-itself e)

pub has_type-is : (n : ℕ) (e : List ℕ) (m : Tree) → length e ≡ n → has_type e m ≡ true → type_of n m ≡ e
has_type-is n e m l h = ap (λ k. type_of k m) (sym l) ∙ list_eq-sound (type_of (length e) m) e (and_right (are_below (length e) m) (list_eq (type_of (length e) m) e) h)

pub has_type-not : (n : ℕ) (e : List ℕ) (m : Tree) → length e ≡ n → type_of n m ≢ e → has_type e m ≡ false
has_type-not n e m l ne = elim (cases_Bool (has_type e m)) [ inl h ↦ absurd (ne (has_type-is n e m l h)) | inr h ↦ h ]

-- ---- the test sees how often each generator occurs, and nothing else

counts-type : (e : List ℕ) (x y : Tree) → ((g : ℕ) → count g x ≡ count g y) → HasType e x → HasType e y
counts-type e x y h t = record {
  below = below-none (length e) y (λ g k. sym (h g) ∙ none_past g (length e) x t.below k);
  counts = λ v k. sym (h v) ∙ t.counts v k;
}

pub has_type-counts : (e : List ℕ) (x y : Tree) → ((g : ℕ) → count g x ≡ count g y) → has_type e x ≡ has_type e y
has_type-counts e x y h = same_tests (has_type e x) (has_type e y)
    (λ k. has_type-whole e y (counts-type e x y h (has_type-sound e x k)))
    (λ k. has_type-whole e x (counts-type e y x (λ g. sym (h g)) (has_type-sound e y k)))
  where
    same_tests : (a b : Bool) → (a ≡ true → b ≡ true) → (b ≡ true → a ≡ true) → a ≡ b
    same_tests true b h k = sym (h refl)
    same_tests false true h k = k refl
    same_tests false false h k = refl
