-- The types of a table: all within its target up to a degree, ascending.
use Rattle.std.proofs.Common.{◌≡◌, ℕ, zero, suc, ◌+◌, ◌<◌, ◌≤◌, true, List, [], ◌∷◌, length, get_or, sym, refl, ◌∙◌, arith, inl, inr, ◌⊎◌, subst, sum}
use Rattle.std.specs.Prelude.{All}
use Rattle.std.specs.List.{flat_map}
use Rattle.std.specs.Ordering.{nat_cmp}
use Rattle.std.specs.declared.cmp.Ordering.TheVariants.{Less, Equal}
use Rattle.std.proofs.lemmas.Bool.Decides.{nat_tests}
use Rattle.std.proofs.lemmas.Cmp.{tied_itself}
use Rattle.alb_mono.specs.Tree.{type_le, cmp_types, types_of, IsTypeWithin, rising}
use Rattle.alb_mono.specs.Listing.{Each, IsIn, Ascends}
use Rattle.alb_mono.proofs.Order.{cmp_types_total}
use Rattle.alb_mono.proofs.TypeLemmas.{le_at}
use Rattle.alb_mono.proofs.TypesListing.{types_of-listing}
use Rattle.alb_mono.proofs.ListingLemmas.{each-weaker, each-flat, in-flat, ascends-append}
use Rattle.alb_table.specs.Table.{types_to}
use Rattle.alb_table.proofs.PartLemmas.{sum-cons}
use Rattle.std.proofs.lemmas.Bool.{cases_lt}

pub each-rising : (P : ℕ → Type 0) (k n : ℕ) → ((d : ℕ) → k ≤ d → d < k + n → P d) → Each P (rising k n)
each-rising P k zero h = tt
each-rising P k (suc n) h = (h k (omega arith) (omega arith), each-rising P (suc k) n (λ d a b. h d (omega arith) (omega arith)))

pub in-rising : (k n d : ℕ) → k ≤ d → d < k + n → IsIn d (rising k n)
in-rising k zero d a b = absurd (omega arith)
in-rising k (suc n) d a b = elim (first k d a) [ inl q ↦ inl q | inr q ↦ inr (in-rising (suc k) n d q (omega arith)) ]
  where
    first : (k d : ℕ) → k ≤ d → (d ≡ k) ⊎ (suc k ≤ d)
    first k d h = grind arith

-- a type within a target, of degree 1 to d
pub record IsTypeTo (target : List ℕ) (d : ℕ) (w : List ℕ) : Type 0 where
  pub long : length w ≡ length target
  pub within : type_le w target ≡ true
  pub some : 0 < sum w
  pub degree_le : sum w ≤ d

pub types_to-each : (target : List ℕ) (d : ℕ) → Each (IsTypeTo target d) (types_to target d)
types_to-each target d =
    each-flat (IsTypeTo target d) (types_of target) (rising 1 d)
    (each-rising (λ k. Each (IsTypeTo target d) (types_of target k)) 1 d
    (λ k a b. each-weaker (IsTypeWithin target k) (IsTypeTo target d) (types_of target k)
    (λ w h. let e : sum w ≡ k = h.degree in record { long = h.long; within = h.within; some = omega arith; degree_le = omega arith })
    (types_of-listing target k).each))

pub types_to-all : (target : List ℕ) (d : ℕ) (w : List ℕ) → IsTypeTo target d w → IsIn w (types_to target d)
types_to-all target d w h =
    let s : 0 < sum w = h.some in let e : sum w ≤ d = h.degree_le in
    in-flat (types_of target) (sum w) w (rising 1 d) (in-rising 1 d (sum w) (omega arith) (omega arith))
    ((types_of-listing target (sum w)).all w (record { long = h.long; within = h.within; degree = refl }))

nat_less : (a b : ℕ) → a < b → nat_cmp a b ≡ Less
nat_less a b h = grind (arith, nat_tests)

pub degree_first : (t u : List ℕ) → sum t < sum u → cmp_types t u ≡ Less
degree_first t u h = rw (nat_less (sum t) (sum u) h)

pub apart : (t u : List ℕ) → cmp_types t u ≡ Less → t ≡ u → ⊥
apart t u h e =
    let q : cmp_types t u ≡ Equal = subst (λ w. cmp_types t w ≡ Equal) e (tied_itself cmp_types_total t) in
    let r : Less ≡ Equal = sym h ∙ q in absurd (cc)

pub degrees_rise : (t u : List ℕ) → cmp_types t u ≡ Less → sum t ≤ sum u
degrees_rise t u h = elim (cases_lt (sum u) (sum t)) [
  | inr s ↦ s
  | inl s ↦ absurd (apart t t (cmp_types_total.trans t u t h (degree_first u t s)) refl)
]

degrees_above : (target : List ℕ) (k n : ℕ) → Each (λ u. k < sum u) (flat_map (types_of target) (rising (suc k) n))
degrees_above target k n =
    each-flat (λ u. k < sum u) (types_of target) (rising (suc k) n)
    (each-rising (λ d. Each (λ u. k < sum u) (types_of target d)) (suc k) n
    (λ d a b. each-weaker (IsTypeWithin target d) (λ u. k < sum u) (types_of target d) (λ u h. let e : sum u ≡ d = h.degree in omega arith) (types_of-listing target d).each))

ascends_from : (target : List ℕ) (k n : ℕ) → Ascends cmp_types (flat_map (types_of target) (rising k n))
ascends_from target k zero = tt
ascends_from target k (suc n) =
    ascends-append cmp_types (types_of target k) (flat_map (types_of target) (rising (suc k) n)) (types_of-listing target k).ascends (ascends_from target (suc k) n)
    (each-weaker (IsTypeWithin target k) (λ t. Each (λ u. cmp_types t u ≡ Less) (flat_map (types_of target) (rising (suc k) n))) (types_of target k)
    (λ t h. let e : sum t ≡ k = h.degree in
    each-weaker (λ u. k < sum u) (λ u. cmp_types t u ≡ Less) (flat_map (types_of target) (rising (suc k) n)) (λ u g. degree_first t u (omega arith)) (degrees_above target k n))
    (types_of-listing target k).each)

pub types_to-ascends : (target : List ℕ) (d : ℕ) → Ascends cmp_types (types_to target d)
types_to-ascends target d = ascends_from target 1 d

pub at_le_sum : (xs : List ℕ) (i d : ℕ) → i < length xs → get_or xs i d ≤ sum xs
at_le_sum [] i d h = absurd (omega arith)
at_le_sum (x ∷ xs) zero d h = omega (arith, sum-cons x xs)
at_le_sum (x ∷ xs) (suc i) d h = let r : get_or xs i d ≤ sum xs = at_le_sum xs i d (omega arith) in omega (arith, sum-cons x xs)

-- the counts of a type within a target of degree at most 12
pub counts_small : (target w : List ℕ) → length w ≡ length target → type_le w target ≡ true → sum target ≤ 12 → All (λ c. c ≤ 12) w
counts_small target w l h s k d i =
    let a : get_or w k d ≤ get_or target k d = le_at target w k d d h i (sym l) in
    let b : get_or target k d ≤ sum target = at_le_sum target k d (omega arith) in
    omega arith
