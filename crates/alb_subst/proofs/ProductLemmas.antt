-- The products of a type: how many there are, and that they differ.
use Rattle.std.proofs.Common.{◌≡◌, ℕ, zero, suc, ◌+◌, ◌-◌, ◌*◌, ◌^◌, ◌<◌, ◌≤◌, ◌==◌, true, false, List, [], ◌∷◌, ◌++◌, map, length, reverse, sym, refl, ap, ◌∙◌, arith, inl, inr, subst, length-append, add-one}
use Rattle.std.proofs.Math.Nat.{mul-le-mul_left}
use Rattle.std.proofs.lemmas.Bool.{cases_Bool}
use Rattle.std.proofs.lemmas.Bool.Decides.{nat_tests}
use Rattle.std.proofs.lemmas.List.{map-append, reverse-append}
use Rattle.gf_sums.specs.Sums.{total}
use Rattle.alb_mono.specs.Listing.{Each, Ascends}
use Rattle.alb_mono.specs.Tree.{cmp_types, rising, splits}
use Rattle.alb_mono.proofs.ListingLemmas.{each-weaker, each-append, each-map, each-flat, each-always}
use Rattle.alb_mono.proofs.TypeLemmas.{rising_more, rising_step}
use Rattle.alb_mono.proofs.TypesListing.{splits-listing}
use Rattle.alb_poly.specs.Poly.{list_eq}
use Rattle.alb_table.specs.Table.{same_pair, rectangle, PartView, first_of, dim_of, elems, products, products_of}
use Rattle.alb_subst.specs.Columns.{IsDistinct}
use Rattle.alb_subst.specs.Products.{split_size}
use Rattle.alb_linear.proofs.IdentityLemmas.{list_eq-sound, list_eq-itself}
use Rattle.alb_table.proofs.PartLemmas.{list_eq-other, elems_step}
use Rattle.alb_table.proofs.RangeLemmas.{range_within}
use Rattle.alb_table.proofs.TypesTo.{apart as types_apart, each-rising}
use Rattle.alb_table.proofs.GridLemmas.{length-rectangle}
use Rattle.alb_subst.proofs.SumLemmas.{pair-turned}

-- ---- lists of different pairs

distinct-append : (xs ys : List (ℕ × ℕ)) → IsDistinct xs → IsDistinct ys → Each (λ x. Each (λ y. same_pair y x ≡ false) ys) xs → IsDistinct (xs ++ ys)
distinct-append [] ys a b e = b
distinct-append (x ∷ xs) ys a b e = (each-append (λ y. same_pair y x ≡ false) xs ys a.0 e.0, distinct-append xs ys a.1 b e.1)

other-left : (x y : ℕ × ℕ) → (x.0 ≡ y.0 → ⊥) → same_pair x y ≡ false
other-left x y h = elim (cases_Bool (x.0 == y.0)) [ inr e ↦ rw e refl | inl e ↦ absurd (h (let q : (x.0 == y.0) ≡ true = e in grind (arith, nat_tests))) ]

other-right : (i j k : ℕ) → k < j → same_pair (i, j) (i, k) ≡ false
other-right i j k h = let e : (j == k) ≡ false = grind (arith, nat_tests) in let f : (i == i) ≡ true = grind (arith, nat_tests) in rw (f, e) refl

each-reverse : (P : ℕ × ℕ → Type 0) (xs : List (ℕ × ℕ)) → Each P xs → Each P (reverse xs)
each-reverse P [] h = tt
each-reverse P (x ∷ xs) h = subst (Each P) (sym (reverse-append (x ∷ []) xs)) (each-append P (reverse xs) (x ∷ []) (each-reverse P xs h.1) (h.0, tt))

pub distinct-reverse : (xs : List (ℕ × ℕ)) → IsDistinct xs → IsDistinct (reverse xs)
distinct-reverse [] h = tt
distinct-reverse (x ∷ xs) h =
    subst IsDistinct (sym (reverse-append (x ∷ []) xs))
    (distinct-append (reverse xs) (x ∷ []) (distinct-reverse xs h.1) (tt, tt)
    (each-reverse _ xs (each-weaker (λ y. same_pair y x ≡ false) _ xs (λ y e. (pair-turned y x e, tt)) h.0)))

-- ---- rectangles

abbrev row : ℕ → ℕ → ℕ → List (ℕ × ℕ)
row i b m = map (λ j. (i, j)) (rising b m)

distinct-row : (i b m : ℕ) → IsDistinct (row i b m)
distinct-row i b zero = tt
distinct-row i b (suc m) = (each-map _ (λ j. (i, j)) (rising (suc b) m) (each-rising _ (suc b) m (λ j l h. other-right i j b (omega arith))), distinct-row i (suc b) m)

lefts-of : (a n b m : ℕ) → Each (λ q. (a ≤ q.0) × (q.0 < a + n)) (rectangle a n b m)
lefts-of a n b m = each-flat _ (λ i. row i b m) (rising a n) (each-rising _ a n (λ i l h. each-map _ (λ j. (i, j)) (rising b m) (each-always _ (rising b m) (λ j. (l, h)))))

distinct-rectangle : (a n b m : ℕ) → IsDistinct (rectangle a n b m)
distinct-rectangle a zero b m = tt
distinct-rectangle a (suc n) b m =
    distinct-append (row a b m) (rectangle (suc a) n b m) (distinct-row a b m) (distinct-rectangle (suc a) n b m)
    (each-map _ (λ j. (a, j)) (rising b m) (each-always _ (rising b m) (λ j.
    each-weaker (λ q. (suc a ≤ q.0) × (q.0 < suc a + n)) (λ y. same_pair y (a, j) ≡ false) (rectangle (suc a) n b m)
    (λ y h. other-left y (a, j) (λ e. let l = h.0 in omega arith)) (lefts-of (suc a) n b m))))

-- ---- the numbers of different types differ

apart : (parts : List PartView) (t u : List ℕ) (b : ℕ) → list_eq t u ≡ false → first_of parts t ≤ b → b < first_of parts t + dim_of parts t →
    first_of parts u ≤ b → b < first_of parts u + dim_of parts u → ⊥
apart [] t u b d h k l m = omega arith
apart (q ∷ qs) t u b d h k l m = elim (cases_Bool (list_eq q.at t)) [
  | inl e ↦ elim (cases_Bool (list_eq q.at u)) [
    | inl f ↦
        let g : t ≡ u = sym (list_eq-sound q.at t e) ∙ list_eq-sound q.at u f in
        let i : list_eq t u ≡ true = ap (list_eq t) (sym g) ∙ list_eq-itself t in absurd (cc)
    | inr f ↦ let k' = rw e at k in let l' = rw f at l in omega (arith, k', l')
  ]
  | inr e ↦ elim (cases_Bool (list_eq q.at u)) [
    | inl f ↦ let h' = rw e at h in let m' = rw f at m in omega (arith, h', m')
    | inr f ↦
        let h' = rw e at h in let k' = rw e at k in let l' = rw f at l in let m' = rw f at m in
        apart qs t u (b - length q.basis) d (omega (arith, h')) (omega (arith, h', k')) (omega (arith, l')) (omega (arith, l', m'))
  ]
]

-- no later left type is an earlier one
abbrev pub LeftsDiffer : List (List ℕ × List ℕ) → Type 0
LeftsDiffer [] = Unit {0}
LeftsDiffer (s ∷ ss) = Each (λ r. list_eq s.0 r.0 ≡ false) ss × LeftsDiffer ss

differ-ascending : (ss : List (List ℕ × List ℕ)) → Ascends (λ q r. cmp_types q.0 r.0) ss → LeftsDiffer ss
differ-ascending [] a = tt
differ-ascending (s ∷ ss) a = (each-weaker _ _ ss (λ r h. list_eq-other s.0 r.0 (types_apart s.0 r.0 h)) a.0, differ-ascending ss a.1)

pub splits-differ : (t : List ℕ) → LeftsDiffer (splits t)
splits-differ t = differ-ascending (splits t) (splits-listing t).ascends

abbrev products_by : List PartView → List ℕ × List ℕ → List (ℕ × ℕ)
products_by parts s = rectangle (first_of parts s.0) (dim_of parts s.0) (first_of parts s.1) (dim_of parts s.1)

distinct-products_of : (parts : List PartView) (ss : List (List ℕ × List ℕ)) → LeftsDiffer ss → IsDistinct (products_of parts ss)
distinct-products_of parts [] h = tt
distinct-products_of parts (s ∷ ss) h =
    distinct-append (products_by parts s) (products_of parts ss) (distinct-rectangle (first_of parts s.0) (dim_of parts s.0) (first_of parts s.1) (dim_of parts s.1)) (distinct-products_of parts ss h.1)
    (each-weaker (λ x. (first_of parts s.0 ≤ x.0) × (x.0 < first_of parts s.0 + dim_of parts s.0)) _ (products_by parts s)
    (λ x k. each-flat _ (products_by parts) ss (each-weaker (λ r. list_eq s.0 r.0 ≡ false) _ ss
    (λ r d. each-weaker (λ y. (first_of parts r.0 ≤ y.0) × (y.0 < first_of parts r.0 + dim_of parts r.0)) _ (products_by parts r)
    (λ y m. other-left y x (λ e. apart parts s.0 r.0 x.0 d k.0 k.1 (subst (λ n. first_of parts r.0 ≤ n) e m.0) (subst (λ n. n < first_of parts r.0 + dim_of parts r.0) e m.1)))
    (lefts-of (first_of parts r.0) (dim_of parts r.0) (first_of parts r.1) (dim_of parts r.1))) h.0))
    (lefts-of (first_of parts s.0) (dim_of parts s.0) (first_of parts s.1) (dim_of parts s.1)))

pub distinct-products : (parts : List PartView) (t : List ℕ) → IsDistinct (products parts t)
distinct-products parts t = distinct-products_of parts (splits t) (splits-differ t)

-- ---- how many there are

pub length-products_of : (parts : List PartView) (ss : List (List ℕ × List ℕ)) → length (products_of parts ss) ≡ total (split_size parts) ss
length-products_of parts [] = refl
length-products_of parts (s ∷ ss) =
    length-append (products_by parts s) (products_of parts ss)
    ∙ (let k = length-products_of parts ss in let r = length-rectangle (first_of parts s.0) (dim_of parts s.0) (first_of parts s.1) (dim_of parts s.1) in omega arith)

dim-most : (parts : List PartView) (t : List ℕ) → dim_of parts t ≤ length (elems parts)
dim-most [] t = omega arith
dim-most (q ∷ qs) t = let l = elems_step q qs in let k = dim-most qs t in elim (cases_Bool (list_eq q.at t)) [ inl e ↦ rw e (omega arith) | inr e ↦ rw e (omega arith) ]

abbrev left_size : List PartView → List ℕ × List ℕ → ℕ
left_size parts s = dim_of parts s.0

other-sizes : (q : PartView) (qs : List PartView) (ss : List (List ℕ × List ℕ)) → Each (λ r. list_eq q.at r.0 ≡ false) ss → total (left_size (q ∷ qs)) ss ≡ total (left_size qs) ss
other-sizes q qs [] h = refl
other-sizes q qs (s ∷ ss) h = rw (h.0, other-sizes q qs ss h.1) refl

head-sizes : (q : PartView) (qs : List PartView) (ss : List (List ℕ × List ℕ)) → LeftsDiffer ss → total (left_size (q ∷ qs)) ss ≤ length q.basis + total (left_size qs) ss
head-sizes q qs [] h = omega arith
head-sizes q qs (s ∷ ss) h = elim (cases_Bool (list_eq q.at s.0)) [
  | inl e ↦
      let o = other-sizes q qs ss (each-weaker _ _ ss (λ r d. ap (λ z. list_eq z r.0) (list_eq-sound q.at s.0 e) ∙ d) h.0) in
      rw e (omega (arith, o))
  | inr e ↦ rw e (omega (arith, head-sizes q qs ss h.1))
]

lefts-most : (parts : List PartView) (ss : List (List ℕ × List ℕ)) → LeftsDiffer ss → total (left_size parts) ss ≤ length (elems parts)
lefts-most [] [] h = omega arith
lefts-most [] (s ∷ ss) h = let k : total (left_size []) ss ≤ 0 = lefts-most [] ss h.1 in omega arith
lefts-most (q ∷ qs) ss h = omega (arith, head-sizes q qs ss h, lefts-most qs ss h, elems_step q qs)

sizes-most : (parts : List PartView) (ss : List (List ℕ × List ℕ)) → total (split_size parts) ss ≤ length (elems parts) * total (left_size parts) ss
sizes-most parts [] = omega arith
sizes-most parts (s ∷ ss) =
    let n : ℕ = length (elems parts) in
    let k : dim_of parts s.0 * dim_of parts s.1 ≤ dim_of parts s.0 * n = mul-le-mul_left (dim_of parts s.0) (dim-most parts s.1) in
    let l : total (split_size parts) ss ≤ n * total (left_size parts) ss = sizes-most parts ss in
    omega (arith, k, l)

squares : (n m k : ℕ) → n < 2 ^ 32 → m ≤ n → k ≤ n * m → k < 2 ^ 64
squares n m k h l g =
    let a : n * m ≤ n * 4294967295 = mul-le-mul_left n (omega arith) in
    omega (arith, a)

pub sizes-fit : (parts : List PartView) (t : List ℕ) → length (elems parts) < 2 ^ 32 → total (split_size parts) (splits t) < 2 ^ 64
sizes-fit parts t h = squares (length (elems parts)) _ _ h (lefts-most parts (splits t) (splits-differ t)) (sizes-most parts (splits t))

-- ---- loops

pub row_more : (b first k : ℕ) → row b first (k + 1) ≡ row b first k ++ (b, first + k) ∷ []
row_more b first k = rw add-one (ap (map (λ j. (b, j))) (rising_more first k) ∙ map-append (λ j. (b, j)) (rising first k) ((first + k) ∷ []))

pub range-fits : (parts : List PartView) (t : List ℕ) → length (elems parts) < 2 ^ 32 → first_of parts t + dim_of parts t < 2 ^ 32
range-fits parts t h = let k = range_within parts t in omega arith

pub rectangle_more : (a b m k : ℕ) → rectangle a (k + 1) b m ≡ rectangle a k b m ++ row (a + k) b m
rectangle_more a b m k = rising_step (λ i. row i b m) a (a + k) k (k + 1) refl refl
