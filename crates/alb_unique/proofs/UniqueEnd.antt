-- The building of the tables of one problem ends at one degree, and in one way.
use Rattle.std.proofs.Common.{◌≡◌, ℕ, suc, ◌+◌, ◌-◌, ◌<◌, ◌≤◌, List, [], ◌∷◌, ◌++◌, length, sum, refl, sym, ap, ◌∙◌, subst, inl, inr, arith}
use Rattle.std.specs.Prelude.{Some, None, nat_lt, if◌then◌else◌}
use Rattle.std.specs.List.{flat_map}
use Rattle.std.proofs.lemmas.Bool.{cases_Bool, cases_order, cases_lt}
use Rattle.std.proofs.lemmas.Bool.Decides.{nat_tests}
use Rattle.gf_sums.specs.Sums.{total}
use Rattle.gf_sums.proofs.Totals.{total-append, total-map}
use Rattle.alb_mono.specs.Listing.{Each, IsIn}
use Rattle.alb_mono.specs.Tree.{rising, types_of, IsTypeWithin}
use Rattle.alb_mono.proofs.ListingLemmas.{each-member, each-weaker, each-map}
use Rattle.alb_mono.proofs.TypesListing.{types_of-listing}
use Rattle.alb_poly.specs.Instance.{Form}
use Rattle.alb_poly.specs.Consequence.{AreMultilinear}
use Rattle.alb_build.proofs.CellCounts.{coefficients-append}
use Rattle.alb_table.specs.End.{End, Complete, TooWide, TooManyProducts, TooManyCoefficients, NoMemory, IsEnd, NextHas, first_wide}
use Rattle.alb_table.specs.Table.{next_types, wide, next_products, most_of_type, IsWithinLimits, PartView, Table, IsTable, IsPartOf, count_products, count_coefficients, extended}
use Rattle.alb_table.specs.Right.{AreHigh, IsRight}
use Rattle.alb_table.specs.RightTable.{IsRightTable, basis_monos, mono_entry}
use Rattle.alb_table.proofs.RangeLemmas.{ats}
use Rattle.alb_unique.specs.Laws.{EndIsUnique, EndIsLast}
use Rattle.alb_unique.proofs.SameShapes.{coefficients-same, HasFront}
use Rattle.alb_unique.proofs.SameTables.{IsNextType, lower, same-products, type-next, have-same-entries}

-- ---- lists

total-each : {X : Type 0} (f g : X → ℕ) (xs : List X) → Each (λ x. f x ≡ g x) xs → total f xs ≡ total g xs
total-each f g [] h = refl
total-each f g (x ∷ xs) h = omega (arith, h.0, total-each f g xs h.1)

each-in : {X : Type 0} (P : X → Type 0) (xs : List X) → ((x : X) → IsIn x xs → P x) → Each P xs
each-in P [] h = tt
each-in P (x ∷ xs) h = (h x (inl refl), each-in P xs (λ y i. h y (inr i)))

-- as many products as the types have
count-by-types : (v : Table) → IsTable v → count_products v.parts ≡ total (wide v) (ats v.parts)
count-by-types v k =
    total-each (λ (q : PartView). length q.entries) (λ (q : PartView). wide v q.at) v.parts (each-weaker (IsPartOf v.p v.parts v.parts) (λ (q : PartView). length q.entries ≡ wide v q.at) v.parts (λ q z. z.full) k.each)
    ∙ sym (total-map (wide v) (λ (q : PartView). q.at) v.parts)

next-type : (t : Table) → Each (IsNextType t) (next_types t)
next-type t = each-weaker (IsTypeWithin t.target (t.degree + 1)) (IsNextType t) (next_types t) (λ w h. record { long = h.long; within = h.within; degree = omega (arith, h.degree) }) (types_of-listing t.target (t.degree + 1)).each

-- the first type that is too wide
wide-found : (t : Table) (ws : List (List ℕ)) (w : List ℕ) → first_wide t ws ≡ Some w → IsIn w ws × (most_of_type < wide t w)
wide-found t [] w h = absurd (cc)
wide-found t (x ∷ ws) w h = elim (cases_Bool (nat_lt most_of_type (wide t x))) [
  | inl s ↦ (
      let q : Some x ≡ Some w = rw s at h in
      let e : x ≡ w = cc in
      let l : most_of_type < wide t x = grind (arith, nat_tests, s) in
      (inl (sym e), subst (λ y. most_of_type < wide t y) e l))
  | inr s ↦ let r = wide-found t ws w (rw s at h) in (inr r.0, r.1)
]

first-wide-same : (t u : Table) (ws : List (List ℕ)) → Each (λ w. wide t w ≡ wide u w) ws → first_wide t ws ≡ first_wide u ws
first-wide-same t u [] h = refl
first-wide-same t u (w ∷ ws) h =
    ap (λ n. if nat_lt most_of_type n then Some w else first_wide t ws) h.0 ∙ ap (λ o. if nat_lt most_of_type (wide u w) then Some w else o) (first-wide-same t u ws h.1)

-- a type of a table is narrow
narrow : (u : Table) → IsTable u → IsWithinLimits u → (w : List ℕ) → IsIn w (ats u.parts) → wide u w ≤ most_of_type
narrow u k limits w i = each-member (λ v. wide u v ≤ most_of_type) (ats u.parts) w
    (each-map (λ v. wide u v ≤ most_of_type) (λ (q : PartView). q.at) u.parts (each-in (λ (q : PartView). wide u q.at ≤ most_of_type) u.parts (λ q j.
    let full = (each-member (IsPartOf u.p u.parts u.parts) u.parts q k.each j).full in
    let few = each-member (λ (v : PartView). length v.entries ≤ most_of_type) u.parts q limits.types j in
    omega (arith, full, few)))) i

in-left : {X : Type 0} (x : X) (xs ys : List X) → IsIn x xs → IsIn x (xs ++ ys)
in-left x [] ys h = absurd h
in-left x (z ∷ xs) ys (inl q) = inl q
in-left x (z ∷ xs) ys (inr h) = inr (in-left x xs ys h)

in-right : {X : Type 0} (x : X) (xs ys : List X) → IsIn x ys → IsIn x (xs ++ ys)
in-right x [] ys h = h
in-right x (z ∷ xs) ys h = inr (in-right x xs ys h)

-- ---- two tables, the second of which has the degree of the first at least

module _ (fs : List Form) (multi : AreMultilinear fs) (high : AreHigh fs) (t u : Table) (tab : IsTable t) (tab' : IsTable u)
    (field : u.p ≡ t.p) (goal : u.target ≡ t.target) (deg : t.degree ≤ u.degree)
    (right : IsRight t.p fs t.target t.degree (basis_monos t.parts) (mono_entry t.parts))
    (right' : IsRight u.p fs u.target u.degree (basis_monos u.parts) (mono_entry u.parts)) where
  abbrev more : List (List ℕ)
  more = flat_map (types_of t.target) (rising (1 + t.degree) (u.degree - t.degree))

  abbrev low : HasFront u.parts (ats t.parts) more
  low = lower fs multi high t u tab tab' field goal deg right right'

  types-are : ats u.parts ≡ ats t.parts ++ more
  types-are = ap ats low.parts_are ∙ ats-append low.front low.rest ∙ ap (λ ws. ws ++ ats low.rest) low.types ∙ ap (λ ws. ats t.parts ++ ws) low.others
    where
      ats-append : (ps qs : List PartView) → ats (ps ++ qs) ≡ ats ps ++ ats qs
      ats-append [] qs = refl
      ats-append (p ∷ ps) qs = ap (λ ws. p.at ∷ ws) (ats-append ps qs)

  wide-same : (w : List ℕ) → IsNextType t w → wide t w ≡ wide u w
  wide-same w h = ap length (same-products fs multi high t u tab tab' field goal deg right right' w h)

  old-same : total (wide t) (ats t.parts) ≡ total (wide u) (ats t.parts)
  old-same = total-each (wide t) (wide u) (ats t.parts) (each-in (λ w. wide t w ≡ wide u w) (ats t.parts) (λ w i. wide-same w (type-next fs multi high t u tab tab' field goal deg right right' w i)))

  next-same : total (wide t) (next_types t) ≡ total (wide u) (next_types t)
  next-same = total-each (wide t) (wide u) (next_types t) (each-weaker (IsNextType t) (λ w. wide t w ≡ wide u w) (next_types t) wide-same (next-type t))

  pub products-fewer : count_products t.parts ≤ count_products u.parts
  products-fewer = omega (arith, count-by-types t tab, count-by-types u tab', old-same, ap (total (wide u)) types-are, total-append (wide u) (ats t.parts) more)

  coefficients-fewer : count_coefficients t.parts ≤ count_coefficients u.parts
  coefficients-fewer = omega (
    arith,
    coefficients-same t.parts low.front (have-same-entries fs multi high t u tab tab' field goal deg right right'),
    ap count_coefficients low.parts_are,
    coefficients-append low.front low.rest,
  )

  -- the types of the next degree are among the further ones
  more-next : t.degree < u.degree → (rest : List (List ℕ)) × (more ≡ next_types t ++ rest)
  more-next h = (
    flat_map (types_of t.target) (rising (suc (1 + t.degree)) (u.degree - t.degree - 1)),
    ap (λ n. flat_map (types_of t.target) (rising (1 + t.degree) n)) (let e : u.degree - t.degree ≡ suc (u.degree - t.degree - 1) = omega arith in e)
        ∙ ap (λ n. types_of t.target n ++ flat_map (types_of t.target) (rising (suc (1 + t.degree)) (u.degree - t.degree - 1))) (let e : 1 + t.degree ≡ t.degree + 1 = omega arith in e),
  )

  next-fewer : t.degree < u.degree → next_products t ≤ count_products u.parts
  next-fewer h =
      let m = more-next h in
      omega (
        arith,
        count-by-types t tab,
        count-by-types u tab',
        old-same,
        next-same,
        ap (total (wide u)) types-are,
        total-append (wide u) (ats t.parts) more,
        ap (total (wide u)) m.1,
        total-append (wide u) (next_types t) m.0,
      )

  next-narrow : t.degree < u.degree → IsWithinLimits u → (w : List ℕ) → first_wide t (next_types t) ≡ Some w → ⊥
  next-narrow h limits w e =
      let m = more-next h in
      let f = wide-found t (next_types t) w e in
      let i : IsIn w (ats u.parts) = subst (IsIn w) (sym types-are) (in-right w (ats t.parts) more (subst (IsIn w) (sym m.1) (in-left w (next_types t) m.0 f.0))) in
      let n = narrow u tab' limits w i in
      let s = wide-same w (each-member (IsNextType t) (next_types t) w (next-type t) f.0) in
      absurd (omega (arith, f.1, n, s))

-- ---- ends

module _ (fs : List Form) (multi : AreMultilinear fs) (high : AreHigh fs) where
  -- after the end of a building there is no table
  no-later : (t u : Table) → IsTable t → IsTable u → u.p ≡ t.p → u.target ≡ t.target → t.degree < u.degree → IsRightTable fs t → IsRightTable fs u → (e : End) → IsEnd fs t e → ⊥
  no-later t u tab tab' field goal less right right' Complete h = absurd (omega (arith, h, less, tab'.within, ap sum goal))
  no-later t u tab tab' field goal less right right' (TooWide w n) h =
      next-narrow fs multi high t u tab tab' field goal (omega (arith, less)) right.right right'.right less right'.limits w h.first
  no-later t u tab tab' field goal less right right' (TooManyProducts n) h =
      absurd (omega (arith, next-fewer fs multi high t u tab tab' field goal (omega (arith, less)) right.right right'.right less, h.number, h.many, right'.limits.products))
  no-later t u tab tab' field goal less right right' (TooManyCoefficients n) h =
      let next = extended t h.next.parts in
      absurd (omega (
        arith,
        coefficients-fewer fs multi high next u h.next.table tab' field goal (omega (arith, less)) h.next.right right'.right,
        h.next.count,
        h.many,
        right'.limits.coefficients,
      ))
  no-later t u tab tab' field goal less right right' NoMemory h = h

  degree-unique : (t u : Table) → IsTable t → IsTable u → u.p ≡ t.p → u.target ≡ t.target → IsRightTable fs t → IsRightTable fs u → (e f : End) → IsEnd fs t e → IsEnd fs u f → t.degree ≡ u.degree
  degree-unique t u tab tab' field goal right right' e f h k = elim (cases_order t.degree u.degree) [
    | inl s ↦ s
    | inr n ↦ elim n [
      | inl l ↦ absurd (no-later t u tab tab' field goal l right right' e h)
      | inr l ↦ absurd (no-later u t tab' tab (sym field) (sym goal) l right' right f k)
    ]
  ]

  module _ (t u : Table) (tab : IsTable t) (tab' : IsTable u) (field : u.p ≡ t.p) (goal : u.target ≡ t.target) (same : t.degree ≡ u.degree)
      (right : IsRightTable fs t) (right' : IsRightTable fs u) where
    next-types : next_types t ≡ next_types u
    next-types = ap (λ g. types_of g (t.degree + 1)) (sym goal) ∙ ap (λ d. types_of u.target (d + 1)) same

    each-same : Each (λ w. wide t w ≡ wide u w) (next_types t)
    each-same = each-weaker (IsNextType t) (λ w. wide t w ≡ wide u w) (next_types t)
        (wide-same fs multi high t u tab tab' field goal (omega (arith, same)) right.right right'.right) (next-type t)

    first-same : first_wide t (next_types t) ≡ first_wide u (next_types u)
    first-same = first-wide-same t u (next_types t) each-same ∙ ap (first_wide u) next-types

    products-same : next_products t ≡ next_products u
    products-same = omega (
      arith,
      products-fewer fs multi high t u tab tab' field goal (omega (arith, same)) right.right right'.right,
      products-fewer fs multi high u t tab' tab (sym field) (sym goal) (omega (arith, same)) right'.right right.right,
      total-each (wide t) (wide u) (next_types t) each-same,
      ap (total (wide u)) next-types,
    )

    coefficients-one : (n m : ℕ) → NextHas fs t n → NextHas fs u m → n ≡ m
    coefficients-one n m h k =
        let a = extended t h.parts in
        let b = extended u k.parts in omega (
          arith,
          coefficients-fewer fs multi high a b h.table k.table field goal (omega (arith, same)) h.right k.right,
          coefficients-fewer fs multi high b a k.table h.table (sym field) (sym goal) (omega (arith, same)) k.right h.right,
          h.count,
          k.count,
        )

    no-room : t.degree ≡ sum t.target → u.degree < sum u.target → ⊥
    no-room h k = absurd (omega (arith, h, k, same, ap sum goal))

    some-none : (w : List ℕ) → first_wide t (next_types t) ≡ Some w → first_wide u (next_types u) ≡ None → ⊥
    some-none w h k = let q : Some w ≡ None = sym h ∙ first-same ∙ k in cc

    none-some : (w : List ℕ) → first_wide t (next_types t) ≡ None → first_wide u (next_types u) ≡ Some w → ⊥
    none-some w h k = let q : None ≡ Some w = sym h ∙ first-same ∙ k in cc

    too-many : (n : ℕ) → next_products t ≡ n → 1000000 < n → next_products u ≤ 1000000 → ⊥
    too-many n h m k = absurd (omega (arith, h, m, k, products-same))

    few-many : (n : ℕ) → next_products t ≤ 1000000 → next_products u ≡ n → 1000000 < n → ⊥
    few-many n h k m = absurd (omega (arith, h, k, m, products-same))

    end-one : (e f : End) → IsEnd fs t e → IsEnd fs u f → e ≡ f
    end-one Complete Complete h k = refl
    end-one Complete (TooWide w n) h k = absurd (no-room h k.room)
    end-one Complete (TooManyProducts n) h k = absurd (no-room h k.goes_on.room)
    end-one Complete (TooManyCoefficients n) h k = absurd (no-room h k.goes_on.room)
    end-one Complete NoMemory h k = absurd k
    end-one (TooWide v m) Complete h k = absurd (omega (arith, h.room, k, same, ap sum goal))
    end-one (TooWide v m) (TooWide w n) h k =
        let q : Some v ≡ Some w = sym h.first ∙ first-same ∙ k.first in
        let e : v ≡ w = cc in
        let f : wide t v ≡ wide u v = wide-same fs multi high t u tab tab' field goal (omega (arith, same)) right.right right'.right v
        (each-member (IsNextType t) (next_types t) v (next-type t) (wide-found t (next_types t) v h.first).0) in
        ap (λ x. TooWide x m) e ∙ ap (TooWide w) (sym h.number ∙ f ∙ ap (wide u) e ∙ k.number)
    end-one (TooWide v m) (TooManyProducts n) h k = absurd (some-none v h.first k.goes_on.narrow)
    end-one (TooWide v m) (TooManyCoefficients n) h k = absurd (some-none v h.first k.goes_on.narrow)
    end-one (TooWide v m) NoMemory h k = absurd k
    end-one (TooManyProducts m) Complete h k = absurd (omega (arith, h.goes_on.room, k, same, ap sum goal))
    end-one (TooManyProducts m) (TooWide w n) h k = absurd (none-some w h.goes_on.narrow k.first)
    end-one (TooManyProducts m) (TooManyProducts n) h k = ap TooManyProducts (sym h.number ∙ products-same ∙ k.number)
    end-one (TooManyProducts m) (TooManyCoefficients n) h k = absurd (too-many m h.number h.many k.few)
    end-one (TooManyProducts m) NoMemory h k = absurd k
    end-one (TooManyCoefficients m) Complete h k = absurd (omega (arith, h.goes_on.room, k, same, ap sum goal))
    end-one (TooManyCoefficients m) (TooWide w n) h k = absurd (none-some w h.goes_on.narrow k.first)
    end-one (TooManyCoefficients m) (TooManyProducts n) h k = absurd (few-many n h.few k.number k.many)
    end-one (TooManyCoefficients m) (TooManyCoefficients n) h k = ap TooManyCoefficients (coefficients-one m n h.next k.next)
    end-one (TooManyCoefficients m) NoMemory h k = absurd k
    end-one NoMemory f h k = absurd h

-- THE LAWS
pub end-unique : EndIsUnique
end-unique fs t u e f r h k =
    let d = degree-unique fs r.multilinear r.high t u r.table r.other_table r.field r.goal r.right r.other_right e f h k in
    (d, end-one fs r.multilinear r.high t u r.table r.other_table r.field r.goal d r.right r.other_right e f h k)

pub end-last : EndIsLast
end-last fs t u e r h = elim (cases_lt t.degree u.degree) [
  | inl l ↦ absurd (no-later fs r.multilinear r.high t u r.table r.other_table r.field r.goal l r.right r.other_right e h)
  | inr l ↦ l
]
