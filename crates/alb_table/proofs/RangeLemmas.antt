-- The numbers of the basis elements of a type, where the types of the parts ascend.
use Rattle.std.proofs.Common.{◌≡◌, ℕ, zero, suc, ◌+◌, ◌-◌, ◌<◌, ◌≤◌, ◌==◌, true, List, [], ◌∷◌, ◌++◌, map, length, get_or, replicate, sym, refl, ap, ◌∙◌, arith, inl, inr, ◌⊎◌, subst, sum}
use Rattle.std.specs.Prelude.{Some, None}
use Rattle.std.specs.List.{flat_map}
use Rattle.std.specs.declared.cmp.Ordering.TheVariants.{Less}
use Rattle.std.proofs.Math.ListN.{length-replicate}
use Rattle.std.proofs.lemmas.Bool.{cases_Bool, cases_lt}
use Rattle.std.proofs.lemmas.Bool.Decides.{nat_tests}
use Rattle.std.proofs.lemmas.List.{get_or-replicate, get_or_append_left, get_or-append_right}
use Rattle.alb_mono.specs.Listing.{Each, IsIn, Ascends}
use Rattle.alb_mono.specs.Tree.{cmp_types, rising, splits, IsSplit}
use Rattle.alb_mono.proofs.ListingLemmas.{each-member, in-map, in-flat}
use Rattle.alb_mono.proofs.TypesListing.{splits-listing}
use Rattle.alb_poly.specs.Poly.{list_eq}
use Rattle.alb_linear.proofs.IdentityLemmas.{list_eq-sound, list_eq-itself}
use Rattle.alb_table.specs.Table.{PartView, first_of, dim_of, elems, types, type_at, entries_at, same_pair, rectangle, find_entry, products}
use Rattle.alb_table.proofs.PartLemmas.{elems_step, first_here, first_step, no_part, number_at}
use Rattle.alb_table.proofs.TypesTo.{in-rising, apart, degrees_rise}

abbrev pub ats : List PartView → List (List ℕ)
ats parts = map (λ (q : PartView). q.at) parts

pub type_first : (q : PartView) (qs : List PartView) (b : ℕ) → b < length q.basis → type_at (q ∷ qs) b ≡ q.at
type_first q qs b h =
    let m : length (replicate (length q.basis) q.at) ≡ length q.basis = length-replicate _ _ in
    get_or_append_left (replicate (length q.basis) q.at) (types qs) [] b (omega arith) ∙ get_or-replicate (length q.basis) b q.at [] h

pub type_later : (q : PartView) (qs : List PartView) (b : ℕ) → length q.basis ≤ b → type_at (q ∷ qs) b ≡ type_at qs (b - length q.basis)
type_later q qs b h =
    let m : length (replicate (length q.basis) q.at) ≡ length q.basis = length-replicate _ _ in
    get_or-append_right (replicate (length q.basis) q.at) (types qs) (length q.basis) b [] m h

in_at : (parts : List PartView) (i : ℕ) (d : PartView) → i < length parts → IsIn (get_or parts i d).at (ats parts)
in_at [] i d h = absurd (omega arith)
in_at (q ∷ qs) zero d h = inl refl
in_at (q ∷ qs) (suc i) d h = inr (in_at qs i d (omega arith))

-- the type of a number is one of the types
pub type_in : (parts : List PartView) (b : ℕ) → b < length (elems parts) → IsIn (type_at parts b) (ats parts)
type_in parts b h =
    let r = number_at parts b 0 0 no_part [] h in
    subst (λ w. IsIn w (ats parts)) r.3 (in_at parts r.0 no_part r.2)

pub record InRange (parts : List PartView) (w : List ℕ) (b : ℕ) : Type 0 where
  pub low : first_of parts w ≤ b
  pub high : b < first_of parts w + dim_of parts w

range_here : (q : PartView) (qs : List PartView) (w : List ℕ) (b : ℕ) → q.at ≡ w → b < length q.basis → InRange (q ∷ qs) w b
range_here q qs w b e h = let f = first_here q qs w e in
    let x : first_of (q ∷ qs) w ≡ 0 = f.0 in let y : dim_of (q ∷ qs) w ≡ length q.basis = f.1 in
    record { low = rw x (omega arith); high = rw (x, y) (omega arith) }

range_later : (q : PartView) (qs : List PartView) (w : List ℕ) (b : ℕ) → (q.at ≡ w → ⊥) → length q.basis ≤ b → InRange qs w (b - length q.basis) → InRange (q ∷ qs) w b
range_later q qs w b e h r = let f = first_step q qs w e in
    let x : first_of (q ∷ qs) w ≡ length q.basis + first_of qs w = f.0 in let y : dim_of (q ∷ qs) w ≡ dim_of qs w = f.1 in
    let l : first_of qs w ≤ b - length q.basis = r.low in let g : b - length q.basis < first_of qs w + dim_of qs w = r.high in
    record { low = rw x (omega arith); high = rw (x, y) (omega arith) }

-- a number lies in the range of its type
pub number_in_range : (parts : List PartView) (b : ℕ) → Ascends cmp_types (ats parts) → b < length (elems parts) → InRange parts (type_at parts b) b
number_in_range [] b a h = absurd (omega arith)
number_in_range (q ∷ qs) b a h =
    let l : length (elems (q ∷ qs)) ≡ length q.basis + length (elems qs) = elems_step q qs in
    elim (cases_lt b (length q.basis)) [
      | inl s ↦ range_here q qs (type_at (q ∷ qs) b) b (sym (type_first q qs b s)) s
      | inr s ↦
          let t : type_at (q ∷ qs) b ≡ type_at qs (b - length q.basis) = type_later q qs b s in
          let i : IsIn (type_at qs (b - length q.basis)) (ats qs) = type_in qs (b - length q.basis) (omega arith) in
          let n : q.at ≡ type_at qs (b - length q.basis) → ⊥ = apart q.at (type_at qs (b - length q.basis)) (each-member (λ y. cmp_types q.at y ≡ Less) (ats qs) (type_at qs (b - length q.basis)) a.0 i) in
          subst (λ w. InRange (q ∷ qs) w b) (sym t)
          (range_later q qs (type_at qs (b - length q.basis)) b n s (number_in_range qs (b - length q.basis) a.1 (omega arith)))
    ]

-- what lies in the range of a type has it
pub type_of_range : (parts : List PartView) (w : List ℕ) (b : ℕ) → InRange parts w b → (b < length (elems parts)) × (type_at parts b ≡ w)
type_of_range [] w b r = let h : b < 0 + 0 = r.high in absurd (omega arith)
type_of_range (q ∷ qs) w b r =
    let l : length (elems (q ∷ qs)) ≡ length q.basis + length (elems qs) = elems_step q qs in
    elim (cases_Bool (list_eq q.at w)) [
      | inl s ↦
          let e : q.at ≡ w = list_eq-sound q.at w s in
          let f = first_here q qs w e in
          let x : first_of (q ∷ qs) w ≡ 0 = f.0 in let y : dim_of (q ∷ qs) w ≡ length q.basis = f.1 in
          let h : b < first_of (q ∷ qs) w + dim_of (q ∷ qs) w = r.high in
          let k0 : b < 0 + length q.basis = rw (x, y) at h in
          let k : b < length q.basis = omega arith in
          (omega arith, type_first q qs b (omega arith) ∙ e)
      | inr s ↦
          let n : q.at ≡ w → ⊥ = λ e. (let z : list_eq q.at w ≡ true = subst (λ u. list_eq q.at u ≡ true) e (list_eq-itself q.at) in absurd (cc)) in
          let f = first_step q qs w n in
          let x : first_of (q ∷ qs) w ≡ length q.basis + first_of qs w = f.0 in let y : dim_of (q ∷ qs) w ≡ dim_of qs w = f.1 in
          let h : b < first_of (q ∷ qs) w + dim_of (q ∷ qs) w = r.high in
          let g : first_of (q ∷ qs) w ≤ b = r.low in
          let h' : b < length q.basis + first_of qs w + dim_of qs w = rw (x, y) at h in
          let g' : length q.basis + first_of qs w ≤ b = rw x at g in
          let i = type_of_range qs w (b - length q.basis) (record { low = omega arith; high = omega arith }) in
          let j : b - length q.basis < length (elems qs) = i.0 in
          (omega arith, type_later q qs b (omega arith) ∙ i.1)
    ]

pub range_within : (parts : List PartView) (w : List ℕ) → first_of parts w + dim_of parts w ≤ length (elems parts)
range_within [] w = omega arith
range_within (q ∷ qs) w =
    let l : length (elems (q ∷ qs)) ≡ length q.basis + length (elems qs) = elems_step q qs in
    elim (cases_Bool (list_eq q.at w)) [
      | inl s ↦ rw s (omega arith)
      | inr s ↦ let r : first_of qs w + dim_of qs w ≤ length (elems qs) = range_within qs w in rw s (omega arith)
    ]

-- later numbers have types of the same or a higher degree
pub degrees_ascend : (parts : List PartView) (b c : ℕ) → Ascends cmp_types (ats parts) → b ≤ c → c < length (elems parts) → sum (type_at parts b) ≤ sum (type_at parts c)
degrees_ascend [] b c a l h = absurd (omega arith)
degrees_ascend (q ∷ qs) b c a l h =
    let n : length (elems (q ∷ qs)) ≡ length q.basis + length (elems qs) = elems_step q qs in
    elim (cases_lt c (length q.basis)) [
      | inl s ↦ rw (type_first q qs b (omega arith), type_first q qs c s) (omega arith)
      | inr s ↦
          let k : c - length q.basis < length (elems qs) = omega arith in
          elim (cases_lt b (length q.basis)) [
            | inl r ↦ rw (type_first q qs b r, type_later q qs c s)
                (degrees_rise q.at (type_at qs (c - length q.basis))
                (each-member (λ y. cmp_types q.at y ≡ Less) (ats qs) (type_at qs (c - length q.basis)) a.0 (type_in qs (c - length q.basis) k)))
            | inr r ↦ rw (type_later q qs b r, type_later q qs c s) (degrees_ascend qs (b - length q.basis) (c - length q.basis) a.1 (omega arith) k)
          ]
    ]

-- ---- products

in-rectangle : (b c a n d m : ℕ) → a ≤ b → b < a + n → d ≤ c → c < d + m → IsIn (b, c) (rectangle a n d m)
in-rectangle b c a n d m h k p q =
    in-flat (λ i. map (λ j. (i, j)) (rising d m)) b (b, c) (rising a n) (in-rising a n b h k) (in-map (λ j. (b, j)) c (rising d m) (in-rising d m c p q))

-- two numbers in the ranges of the types of a split
pub product_in : (parts : List PartView) (b c : ℕ) (t : List ℕ) (x y : List ℕ) → IsSplit t (x, y) → InRange parts x b → InRange parts y c → IsIn (b, c) (products parts t)
product_in parts b c t x y s h k =
    in-flat (λ (q : List ℕ × List ℕ). rectangle (first_of parts q.0) (dim_of parts q.0) (first_of parts q.1) (dim_of parts q.1)) (x, y) (b, c) (splits t)
    ((splits-listing t).all (x, y) s)
    (in-rectangle b c (first_of parts x) (dim_of parts x) (first_of parts y) (dim_of parts y) h.low h.high k.low k.high)

pub record IsProductOf (parts : List PartView) (t : List ℕ) (b c : ℕ) : Type 0 where
  pub left : List ℕ
  pub right : List ℕ
  pub split : IsSplit t (left, right)
  pub left_range : InRange parts left b
  pub right_range : InRange parts right c

-- what stands in a run
pub rising_bounds : (k n d : ℕ) → IsIn d (rising k n) → (k ≤ d) × (d < k + n)
rising_bounds k zero d h = absurd h
rising_bounds k (suc n) d (inl q) = (omega arith, omega arith)
rising_bounds k (suc n) d (inr h) = let r = rising_bounds (suc k) n d h in let a = r.0 in let b = r.1 in (omega arith, omega arith)

in_append : {X : Type 0} (x : X) (xs ys : List X) → IsIn x (xs ++ ys) → IsIn x xs ⊎ IsIn x ys
in_append x [] ys h = inr h
in_append x (z ∷ xs) ys (inl q) = inl (inl q)
in_append x (z ∷ xs) ys (inr h) = elim (in_append x xs ys h) [ inl a ↦ inl (inr a) | inr b ↦ inr b ]

in_row : (i b c d m : ℕ) → IsIn {X = ℕ × ℕ} (b, c) (map (λ j. (i, j)) (rising d m)) → (b ≡ i) × (d ≤ c) × (c < d + m)
in_row i b c d zero h = absurd h
in_row i b c d (suc m) (inl q) = let e : b ≡ i = ap (λ (w : ℕ × ℕ). w.0) q in let f : c ≡ d = ap (λ (w : ℕ × ℕ). w.1) q in (e, omega arith, omega arith)
in_row i b c d (suc m) (inr h) = let r = in_row i b c (suc d) m h in let a : suc d ≤ c = r.1 in let g : c < suc d + m = r.2 in (r.0, omega arith, omega arith)

rectangle_bounds : (b c a n d m : ℕ) → IsIn (b, c) (rectangle a n d m) → (a ≤ b) × (b < a + n) × (d ≤ c) × (c < d + m)
rectangle_bounds b c a zero d m h = absurd h
rectangle_bounds b c a (suc n) d m h = elim (in_append (b, c) (map (λ j. (a, j)) (rising d m)) (rectangle (suc a) n d m) h) [
  | inl r ↦ let e = in_row a b c d m r in let z : b ≡ a = e.0 in (omega arith, omega arith, e.1, e.2)
  | inr r ↦ let e = rectangle_bounds b c (suc a) n d m r in let x : suc a ≤ b = e.0 in let y : b < suc a + n = e.1 in (omega arith, omega arith, e.2, e.3)
]

products_from : (parts : List PartView) (t : List ℕ) (b c : ℕ) (ss : List (List ℕ × List ℕ)) → Each (IsSplit t) ss →
    IsIn (b, c) (flat_map (λ (q : List ℕ × List ℕ). rectangle (first_of parts q.0) (dim_of parts q.0) (first_of parts q.1) (dim_of parts q.1)) ss) → IsProductOf parts t b c
products_from parts t b c [] e h = absurd h
products_from parts t b c (s ∷ ss) e h =
    elim (in_append (b, c) (rectangle (first_of parts s.0) (dim_of parts s.0) (first_of parts s.1) (dim_of parts s.1)) _ h) [
      | inl r ↦ let k = rectangle_bounds b c (first_of parts s.0) (dim_of parts s.0) (first_of parts s.1) (dim_of parts s.1) r in
          record { left = s.0; right = s.1; split = e.0; left_range = record { low = k.0; high = k.1 }; right_range = record { low = k.2; high = k.3 } }
      | inr r ↦ products_from parts t b c ss e.1 r
    ]

-- the factors of a listed product
pub product_of : (parts : List PartView) (t : List ℕ) (b c : ℕ) → IsIn (b, c) (products parts t) → IsProductOf parts t b c
product_of parts t b c h = products_from parts t b c (splits t) (splits-listing t).each h

-- ---- entries

same_pair-itself : (k : ℕ × ℕ) → same_pair k k ≡ true
same_pair-itself k = let a : (k.0 == k.0) ≡ true = grind (arith, nat_tests) in let b : (k.1 == k.1) ≡ true = grind (arith, nat_tests) in rw (a, b)

-- a listed key with enough entries is found
pub found_in : {E : Type 0} (k : ℕ × ℕ) (xs : List (ℕ × ℕ)) (es : List E) → IsIn k xs → length xs ≤ length es → find_entry k xs es ≡ None → ⊥
found_in k [] es i l h = i
found_in k (x ∷ xs) [] i l h = absurd (omega arith)
found_in k (x ∷ xs) (e ∷ es) i l h = elim (cases_Bool (same_pair x k)) [
  | inl s ↦ (let q : Some e ≡ None = rw s at h in absurd (cc))
  | inr s ↦ elim i [
    | inl q ↦ (let z : same_pair x k ≡ true = subst (λ w. same_pair w k ≡ true) q (same_pair-itself k) in absurd (cc))
    | inr j ↦ found_in k xs es j (omega arith) (rw s at h)
  ]
]

pub entries_full : (parts : List PartView) (n : List ℕ → ℕ) (w : List ℕ) → IsIn w (ats parts) → Each (λ (q : PartView). length q.entries ≡ n q.at) parts → length (entries_at parts w) ≡ n w
entries_full [] n w i e = absurd i
entries_full (q ∷ qs) n w i e = elim (cases_Bool (list_eq q.at w)) [
  | inl s ↦ rw s (e.0 ∙ ap n (list_eq-sound q.at w s))
  | inr s ↦ elim i [
    | inl z ↦ (let y : list_eq q.at w ≡ true = subst (λ u. list_eq q.at u ≡ true) (sym z) (list_eq-itself q.at) in absurd (cc))
    | inr j ↦ rw s (entries_full qs n w j e.1)
  ]
]

pub entries_where : (P : List ℕ → Type 0) (parts : List PartView) (w : List ℕ) → Each P (ats parts) → (entries_at parts w ≡ []) ⊎ P w
entries_where P [] w e = inl refl
entries_where P (q ∷ qs) w e = elim (cases_Bool (list_eq q.at w)) [
  | inl s ↦ inr (subst P (list_eq-sound q.at w s) e.0)
  | inr s ↦ elim (entries_where P qs w e.1) [ inl n ↦ inl (rw s n) | inr h ↦ inr h ]
]
