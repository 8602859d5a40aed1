-- Parts, types and numbers.
use Rattle.std.proofs.Common.{◌≡◌, ℕ, zero, suc, ◌+◌, ◌-◌, ◌*◌, ◌<◌, ◌≤◌, true, false, List, [], ◌∷◌, ◌++◌, map, length, get_or, replicate, reverse, sym, refl, ap, ◌∙◌, arith, inl, inr, ◌⊎◌, subst, length-append, append_assoc, sum}
use Rattle.alb_table.proofs.GridLemmas.{length-rectangle}
use Rattle.std.specs.Prelude.{Some, None, slice_index_or, All}
use Rattle.std.specs.List.{flat_map}
use Rattle.std.proofs.lemmas.List.Concat.{flat_map-append}
use Rattle.std.proofs.Math.ListN.{length-replicate}
use Rattle.std.proofs.lemmas.List.Sums.{sum_by-cons}
use Rattle.std.proofs.lemmas.Bool.{cases_Bool, cases_lt}
use Rattle.std.proofs.lemmas.List.{get_or-replicate, get_or_append_left, get_or-append_right, map-append, append-nil, reverse-append, reverse-reverse}
use Rattle.alb_table.specs.declared.grid.Grid.{Grid}
use Rattle.alb_table.specs.Grid.{cells_of, OffsetsFrom, Rises}
use Rattle.alb_table.specs.Table.{rectangle, find_entry, PartView, part_view, first_of, dim_of, elems, types, type_at, entries_at, origins_at, part_at, products_of, products, entry_of}
use Rattle.alb_poly.specs.Poly.{list_eq}
use Rattle.alb_linear.proofs.IdentityLemmas.{list_eq-sound, list_eq-itself}
use Rattle.alb_table.specs.Stored.{grids_from}
use Rattle.alb_table.specs.Views.{numbers_from, part_number, view_of, views, IsStored, AreStored, IsStore, IsFull, PushesPart, GrowsStore}
use Rattle.alb_table.specs.declared.store.Store.{Store}
use Rattle.std.specs.Arc.{arc_value}
use Rattle.std.specs.declared.sync.Arc.{Arc}
use Rattle.std.specs.declared.alloc.Global.{Global}
use Rattle.alb_mono.specs.Tree.{splits, IsSplit, type_plus}
use Rattle.alb_mono.proofs.TypesListing.{splits-listing}
use Rattle.alb_mono.specs.Listing.{Each}
use Rattle.alb_mono.proofs.ListingLemmas.{each-at, each-weaker}
use Rattle.alb_mono.proofs.TypeLemmas.{plus_at, length-type_plus}
use Rattle.alb_table.specs.declared.stored.Stored.{Stored}
use Rattle.alb_table.specs.declared.part.Part.{Part}

-- what stays true while parts are taken from `left`, the last one first
pub record Extends (parts total : List PartView) (store : Store) (left : List Part) : Type 0 where
  pub parts_are : views store ++ map part_view (reverse left) ≡ total
  pub numbers : store.part_of.items ≡ numbers_from 0 (views store)
  pub elements : store.elems.items ≡ elems (views store)
  pub stored : AreStored parts store.parts.items
  pub each : Each (IsFull parts) (map part_view (reverse left))

pub list_eq-other : (t u : List ℕ) → (t ≡ u → ⊥) → list_eq t u ≡ false
list_eq-other t u h = elim (cases_Bool (list_eq t u)) [ inl e ↦ absurd (h (list_eq-sound t u e)) | inr e ↦ e ]

-- ---- the rectangles of a type

pub cells-grids : (parts : List PartView) (n : ℕ) (ss : List (List ℕ × List ℕ)) → flat_map cells_of (grids_from parts n ss) ≡ products_of parts ss
cells-grids parts n [] = refl
cells-grids parts n (s ∷ ss) =
    ap (λ xs. rectangle (first_of parts s.0) (dim_of parts s.0) (first_of parts s.1) (dim_of parts s.1) ++ xs)
    (cells-grids parts (n + dim_of parts s.0 * dim_of parts s.1) ss)

pub offsets-grids : (parts : List PartView) (n : ℕ) (ss : List (List ℕ × List ℕ)) → OffsetsFrom n (grids_from parts n ss)
offsets-grids parts n [] = tt
offsets-grids parts n (s ∷ ss) = (refl, offsets-grids parts (n + dim_of parts s.0 * dim_of parts s.1) ss)

-- ---- the part of a type

pub part_found : (parts : List PartView) (t : List ℕ) (k n : ℕ) (d : PartView) → part_number k parts t ≡ Some n →
    (i : ℕ) × (n ≡ k + i) × (i < length parts) × ((get_or parts i d).at ≡ t) × (entries_at parts t ≡ (get_or parts i d).entries) × (origins_at parts t ≡ (get_or parts i d).origins)
part_found [] t k n d h = absurd (cc)
part_found (q ∷ qs) t k n d h = elim (cases_Bool (list_eq q.at t)) [
  | inl e ↦ let s : Some k ≡ Some n = rw e at h in let z : k ≡ n = cc in (0, omega arith, omega arith, list_eq-sound q.at t e, rw e refl, rw e refl)
  | inr e ↦ let r = part_found qs t (suc k) n d (rw e at h) in let z = r.1 in let y = r.2 in (suc r.0, omega arith, omega arith, r.3, rw e r.4, rw e r.5)
]

pub part_none : (parts : List PartView) (t : List ℕ) (k : ℕ) → part_number k parts t ≡ None → (entries_at parts t ≡ []) × (origins_at parts t ≡ [])
part_none [] t k h = (refl, refl)
part_none (q ∷ qs) t k h = elim (cases_Bool (list_eq q.at t)) [
  | inl e ↦ absurd (let s : Some k ≡ None = rw e at h in cc)
  | inr e ↦ rw e (part_none qs t (suc k) (rw e at h))
]

pub part_here : (q : PartView) (qs : List PartView) (t : List ℕ) (k : ℕ) → q.at ≡ t → part_number k (q ∷ qs) t ≡ Some k
part_here q qs t k h = let e : list_eq q.at t ≡ true = rw h (list_eq-itself t) in rw e refl

pub part_later : (q : PartView) (qs : List PartView) (t : List ℕ) (k j : ℕ) → (q.at ≡ t → ⊥) → j ≡ suc k → part_number k (q ∷ qs) t ≡ part_number j qs t
part_later q qs t k j h e = rw (list_eq-other q.at t h, e) refl

-- ---- the part of a basis element

pub length-types : (parts : List PartView) → length (types parts) ≡ length (elems parts)
length-types [] = refl
length-types (q ∷ qs) =
    length-append (replicate (length q.basis) q.at) (types qs)
    ∙ (let a : length (replicate (length q.basis) q.at) ≡ length q.basis = length-replicate _ _ in let b = length-types qs in rw (a, b) (sym (length-append q.basis (elems qs))))

pub length-numbers : (k : ℕ) (parts : List PartView) → length (numbers_from k parts) ≡ length (elems parts)
length-numbers k [] = refl
length-numbers k (q ∷ qs) =
    length-append (replicate (length q.basis) k) (numbers_from (suc k) qs)
    ∙ (let a : length (replicate (length q.basis) k) ≡ length q.basis = length-replicate _ _ in let b = length-numbers (suc k) qs in rw (a, b) (sym (length-append q.basis (elems qs))))

-- the number of an element's part
pub number_at : (parts : List PartView) (b k d : ℕ) (e : PartView) (f : List ℕ) → b < length (elems parts) →
    (i : ℕ) × (get_or (numbers_from k parts) b d ≡ k + i) × (i < length parts) × ((get_or parts i e).at ≡ slice_index_or (types parts) b f)
number_at [] b k d e f h = absurd (omega arith)
number_at (q ∷ qs) b k d e f h =
    let n : length (replicate (length q.basis) k) ≡ length q.basis = length-replicate _ _ in
    let m : length (replicate (length q.basis) q.at) ≡ length q.basis = length-replicate _ _ in
    let l : length (elems (q ∷ qs)) ≡ length q.basis + length (elems qs) = length-append q.basis (elems qs) in
    elim (cases_lt b (length q.basis)) [
      | inl s ↦ (
        0,
        get_or_append_left (replicate (length q.basis) k) _ d b (omega arith) ∙ get_or-replicate (length q.basis) b k d s ∙ omega arith,
        omega arith,
        sym (get_or_append_left (replicate (length q.basis) q.at) _ f b (omega arith) ∙ get_or-replicate (length q.basis) b q.at f s),
      )
      | inr s ↦ let r = number_at qs (b - length q.basis) (suc k) d e f (omega arith) in let z = r.1 in let y = r.2 in (
        suc r.0,
        get_or-append_right (replicate (length q.basis) k) _ _ b d n s ∙ z ∙ omega arith,
        omega arith,
        r.3 ∙ sym (get_or-append_right (replicate (length q.basis) q.at) _ _ b f m s),
      )
    ]

-- ---- over the stored parts

abbrev pub no_part : PartView
no_part = record { at = []; basis = []; entries = []; origins = [] }

pub map_at : {X Y : Type 0} (f : X → Y) (xs : List X) (i : ℕ) (x : X) (y : Y) → i < length xs → get_or (map f xs) i y ≡ f (get_or xs i x)
map_at f [] i x y h = absurd (omega arith)
map_at f (z ∷ xs) zero x y h = refl
map_at f (z ∷ xs) (suc i) x y h = map_at f xs i x y (omega arith)

pub length-views : (arcs : List (Arc Stored Global)) → length (map view_of arcs) ≡ length arcs
length-views [] = refl
length-views (a ∷ arcs) = ap suc (length-views arcs)

-- the part of an element
pub element_part : (arcs : List (Arc Stored Global)) (b n d : ℕ) → b < length (elems (map view_of arcs)) → n ≡ get_or (numbers_from 0 (map view_of arcs)) b d →
    (n < length arcs) × ((a : Arc Stored Global) → (view_of (get_or arcs n a)).at ≡ type_at (map view_of arcs) b)
element_part arcs b n d h q =
    let r = number_at (map view_of arcs) b 0 d no_part [] h in
    let i = r.0 in let z : get_or (numbers_from 0 (map view_of arcs)) b d ≡ 0 + i = r.1 in
    let e : n ≡ i = omega arith in
    let l : i < length (map view_of arcs) = r.2 in
    let m : length (map view_of arcs) ≡ length arcs = length-views arcs in
    let k : n < length arcs = omega arith in
    (k, λ a. ap (λ v. v.at) (sym (map_at view_of arcs n a no_part k)) ∙ ap (λ j. (get_or (map view_of arcs) j no_part).at) e ∙ r.3)

-- the rectangles of a stored part
pub cells_at : (arcs : List (Arc Stored Global)) (k : ℕ) (a : Arc Stored Global) → AreStored (map view_of arcs) arcs → k < length arcs →
    flat_map cells_of (arc_value (get_or arcs k a)).grids.items ≡ products (map view_of arcs) (part_at (map view_of arcs) k).at
cells_at arcs k a kept n =
    let s : IsStored (map view_of arcs) (arc_value (get_or arcs k a)) = each-at (λ (b : Arc Stored Global). IsStored (map view_of arcs) (arc_value b)) arcs k a kept n in
    let v : get_or (map view_of arcs) k no_part ≡ view_of (get_or arcs k a) = map_at view_of arcs k a no_part n in
    s.cells ∙ ap (λ (q : PartView). products (map view_of arcs) q.at) (sym v)

pub record Found (arcs : List (Arc Stored Global)) (w : List ℕ) (k : ℕ) (a : Arc Stored Global) : Type 0 where
  pub grids : flat_map cells_of (arc_value (get_or arcs k a)).grids.items ≡ products (map view_of arcs) w
  pub offsets : OffsetsFrom 0 (arc_value (get_or arcs k a)).grids.items
  pub rises : Rises 0 (arc_value (get_or arcs k a)).grids.items
  pub full : length (arc_value (get_or arcs k a)).part.entries.items ≡ length (products (map view_of arcs) w)
  pub entries : entries_at (map view_of arcs) w ≡ (arc_value (get_or arcs k a)).part.entries.items
  pub origins : origins_at (map view_of arcs) w ≡ (view_of (get_or arcs k a)).origins

-- the part of a type
pub stored_part : (arcs : List (Arc Stored Global)) (w : List ℕ) (k : ℕ) → AreStored (map view_of arcs) arcs → part_number 0 (map view_of arcs) w ≡ Some k →
    (k < length arcs) × ((a : Arc Stored Global) → Found arcs w k a)
stored_part arcs w k kept h =
    let r = part_found (map view_of arcs) w 0 k no_part h in
    let z : k ≡ 0 + r.0 = r.1 in let i : ℕ = r.0 in let e : i ≡ k = omega arith in
    let l : i < length (map view_of arcs) = r.2 in
    let m : length (map view_of arcs) ≡ length arcs = length-views arcs in
    let n : k < length arcs = omega arith in (
      n,
      λ a.
          let s : IsStored (map view_of arcs) (arc_value (get_or arcs k a)) = each-at (λ (b : Arc Stored Global). IsStored (map view_of arcs) (arc_value b)) arcs k a kept n in
          let v : get_or (map view_of arcs) i no_part ≡ view_of (get_or arcs k a) = ap (λ j. get_or (map view_of arcs) j no_part) e ∙ map_at view_of arcs k a no_part n in
          let at_w : (arc_value (get_or arcs k a)).part.at ≡ w = ap (λ q. q.at) (sym v) ∙ r.3 in
          record {
            grids = s.cells ∙ ap (products (map view_of arcs)) at_w;
            offsets = s.offsets;
            rises = s.rises;
            full = s.full ∙ ap (λ u. length (products (map view_of arcs) u)) at_w;
            entries = r.4 ∙ ap (λ q. q.entries) v;
            origins = r.5 ∙ ap (λ q. q.origins) v;
          },
    )

-- sums of small counts
pub plus_small : (xs ys : List ℕ) → length xs ≡ length ys → All (λ c. c ≤ 12) xs → All (λ c. c ≤ 12) ys → All (λ c. c ≤ 255) (type_plus xs ys)
plus_small xs ys h a b k d l =
    let m : length (type_plus xs ys) ≡ length xs = length-type_plus xs ys h in
    let e : slice_index_or (type_plus xs ys) k d ≡ slice_index_or xs k d + slice_index_or ys k d = plus_at xs ys k d d d h (omega arith) in
    let x : slice_index_or xs k d ≤ 12 = a k d (omega arith) in
    let y : slice_index_or ys k d ≤ 12 = b k d (omega arith) in
    omega arith

-- the entry, where the products and the entries of its type are known
pub entry_found : (parts : List PartView) (b c : ℕ) (t u w : List ℕ) (keys : List (ℕ × ℕ)) (es : List (List (ℕ × ℕ))) →
    t ≡ type_at parts b → u ≡ type_at parts c → w ≡ type_plus t u → keys ≡ products parts w → es ≡ entries_at parts w →
    entry_of parts b c ≡ find_entry (b, c) keys es
entry_found parts b c t u w keys es h k m n o =
    let v : w ≡ type_plus (type_at parts b) (type_at parts c) = m ∙ ap (λ x. type_plus x u) h ∙ ap (type_plus (type_at parts b)) k in
    let keys' : keys ≡ products parts (type_plus (type_at parts b) (type_at parts c)) = n ∙ ap (products parts) v in
    let es' : es ≡ entries_at parts (type_plus (type_at parts b) (type_at parts c)) = o ∙ ap (entries_at parts) v in
    ap (λ xs. find_entry (b, c) xs (entries_at parts (type_plus (type_at parts b) (type_at parts c)))) (sym keys') ∙ ap (find_entry (b, c) keys) (sym es')

-- ---- more parts, of a higher degree

first-shape : (q : PartView) (t : List ℕ) (d : ℕ) → sum q.at ≡ d → sum t < d → list_eq q.at t ≡ false
first-shape q t d h k = list_eq-other q.at t (λ e. absurd (let f : sum q.at ≡ sum t = ap sum e in omega arith))

dim_new : (new : List PartView) (t : List ℕ) (d : ℕ) → Each (λ (q : PartView). sum q.at ≡ d) new → sum t < d → dim_of new t ≡ 0
dim_new [] t d e h = refl
dim_new (q ∷ new) t d e h = rw (first-shape q t d e.0 h) (dim_new new t d e.1 h)

pub dim-extend : (ps new : List PartView) (t : List ℕ) (d : ℕ) → Each (λ (q : PartView). sum q.at ≡ d) new → sum t < d → dim_of (ps ++ new) t ≡ dim_of ps t
dim-extend [] new t d e h = dim_new new t d e h
dim-extend (q ∷ ps) new t d e h = elim (cases_Bool (list_eq q.at t)) [
  | inl s ↦ rw s refl
  | inr s ↦ rw s (dim-extend ps new t d e h)
]

pub first-extend : (ps new : List PartView) (t : List ℕ) (d : ℕ) → Each (λ (q : PartView). sum q.at ≡ d) new → sum t < d →
    (first_of (ps ++ new) t ≡ first_of ps t) ⊎ (dim_of ps t ≡ 0)
first-extend [] new t d e h = inr refl
first-extend (q ∷ ps) new t d e h = elim (cases_Bool (list_eq q.at t)) [
  | inl s ↦ inl (rw s refl)
  | inr s ↦ elim (first-extend ps new t d e h) [ inl f ↦ inl (rw (s, f) refl) | inr f ↦ inr (rw s f) ]
]

rectangle-empty : (a n b : ℕ) → rectangle a n b 0 ≡ []
rectangle-empty a zero b = refl
rectangle-empty a (suc n) b = rectangle-empty (suc a) n b

-- the rectangle of two types that the new parts do not have
pub rectangle-extend : (ps new : List PartView) (s u : List ℕ) (d : ℕ) → Each (λ (q : PartView). sum q.at ≡ d) new → sum s < d → sum u < d →
    rectangle (first_of (ps ++ new) s) (dim_of (ps ++ new) s) (first_of (ps ++ new) u) (dim_of (ps ++ new) u)
    ≡ rectangle (first_of ps s) (dim_of ps s) (first_of ps u) (dim_of ps u)
rectangle-extend ps new s u d e h k =
    rw (dim-extend ps new s d e h, dim-extend ps new u d e k)
    (elim (first-extend ps new s d e h) [
      | inr z ↦ rw z refl
      | inl f ↦ elim (first-extend ps new u d e k) [
        | inl g ↦ rw (f, g) refl
        | inr z ↦ rw z (rectangle-empty (first_of (ps ++ new) s) (dim_of ps s) (first_of (ps ++ new) u) ∙ sym (rectangle-empty (first_of ps s) (dim_of ps s) (first_of ps u)))
      ]
    ])

flat-each : {X Y : Type 0} (f g : X → List Y) (xs : List X) → Each (λ x. f x ≡ g x) xs → flat_map f xs ≡ flat_map g xs
flat-each f g [] e = refl
flat-each f g (x ∷ xs) e = rw (e.0, flat-each f g xs e.1) refl

pub sum-cons : (x : ℕ) (xs : List ℕ) → sum (x ∷ xs) ≡ x + sum xs
sum-cons x xs = sum_by-cons (λ y. y) x xs

pub sum-plus : (s u : List ℕ) → length s ≡ length u → sum s + sum u ≡ sum (type_plus s u)
sum-plus [] [] h = refl
sum-plus [] (y ∷ u) h = absurd (omega arith)
sum-plus (x ∷ s) [] h = absurd (omega arith)
sum-plus (x ∷ s) (y ∷ u) h = omega (arith, sum-cons x s, sum-cons y u, sum-cons (x + y) (type_plus s u), sum-plus s u (omega arith))

-- the products of a type stay as they are
pub products-extend : (ps new : List PartView) (t : List ℕ) (d : ℕ) → Each (λ (q : PartView). sum q.at ≡ d) new → sum t ≤ d →
    products (ps ++ new) t ≡ products ps t
products-extend ps new t d e h =
    flat-each _ _ (splits t)
    (each-weaker (IsSplit t) _ (splits t)
    (λ q s. let z : sum q.0 + sum q.1 ≡ sum t = sum-plus q.0 q.1 (s.long ∙ sym s.long_right) ∙ ap sum s.both in let a = s.left in let b = s.right in
    rectangle-extend ps new q.0 q.1 d e (omega arith) (omega arith))
    (splits-listing t).each)

-- ---- steps of the loops that make the rectangles

pub elems_step : (q : PartView) (qs : List PartView) → length (elems (q ∷ qs)) ≡ length q.basis + length (elems qs)
elems_step q qs = length-append q.basis (elems qs)

pub first_step : (q : PartView) (qs : List PartView) (t : List ℕ) → (q.at ≡ t → ⊥) → (first_of (q ∷ qs) t ≡ length q.basis + first_of qs t) × (dim_of (q ∷ qs) t ≡ dim_of qs t)
first_step q qs t h = let e = list_eq-other q.at t h in (rw e refl, rw e refl)

pub first_here : (q : PartView) (qs : List PartView) (t : List ℕ) → q.at ≡ t → (first_of (q ∷ qs) t ≡ 0) × (dim_of (q ∷ qs) t ≡ length q.basis)
first_here q qs t h = let e : list_eq q.at t ≡ true = rw h (list_eq-itself t) in (rw e refl, rw e refl)

pub grids_step : (parts : List PartView) (out next total : List Grid) (s : List ℕ × List ℕ) (ss : List (List ℕ × List ℕ)) (n m a x b y : ℕ) →
    out ++ grids_from parts n (s ∷ ss) ≡ total → a ≡ first_of parts s.0 → x ≡ dim_of parts s.0 → b ≡ first_of parts s.1 → y ≡ dim_of parts s.1 →
    next ≡ out ++ record { left = a; lefts = x; right = b; rights = y; offset = n } ∷ [] → m ≡ n + x * y →
    next ++ grids_from parts m ss ≡ total
grids_step parts out next total s ss n m a x b y h ea ex eb ey e f =
    rw (e, f, ea, ex, eb, ey) (append_assoc out _ _ ∙ h)

pub products_step : (parts : List PartView) (s : List ℕ × List ℕ) (ss : List (List ℕ × List ℕ)) →
    length (products_of parts (s ∷ ss)) ≡ dim_of parts s.0 * dim_of parts s.1 + length (products_of parts ss)
products_step parts s ss =
    length-append (rectangle (first_of parts s.0) (dim_of parts s.0) (first_of parts s.1) (dim_of parts s.1)) (products_of parts ss)
    ∙ ap (λ n. n + length (products_of parts ss)) (length-rectangle (first_of parts s.0) (dim_of parts s.0) (first_of parts s.1) (dim_of parts s.1))

stored-append : (parts : List PartView) (xs : List (Arc Stored Global)) (a : Arc Stored Global) → AreStored parts xs → IsStored parts (arc_value a) → AreStored parts (xs ++ a ∷ [])
stored-append parts [] a h k = (k, tt)
stored-append parts (x ∷ xs) a h k = (h.0, stored-append parts xs a h.1 k)

pub pushes : (parts : List PartView) (old new : Store) (a : Arc Stored Global) (q : PartView) →
    new.parts.items ≡ old.parts.items ++ a ∷ [] → view_of a ≡ q → new.part_of.items ≡ old.part_of.items ++ replicate (length q.basis) (length old.parts.items) →
    new.elems.items ≡ old.elems.items ++ q.basis → IsStored parts (arc_value a) → PushesPart parts old new q
pushes parts old new a q e f h l s = record {
  parts_are = ap (map view_of) e ∙ map-append view_of old.parts.items (a ∷ []) ∙ ap (λ w. map view_of old.parts.items ++ w ∷ []) f;
  numbers = h;
  elements = l;
  stored = λ k. subst (AreStored parts) (sym e) (stored-append parts old.parts.items a k s);
}

numbers-append : (k : ℕ) (ps : List PartView) (q : PartView) → numbers_from k (ps ++ q ∷ []) ≡ numbers_from k ps ++ replicate (length q.basis) (k + length ps)
numbers-append k [] q = let e : k + 0 ≡ k = omega arith in rw e (append-nil (replicate (length q.basis) k))
numbers-append k (p ∷ ps) q =
    let e : k + suc (length ps) ≡ suc k + length ps = omega arith in
    rw e (ap (λ xs. replicate (length p.basis) k ++ xs) (numbers-append (suc k) ps q) ∙ sym (append_assoc (replicate (length p.basis) k) _ _))

elems-append : (ps : List PartView) (q : PartView) → elems (ps ++ q ∷ []) ≡ elems ps ++ q.basis
elems-append ps q = flat_map-append (λ (v : PartView). v.basis) ps (q ∷ []) ∙ ap (λ es. elems ps ++ es) (append-nil q.basis)

-- one more part was taken and stored
pub extends_more : (parts total : List PartView) (store new : Store) (left rest : List Part) (q : Part) →
    Extends parts total store left → left ≡ rest ++ q ∷ [] → PushesPart parts store new (part_view q) → Extends parts total new rest
extends_more parts total store new left rest q h e p =
    let r : reverse left ≡ q ∷ reverse rest = ap reverse e ∙ reverse-append rest (q ∷ []) in
    let v = rw r at h.parts_are in
    let n = rw r at h.each in
    record {
      parts_are = ap (λ xs. xs ++ map part_view (reverse rest)) p.parts_are ∙ append_assoc (views store) (part_view q ∷ []) _ ∙ v;
      numbers = p.numbers ∙ ap (λ xs. xs ++ replicate (length (part_view q).basis) (length store.parts.items)) h.numbers
          ∙ (let l : length store.parts.items ≡ 0 + length (views store) = sym (length-views store.parts.items) ∙ omega arith in
          ap (λ k. numbers_from 0 (views store) ++ replicate (length (part_view q).basis) k) l ∙ sym (numbers-append 0 (views store) (part_view q)) ∙ ap (numbers_from 0) (sym p.parts_are));
      elements = p.elements ∙ ap (λ xs. xs ++ (part_view q).basis) h.elements ∙ sym (elems-append (views store) (part_view q)) ∙ ap elems (sym p.parts_are);
      stored = p.stored h.stored;
      each = n.1;
    }

-- the part that is taken next
pub extends_next : (parts total : List PartView) (store : Store) (left rest : List Part) (q : Part) →
    Extends parts total store left → left ≡ rest ++ q ∷ [] → IsFull parts (part_view q)
extends_next parts total store left rest q h e =
    let r : reverse left ≡ q ∷ reverse rest = ap reverse e ∙ reverse-append rest (q ∷ []) in
    let n = rw r at h.each in n.0

-- ---- the beginning and the end of an extension

pub views-same : (xs ys : List (Arc Stored Global)) → map arc_value xs ≡ map arc_value ys → map view_of xs ≡ map view_of ys
views-same xs ys h = views-values xs ∙ ap (map (λ (s : Stored). part_view s.part)) h ∙ sym (views-values ys)
  where
    views-values : (xs : List (Arc Stored Global)) → map view_of xs ≡ map (λ (s : Stored). part_view s.part) (map arc_value xs)
    views-values [] = refl
    views-values (x ∷ xs) = ap (λ vs. view_of x ∷ vs) (views-values xs)

stored-same : (parts : List PartView) (xs ys : List (Arc Stored Global)) → map arc_value xs ≡ map arc_value ys → AreStored parts ys → AreStored parts xs
stored-same parts [] ys h k = tt
stored-same parts (x ∷ xs) [] h k = absurd (cc)
stored-same parts (x ∷ xs) (y ∷ ys) h k =
    let e : arc_value x ≡ arc_value y = cc in let f : map arc_value xs ≡ map arc_value ys = cc in
    (subst (IsStored parts) (sym e) k.0, stored-same parts xs ys f k.1)

pub extends_start : (old store : Store) (parts left : List Part) → IsStore old → map arc_value store.parts.items ≡ map arc_value old.parts.items →
    store.part_of.items ≡ old.part_of.items → store.elems.items ≡ old.elems.items → left ≡ reverse parts → Each (IsFull (views old)) (map part_view parts) →
    Extends (views old) (views old ++ map part_view (reverse left)) store left
extends_start old store parts left kept a n m l e = record {
  parts_are = ap (λ vs. vs ++ map part_view (reverse left)) (views-same store.parts.items old.parts.items a);
  numbers = n ∙ kept.numbers ∙ ap (numbers_from 0) (sym (views-same store.parts.items old.parts.items a));
  elements = m ∙ kept.elements ∙ ap elems (sym (views-same store.parts.items old.parts.items a));
  stored = stored-same (views old) store.parts.items old.parts.items a kept.stored;
  each = subst (λ ps. Each (IsFull (views old)) (map part_view ps)) (sym (ap reverse l ∙ reverse-reverse parts)) e;
}

pub extends_end : (old store : Store) (parts left rest : List Part) → left ≡ reverse parts → rest ≡ [] →
    Extends (views old) (views old ++ map part_view (reverse left)) store rest → GrowsStore old (map part_view parts) store
extends_end old store parts left rest l r x = record {
  parts_are = sym (append-nil (views store)) ∙ (rw r at x.parts_are) ∙ ap (λ ps. views old ++ map part_view ps) (ap reverse l ∙ reverse-reverse parts);
  numbers = x.numbers;
  elements = x.elements;
  stored = x.stored;
}

stored-extend : (ps new : List PartView) (arcs : List (Arc Stored Global)) (d : ℕ) → Each (λ (q : PartView). sum q.at ≡ d) new →
    Each (λ (q : PartView). sum q.at ≤ d) (map view_of arcs) → AreStored ps arcs → AreStored (ps ++ new) arcs
stored-extend ps new [] d e l s = tt
stored-extend ps new (a ∷ arcs) d e l s =
    let p = sym (products-extend ps new (arc_value a).part.at d e l.0) in
    let h = s.0 in
    (record { cells = h.cells ∙ p; offsets = h.offsets; rises = h.rises; full = h.full ∙ ap length p }, stored-extend ps new arcs d e l.1 s.1)

-- a store that grew by parts of one degree more is right
pub grows_store : (old new : Store) (more : List PartView) (d : ℕ) → GrowsStore old more new → Each (λ (q : PartView). sum q.at ≡ d) more →
    Each (λ (q : PartView). sum q.at ≤ d) (views new) → IsStore new
grows_store old new more d g e l = record {
  numbers = g.numbers;
  elements = g.elements;
  stored = subst (λ ps. AreStored ps new.parts.items) (sym g.parts_are) (stored-extend (views old) more new.parts.items d e l g.stored);
}
