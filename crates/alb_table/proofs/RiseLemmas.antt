-- The rectangles of a type by their left numbers.
use Rattle.std.proofs.Common.{◌≡◌, ℕ, zero, suc, ◌+◌, ◌*◌, ◌<◌, ◌≤◌, true, false, List, [], ◌∷◌, length, get_or, sym, refl, ap, ◌∙◌, arith, inl, inr, ◌⊎◌, subst, sum}
use Rattle.std.specs.Prelude.{Some, None, nat_le}
use Rattle.std.specs.declared.cmp.Ordering.TheVariants.{Less}
use Rattle.std.proofs.lemmas.Bool.{cases_Bool, cases_lt}
use Rattle.std.proofs.lemmas.Bool.Decides.{nat_tests}
use Rattle.alb_mono.specs.Listing.{Each, IsIn, Ascends}
use Rattle.alb_mono.specs.Tree.{type_le, cmp_types, IsTypeWithin, splits, IsSplit}
use Rattle.alb_mono.proofs.ListingLemmas.{each-weaker, each-member, each-both, each-always}
use Rattle.alb_mono.proofs.Both.{both_tests}
use Rattle.alb_mono.proofs.TypesListing.{splits-listing, le-plus}
use Rattle.alb_mono.proofs.Order.{cmp_types_total}
use Rattle.alb_poly.specs.Poly.{list_eq}
use Rattle.alb_linear.proofs.IdentityLemmas.{list_eq-sound, list_eq-itself}
use Rattle.alb_table.specs.declared.grid.Grid.{Grid}
use Rattle.alb_table.specs.Grid.{covers, first_cover, Rises}
use Rattle.alb_table.specs.Table.{PartView, first_of, dim_of, Table, IsTable}
use Rattle.alb_table.specs.Stored.{grids_from}
use Rattle.alb_table.proofs.GridLemmas.{Covers, covers_fact}
use Rattle.alb_table.proofs.PartLemmas.{first_here, first_step, sum-plus}
use Rattle.alb_table.proofs.RangeLemmas.{ats}
use Rattle.alb_table.proofs.TableLemmas.{types_ascend}
use Rattle.alb_table.proofs.TypesTo.{types_to-all, apart}

-- ---- the ranges of ascending types

-- the numbers of an earlier type come before those of a later one
pub ranges_rise : (parts : List PartView) (s u : List ℕ) → Ascends cmp_types (ats parts) → IsIn s (ats parts) → IsIn u (ats parts) → cmp_types s u ≡ Less →
    first_of parts s + dim_of parts s ≤ first_of parts u
ranges_rise [] s u a i j h = absurd i
ranges_rise (q ∷ qs) s u a i j h = elim (cases_Bool (list_eq q.at s)) [
  | inl e ↦
      let z : q.at ≡ s = list_eq-sound q.at s e in
      let f = first_here q qs s z in
      let g = first_step q qs u (λ y. apart s u h (sym z ∙ y)) in
      let x : first_of (q ∷ qs) s ≡ 0 = f.0 in let y : dim_of (q ∷ qs) s ≡ length q.basis = f.1 in let v : first_of (q ∷ qs) u ≡ length q.basis + first_of qs u = g.0 in
      rw (x, y, v) (omega arith)
  | inr e ↦
      let n : q.at ≡ s → ⊥ = λ z. (let y : list_eq q.at s ≡ true = subst (λ w. list_eq q.at w ≡ true) z (list_eq-itself q.at) in absurd (cc)) in
      let k : IsIn s (ats qs) = elim i [ inl z ↦ absurd (n (sym z)) | inr y ↦ y ] in
      let l : cmp_types q.at s ≡ Less = each-member (λ y. cmp_types q.at y ≡ Less) (ats qs) s a.0 k in
      let m : q.at ≡ u → ⊥ = λ z. apart s s (cmp_types_total.trans s u s h (subst (λ w. cmp_types w s ≡ Less) z l)) refl in
      let o : IsIn u (ats qs) = elim j [ inl z ↦ absurd (m (sym z)) | inr y ↦ y ] in
      let f = first_step q qs s n in let g = first_step q qs u m in
      let x : first_of (q ∷ qs) s ≡ length q.basis + first_of qs s = f.0 in let y : dim_of (q ∷ qs) s ≡ dim_of qs s = f.1 in
      let v : first_of (q ∷ qs) u ≡ length q.basis + first_of qs u = g.0 in
      let r : first_of qs s + dim_of qs s ≤ first_of qs u = ranges_rise qs s u a.1 k o h in
      rw (x, y, v) (omega arith)
]

rises_from : (parts : List PartView) (m n : ℕ) (ss : List (List ℕ × List ℕ)) → Ascends cmp_types (ats parts) → Ascends (λ q r. cmp_types q.0 r.0) ss →
    Each (λ (q : List ℕ × List ℕ). IsIn q.0 (ats parts)) ss → Each (λ (q : List ℕ × List ℕ). m ≤ first_of parts q.0) ss → Rises m (grids_from parts n ss)
rises_from parts m n [] o a i h = tt
rises_from parts m n (s ∷ ss) o a i h = (
  h.0,
  rises_from parts (first_of parts s.0 + dim_of parts s.0) (n + dim_of parts s.0 * dim_of parts s.1) ss o a.1 i.1
      (each-weaker (λ (q : List ℕ × List ℕ). (cmp_types s.0 q.0 ≡ Less) × IsIn q.0 (ats parts)) (λ (q : List ℕ × List ℕ). first_of parts s.0 + dim_of parts s.0 ≤ first_of parts q.0) ss
      (λ q k. ranges_rise parts s.0 q.0 o i.0 k.1 k.0)
      (each-both (λ (q : List ℕ × List ℕ). cmp_types s.0 q.0 ≡ Less) (λ (q : List ℕ × List ℕ). IsIn q.0 (ats parts)) ss a.0 i.1)),
)

pub le_trans : (xs ys zs : List ℕ) → length xs ≡ length ys → length ys ≡ length zs → type_le xs ys ≡ true → type_le ys zs ≡ true → type_le xs zs ≡ true
le_trans [] ys zs e f h k = refl
le_trans (x ∷ xs) [] zs e f h k = absurd (omega arith)
le_trans (x ∷ xs) (y ∷ ys) [] e f h k = absurd (omega arith)
le_trans (x ∷ xs) (y ∷ ys) (z ∷ zs) e f h k =
    let a = both_tests (nat_le x y) (type_le xs ys) h in let b = both_tests (nat_le y z) (type_le ys zs) k in
    let p : nat_le x y ≡ true = a.0 in let q : nat_le y z ≡ true = b.0 in
    let r : nat_le x z ≡ true = grind (arith, nat_tests) in
    rw r (le_trans xs ys zs (omega arith) (omega arith) a.1 b.1)

-- the rectangles of a type of the next degree ascend
pub grids_rise : (t : Table) (w : List ℕ) → IsTable t → IsTypeWithin t.target (t.degree + 1) w → Rises 0 (grids_from t.parts 0 (splits w))
grids_rise t w k h =
    rises_from t.parts 0 0 (splits w) (types_ascend t k) (splits-listing w).ascends
    (each-weaker (IsSplit w) (λ (q : List ℕ × List ℕ). IsIn q.0 (ats t.parts)) (splits w)
    (λ q s.
    let e : sum q.0 + sum q.1 ≡ sum w = sum-plus q.0 q.1 (s.long ∙ sym s.long_right) ∙ ap sum s.both in
    let a : 0 < sum q.0 = s.left in let b : 0 < sum q.1 = s.right in let c : sum w ≡ t.degree + 1 = h.degree in
    let l : type_le q.0 w ≡ true = ap (type_le q.0) (sym s.both) ∙ le-plus q.0 q.1 (s.long_right ∙ sym s.long) in
    subst (IsIn q.0) (sym k.types)
    (types_to-all t.target t.degree q.0
    (record { long = s.long ∙ h.long; within = le_trans q.0 w t.target s.long h.long l h.within; some = a; degree_le = omega arith })))
    (splits-listing w).each)
    (each-always (λ (q : List ℕ × List ℕ). 0 ≤ first_of t.parts q.0) (splits w) (λ q. omega arith))

-- ---- the search

rises_at : (n : ℕ) (gs : List Grid) (i j : ℕ) (d : Grid) → Rises n gs → i < j → j < length gs → (get_or gs i d).left + (get_or gs i d).lefts ≤ (get_or gs j d).left
rises_at n [] i j d r h l = absurd (omega arith)
rises_at n (g ∷ gs) zero zero d r h l = absurd (omega arith)
rises_at n (g ∷ gs) (suc i) zero d r h l = absurd (omega arith)
rises_at n (g ∷ gs) (suc i) (suc j) d r h l = rises_at (g.left + g.lefts) gs i j d r.1 (omega arith) (omega arith)
rises_at n (g ∷ gs) zero (suc j) d r h l = low (g.left + g.lefts) gs j r.1 (omega arith)
  where
    low : (m : ℕ) (hs : List Grid) (j : ℕ) → Rises m hs → j < length hs → m ≤ (get_or hs j d).left
    low m [] j r l = absurd (omega arith)
    low m (x ∷ hs) zero r l = r.0
    low m (x ∷ hs) (suc j) r l = let a = low (x.left + x.lefts) hs j r.1 (omega arith) in let b : m ≤ x.left = r.0 in omega (arith, a)

outside : (g : Grid) (b c : ℕ) → Covers g b c → (b < g.left) ⊎ (g.left + g.lefts ≤ b) → ⊥
outside g b c k (inl l) = let a : g.left ≤ b = k.low in absurd (omega arith)
outside g b c k (inr l) = let a : b < g.left + g.lefts = k.high in absurd (omega arith)

uncovered : (g : Grid) (b c : ℕ) → (b < g.left) ⊎ (g.left + g.lefts ≤ b) → covers g b c ≡ false
uncovered g b c h = elim (cases_Bool (covers g b c)) [ inr e ↦ e | inl e ↦ absurd (outside g b c (covers_fact g b c e) h) ]

first_at : (b c : ℕ) (gs : List Grid) (i : ℕ) (d : Grid) → i < length gs → covers (get_or gs i d) b c ≡ true → ((j : ℕ) → j < i → covers (get_or gs j d) b c ≡ false) →
    first_cover b c gs ≡ Some (get_or gs i d)
first_at b c [] i d h e f = absurd (omega arith)
first_at b c (g ∷ gs) zero d h e f = rw e refl
first_at b c (g ∷ gs) (suc i) d h e f = let z = f 0 (omega arith) in rw z (first_at b c gs i d (omega arith) e (λ j l. f (suc j) (omega arith)))

first_none : (b c : ℕ) (gs : List Grid) (d : Grid) → ((j : ℕ) → j < length gs → covers (get_or gs j d) b c ≡ false) → first_cover b c gs ≡ None
first_none b c [] d f = refl
first_none b c (g ∷ gs) d f = let z = f 0 (omega arith) in rw z (first_none b c gs d (λ j l. f (suc j) (omega arith)))

abbrev pub no_grid : Grid
no_grid = record { left = 0; lefts = 0; right = 0; rights = 0; offset = 0 }

-- none of the rectangles before `low` and none from `high` on has the pair
pub record Narrows (gs : List Grid) (b c low high : ℕ) : Type 0 where
  pub order : low ≤ high
  pub within : high ≤ length gs
  pub below : (j : ℕ) → j < low → covers (get_or gs j no_grid) b c ≡ false
  pub above : (j : ℕ) → high ≤ j → j < length gs → covers (get_or gs j no_grid) b c ≡ false

pub narrows_start : (gs : List Grid) (b c n : ℕ) → n ≡ length gs → Narrows gs b c 0 n
narrows_start gs b c n e = record { order = omega arith; within = omega arith; below = λ j l. absurd (omega arith); above = λ j h l. absurd (omega arith) }

pub below_or : (j m : ℕ) → j < m + 1 → (j < m) ⊎ (j ≡ m)
below_or j m h = grind arith

pub from_or : (j m : ℕ) → m ≤ j → (m < j) ⊎ (m ≡ j)
from_or j m h = grind arith

narrows_after : (gs : List Grid) (b c low high m : ℕ) → Rises 0 gs → Narrows gs b c low high → m < high → covers (get_or gs m no_grid) b c ≡ false →
    (get_or gs m no_grid).left + (get_or gs m no_grid).lefts ≤ b → Narrows gs b c (m + 1) high
narrows_after gs b c low high m r h l n e =
    let w : high ≤ length gs = h.within in
    record {
      order = omega arith;
      within = w;
      below = λ j g. elim (below_or j m g) [
        | inl s ↦ let a = rises_at 0 gs j m no_grid r s (omega arith) in uncovered (get_or gs j no_grid) b c (inr (omega (arith, a)))
        | inr s ↦ subst (λ i. covers (get_or gs i no_grid) b c ≡ false) (sym s) n
      ];
      above = h.above;
    }

narrows_before : (gs : List Grid) (b c low high m : ℕ) → Rises 0 gs → Narrows gs b c low high → low ≤ m → m < high → covers (get_or gs m no_grid) b c ≡ false →
    b < (get_or gs m no_grid).left + (get_or gs m no_grid).lefts → Narrows gs b c low m
narrows_before gs b c low high m r h k l n e =
    let w : high ≤ length gs = h.within in
    record {
      order = k;
      within = omega arith;
      below = h.below;
      above = λ j s z. elim (from_or j m s) [
        | inl f ↦ let a = rises_at 0 gs m j no_grid r f z in uncovered (get_or gs j no_grid) b c (inl (omega (arith, a)))
        | inr f ↦ subst (λ i. covers (get_or gs i no_grid) b c ≡ false) f n
      ];
    }

-- the next step, whichever part it takes
pub narrows_step : (gs : List Grid) (g : Grid) (b c low high m x y : ℕ) → Rises 0 gs → Narrows gs b c low high → low ≤ m → m < high → get_or gs m no_grid ≡ g →
    covers g b c ≡ false → (g.left + g.lefts ≤ b → (x ≡ m + 1) × (y ≡ high)) → (b < g.left + g.lefts → (x ≡ low) × (y ≡ m)) → Narrows gs b c x y
narrows_step gs g b c low high m x y r h k l e n f s = elim (cases_lt b (g.left + g.lefts)) [
  | inr z ↦ let q = f z in
      subst (λ i. Narrows gs b c i y) (sym q.0) (subst (λ j. Narrows gs b c (m + 1) j) (sym q.1)
      (narrows_after gs b c low high m r h l (ap (λ (v : Grid). covers v b c) e ∙ n) (subst (λ (v : Grid). v.left + v.lefts ≤ b) (sym e) z)))
  | inl z ↦ let q = s z in
      subst (λ i. Narrows gs b c i y) (sym q.0) (subst (λ j. Narrows gs b c low j) (sym q.1)
      (narrows_before gs b c low high m r h k l (ap (λ (v : Grid). covers v b c) e ∙ n) (subst (λ (v : Grid). b < v.left + v.lefts) (sym e) z)))
]

pub narrows_found : (gs : List Grid) (g : Grid) (b c low high m : ℕ) → Rises 0 gs → Narrows gs b c low high → m < high → get_or gs m no_grid ≡ g → covers g b c ≡ true →
    first_cover b c gs ≡ Some g
narrows_found gs g b c low high m r h l e n =
    let w : high ≤ length gs = h.within in
    let k : g.left ≤ b = (covers_fact g b c n).low in
    let k' : (get_or gs m no_grid).left ≤ b = subst (λ (v : Grid). v.left ≤ b) (sym e) k in
    first_at b c gs m no_grid (omega arith) (ap (λ (v : Grid). covers v b c) e ∙ n)
    (λ j s. (let a = rises_at 0 gs j m no_grid r s (omega arith) in uncovered (get_or gs j no_grid) b c (inr (omega (arith, a))))) ∙ ap Some e

pub narrows_none : (gs : List Grid) (b c low high : ℕ) → Narrows gs b c low high → high ≤ low → first_cover b c gs ≡ None
narrows_none gs b c low high h l = first_none b c gs no_grid (λ j z. elim (cases_lt j low) [ inl s ↦ h.below j s | inr s ↦ h.above j (omega arith) z ])
