-- Two right tables of one degree have the same basis elements and the same entries.
use Rattle.std.proofs.Common.{◌≡◌, ℕ, zero, suc, ◌+◌, ◌-◌, ◌<◌, ◌≤◌, true, false, List, [], ◌∷◌, ◌++◌, map, length, sum, get_or, replicate, refl, sym, ap, ◌∙◌, subst, inl, inr, arith}
use Rattle.std.specs.Prelude.{Option, Some, None, unwrap_or, slice_get, nat_eq, ◌==◌}
use Rattle.std.proofs.Math.ListN.{length-replicate}
use Rattle.std.proofs.lemmas.Bool.{cases_Bool, cases_lt, cases_order}
use Rattle.std.proofs.lemmas.Bool.Decides.{nat_tests}
use Rattle.std.proofs.lemmas.List.{same_lists, get_or_default, get_or_append_left, length-append}
use Rattle.std.proofs.lemmas.Grind.{flat_map-append}
use Rattle.std.specs.List.{flat_map}
use Rattle.gf_sums.specs.Sums.{Comb, coefficient, reindex}
use Rattle.gf_field.proofs.Table.{IsPrime-from_table}
use Rattle.gf_field.specs.Modular.{IsSameMod}
use Rattle.gf_field.proofs.Mod as mods
use Rattle.alb_mono.specs.Listing.{Each, IsIn}
use Rattle.alb_mono.specs.Tree.{Tree, leaf, node, type_of, type_plus, type_le, same_tree, are_below, rising, types_of, splits, IsSplit}
use Rattle.alb_mono.proofs.TypesListing.{splits-listing, le-plus}
use Rattle.alb_mono.proofs.Both.{both_true}
use Rattle.alb_mono.proofs.Leaves.{plus-node, plus_replicate}
use Rattle.alb_mono.proofs.TypeLemmas.{length-type_plus}
use Rattle.alb_mono.proofs.ListingLemmas.{each-member, each-weaker}
use Rattle.alb_poly.specs.Poly.{IsSamePoly}
use Rattle.alb_poly.specs.Instance.{Form}
use Rattle.alb_poly.specs.Consequence.{AreMultilinear}
use Rattle.alb_poly.proofs.Consequence.{tree_tells, poly_alike}
use Rattle.alb_rows.specs.Row.{Cells, comb, ColumnsBelow, AreSameVector}
use Rattle.alb_rows.proofs.RowLemmas.{entry_past, row_is_its_vector}
use Rattle.alb_subst.specs.Columns.{IsDistinct}
use Rattle.alb_subst.proofs.ProductLemmas.{distinct-products}
use Rattle.alb_table.proofs.RiseLemmas.{le_trans}
use Rattle.alb_table.specs.Table.{same_pair, find_entry, products, entry_of, table_product, PartView, first_of, dim_of, elems, type_at, entries_at, monos, mono_at, Table, IsTable, IsPartOf, CoversType, FactorsBelow, types_to}
use Rattle.alb_table.specs.Table as View
use Rattle.alb_table.specs.Right.{AreHigh, IsWithinDegree, IsTypeTo, IsRight}
use Rattle.alb_table.specs.RightTable.{basis_monos, mono_entry}
use Rattle.alb_table.specs.Value.{IsBasisRow}
use Rattle.alb_table.specs.declared.part.Elem.{Elem}
use Rattle.alb_table.specs.declared.part.Elem.TheVariants.{Gen, Prod}
use Rattle.alb_table.proofs.GridLemmas.{get_some}
use Rattle.alb_table.proofs.MonoLemmas.{elem_factors, mono_step}
use Rattle.alb_table.proofs.PartLemmas.{sum-plus}
use Rattle.alb_table.proofs.Numbers.{entry-respects, coefficient-reindex}
use Rattle.alb_table.proofs.RangeLemmas.{ats, type_in, number_in_range, type_of_range, product_of, entries_full}
use Rattle.alb_table.proofs.Right as rights
use Rattle.alb_table.proofs.Right.{of_type-within, basis-unique}
use Rattle.alb_table.proofs.RightTables.{length-monos, number-type, number-basis, numbers-differ, numbered, type-to}
use Rattle.alb_table.proofs.TableLemmas.{types_ascend, entry_exists, entry_vector}
use Rattle.alb_table.proofs.TypesTo as to
use Rattle.alb_table.proofs.TypesTo.{types_to-each, types_to-all}
use Rattle.alb_build.proofs.Agree.{right-lower}
use Rattle.alb_build.proofs.KeptParts.{type-kept}
use Rattle.alb_subst.proofs.SumLemmas.{pair-sound}
use Rattle.alb_unique.proofs.SameShapes.{AreShaped, shaped, first-same, types-same, elems-long, products-by, IsKept, kept, HasFront, front-of, HaveSameEntries, have-entries}

-- ---- lists

run-at : (f : ℕ → Tree) (k n i : ℕ) (d : Tree) → i < n → get_or (map f (rising k n)) i d ≡ f (k + i)
run-at f k zero i d l = absurd (omega arith)
run-at f k (suc n) zero d l = ap f (omega arith)
run-at f k (suc n) (suc i) d l = run-at f (suc k) n i d (omega arith) ∙ ap f (omega arith)

run-long : (f : ℕ → Tree) (k n : ℕ) → length (map f (rising k n)) ≡ n
run-long f k zero = refl
run-long f k (suc n) = omega (arith, run-long f (suc k) n)

pair-itself : (k : ℕ × ℕ) → same_pair k k ≡ true
pair-itself k = let a : (k.0 == k.0) ≡ true = grind (arith, nat_tests) in let b : (k.1 == k.1) ≡ true = grind (arith, nat_tests) in rw (a, b) refl

other-pair : (x y : ℕ × ℕ) → same_pair y x ≡ false → same_pair x y ≡ false
other-pair x y h = elim (cases_Bool (same_pair x y)) [
  | inr f ↦ f
  | inl t ↦ (let e : same_pair y x ≡ true = subst (λ z. same_pair z x ≡ true) (pair-sound x y t) (pair-itself x) in absurd (cc))
]

-- lists that have the same entry for each listed pair
entries-listed : (xs : List (ℕ × ℕ)) (es fs : List Cells) → IsDistinct xs → length es ≡ length xs → length fs ≡ length xs
    → ((x : ℕ × ℕ) → IsIn x xs → find_entry x xs es ≡ find_entry x xs fs) → es ≡ fs
entries-listed [] [] [] d a b h = refl
entries-listed [] [] (f ∷ fs) d a b h = absurd (omega arith)
entries-listed [] (e ∷ es) fs d a b h = absurd (omega arith)
entries-listed (x ∷ xs) [] fs d a b h = absurd (omega arith)
entries-listed (x ∷ xs) (e ∷ es) [] d a b h = absurd (omega arith)
entries-listed (x ∷ xs) (e ∷ es) (f ∷ fs) d a b h =
    let first : Some e ≡ Some f = rw (pair-itself x) at (h x (inl refl)) in
    let same : e ≡ f = cc in
    let rest = entries-listed xs es fs d.1 (omega arith) (omega arith) (λ y i.
    rw (other-pair x y (each-member (λ z. same_pair z x ≡ false) xs y d.0 i)) at (h y (inr i))) in
    ap (λ z. z ∷ es) same ∙ ap (λ zs. f ∷ zs) rest

-- the type of a product
type-product : (n : ℕ) (l r : Tree) → type_of n (node l r) ≡ type_plus (type_of n l) (type_of n r)
type-product n l r =
    sym (plus_replicate n (node l r)) ∙ sym (plus-node (replicate n 0) n l r (length-replicate n 0)) ∙ ap (λ w. type_plus w (type_of n r)) (plus_replicate n l)

plus-turned : (s u : List ℕ) → length s ≡ length u → type_plus s u ≡ type_plus u s
plus-turned [] [] h = refl
plus-turned [] (y ∷ u) h = absurd (omega arith)
plus-turned (x ∷ s) [] h = absurd (omega arith)
plus-turned (x ∷ s) (y ∷ u) h = let e : x + y ≡ y + x = omega arith in rw (e, plus-turned s u (omega arith)) refl

leaf-same : (k j : ℕ) → leaf k ≡ leaf j → k ≡ j
leaf-same k j e = cc

left-same : (l r x y : Tree) → node l r ≡ node x y → l ≡ x
left-same l r x y e = cc

right-same : (l r x y : Tree) → node l r ≡ node x y → r ≡ y
right-same l r x y e = cc

leaf_node : (k : ℕ) (l r : Tree) → leaf k ≡ node l r → ⊥
leaf_node k l r e = cc

-- all types of a greater degree come later
types_to-front : (target : List ℕ) (d k : ℕ) → types_to target (d + k) ≡ types_to target d ++ flat_map (types_of target) (rising (1 + d) k)
types_to-front target d k = ap (flat_map (types_of target)) (rising-cut 1 d k) ∙ flat_map-append (types_of target) (rising 1 d) (rising (1 + d) k)
  where
    rising-cut : (j d k : ℕ) → rising j (d + k) ≡ rising j d ++ rising (j + d) k
    rising-cut j zero k = ap (λ n. rising n (0 + k)) (omega arith) ∙ ap (rising (j + 0)) (omega arith)
    rising-cut j (suc d) k =
        let e : suc d + k ≡ suc (d + k) = omega arith in
        let f : suc j + d ≡ j + suc d = omega arith in
        ap (rising j) e ∙ ap (λ xs. j ∷ xs) (rising-cut (suc j) d k ∙ ap (λ n. rising (suc j) d ++ rising n k) f)

-- a type within the target that is one degree above the table at most
pub record IsNextType (t : Table) (w : List ℕ) : Type 0 where
  pub long : length w ≡ length t.target
  pub within : type_le w t.target ≡ true
  pub degree : sum w ≤ t.degree + 1

-- ---- two tables

module _ (fs : List Form) (multi : AreMultilinear fs) (high : AreHigh fs) (t u : Table) (tab : IsTable t) (tab' : IsTable u)
    (field : u.p ≡ t.p) (goal : u.target ≡ t.target) (deg : t.degree ≤ u.degree)
    (right : IsRight t.p fs t.target t.degree (basis_monos t.parts) (mono_entry t.parts))
    (right' : IsRight u.p fs u.target u.degree (basis_monos u.parts) (mono_entry u.parts)) where
  pos : 0 < t.p
  pos = let b = (IsPrime-from_table t.p tab.field).above_one in omega arith

  -- the other table, over the field, the target and the degree of this one
  other : IsRight t.p fs t.target t.degree (basis_monos u.parts) (mono_entry u.parts)
  other = right-lower t.p fs t.target t.degree u.degree deg (basis_monos u.parts) (mono_entry u.parts)
      (subst (λ p. IsRight p fs t.target u.degree (basis_monos u.parts) (mono_entry u.parts)) field
      (subst (λ g. IsRight u.p fs g u.degree (basis_monos u.parts) (mono_entry u.parts)) goal right'))

  -- its parts of the types of this one
  pub lower : HasFront u.parts (ats t.parts) (flat_map (types_of t.target) (rising (1 + t.degree) (u.degree - t.degree)))
  lower = front-of u.parts (ats t.parts) (flat_map (types_of t.target) (rising (1 + t.degree) (u.degree - t.degree)))
      (tab'.types ∙ ap (λ g. types_to g u.degree) goal ∙ ap (types_to t.target) (let e : u.degree ≡ t.degree + (u.degree - t.degree) = omega arith in e)
      ∙ types_to-front t.target t.degree (u.degree - t.degree) ∙ ap (λ ws. ws ++ flat_map (types_of t.target) (rising (1 + t.degree) (u.degree - t.degree))) (sym tab.types))

  front-in : (w : List ℕ) → IsIn w (ats t.parts) → IsIn w (ats lower.front)
  front-in w i = subst (IsIn w) (sym lower.types) i

  pub of-types : (w : List ℕ) → IsIn w (ats t.parts) → IsTypeTo t.target t.degree w
  of-types w i =
      let s = each-member (to.IsTypeTo t.target t.degree) (types_to t.target t.degree) w (types_to-each t.target t.degree) (subst (IsIn w) tab.types i) in
      record { counts = s.long; le = s.within; degree = s.degree_le }

  -- what the other table says of a type of this one, its parts of these types say
  kept-front : (w : List ℕ) → IsIn w (ats t.parts) → IsKept lower.front lower.rest w
  kept-front w i = kept lower.front lower.rest w (front-in w i)

  same-basis : (w : List ℕ) → IsTypeTo t.target t.degree w → basis_monos t.parts w ≡ basis_monos u.parts w
  same-basis w ty = basis-unique t.p fs w (basis_monos t.parts w) (basis_monos u.parts w) (right.bases w ty) (other.bases w ty)

  pub same-dim : (w : List ℕ) → IsIn w (ats t.parts) → dim_of t.parts w ≡ dim_of u.parts w
  same-dim w i =
      sym (run-long (mono_at t.parts) (first_of t.parts w) (dim_of t.parts w)) ∙ ap length (same-basis w (of-types w i)) ∙ run-long (mono_at u.parts) (first_of u.parts w) (dim_of u.parts w)

  pub are-shaped : AreShaped t.parts lower.front
  are-shaped = shaped t.parts lower.front (sym lower.types) (types_ascend t tab) (λ w i.
      same-dim w i ∙ ap (λ parts. dim_of parts w) lower.parts_are ∙ (kept-front w i).dim)

  pub same-first : (w : List ℕ) → IsIn w (ats t.parts) → first_of t.parts w ≡ first_of u.parts w
  same-first w i = first-same t.parts lower.front are-shaped w ∙ sym (kept-front w i).first ∙ ap (λ parts. first_of parts w) (sym lower.parts_are)

  elems-are : elems u.parts ≡ elems lower.front ++ elems lower.rest
  elems-are = ap elems lower.parts_are ∙ flat_map-append (λ (q : PartView). q.basis) lower.front lower.rest

  pub fewer : length (elems t.parts) ≤ length (elems u.parts)
  fewer = omega (arith, elems-long t.parts lower.front are-shaped, ap length elems-are, length-append (elems lower.front) (elems lower.rest))

  pub same-type : (b : ℕ) → b < length (elems t.parts) → type_at t.parts b ≡ type_at u.parts b
  same-type b h =
      ap (λ ts. get_or ts b []) (types-same t.parts lower.front are-shaped)
      ∙ sym (type-kept lower.front lower.rest b (omega (arith, h, elems-long t.parts lower.front are-shaped))) ∙ ap (λ parts. type_at parts b) (sym lower.parts_are)

  pub same-mono : (b : ℕ) → b < length (elems t.parts) → mono_at t.parts b ≡ mono_at u.parts b
  same-mono b h =
      let w = type_at t.parts b in
      let i = type_in t.parts b h in
      let r = number_in_range t.parts b (types_ascend t tab) h in
      let f = first_of t.parts w in
      let n = dim_of t.parts w in
      let low : f ≤ b = r.low in
      let high : b < f + n = r.high in
      let z : f + (b - f) ≡ b = omega arith in
      let here : get_or (basis_monos t.parts w) (b - f) (leaf 0) ≡ mono_at t.parts b = run-at (mono_at t.parts) f n (b - f) (leaf 0) (omega arith) ∙ ap (mono_at t.parts) z in
      let there : get_or (basis_monos u.parts w) (b - f) (leaf 0) ≡ mono_at u.parts b =
      ap (λ k. get_or (map (mono_at u.parts) (rising k (dim_of u.parts w))) (b - f) (leaf 0)) (sym (same-first w i))
      ∙ ap (λ m. get_or (map (mono_at u.parts) (rising f m)) (b - f) (leaf 0)) (sym (same-dim w i))
      ∙ run-at (mono_at u.parts) f n (b - f) (leaf 0) (omega arith) ∙ ap (mono_at u.parts) z in
      sym here ∙ ap (λ ms. get_or ms (b - f) (leaf 0)) (same-basis w (type-to fs t tab right b h)) ∙ there

  -- the monomials of different numbers differ
  mono-injective : (a b : ℕ) → a < length (elems t.parts) → b < length (elems t.parts) → mono_at t.parts a ≡ mono_at t.parts b → a ≡ b
  mono-injective a b h k e = elim (cases_order a b) [
    | inl s ↦ s
    | inr n ↦ elim n [
      | inl l ↦ (let d = numbers-differ fs t tab right a b l k in let s : same_tree (mono_at t.parts a) (mono_at t.parts b) ≡ true = subst (λ x. same_tree (mono_at t.parts a) x ≡ true) e (tree_tells.whole (mono_at t.parts a)) in absurd (cc))
      | inr l ↦ (let d = numbers-differ fs t tab right b a l h in let s : same_tree (mono_at t.parts b) (mono_at t.parts a) ≡ true = subst (λ x. same_tree (mono_at t.parts b) x ≡ true) (sym e) (tree_tells.whole (mono_at t.parts b)) in absurd (cc))
    ]
  ]

  factor-same : (b a c : ℕ) → b < length (elems t.parts) → a < b → c < b → mono_at t.parts a ≡ mono_at u.parts c → a ≡ c
  factor-same b a c h l m e = mono-injective a c (omega arith) (omega arith) (e ∙ sym (same-mono c (omega arith)))

  element-same : (b : ℕ) → b < length (elems t.parts) → (x y : Elem) → FactorsBelow b x → FactorsBelow b y → View.mono_of (monos t.parts) x ≡ View.mono_of (monos u.parts) y → x ≡ y
  element-same b h (Gen k) (Gen j) f g e = ap Gen (leaf-same k j e)
  element-same b h (Gen k) (Prod l r) f g e = absurd (leaf_node k _ _ e)
  element-same b h (Prod l r) (Gen j) f g e = absurd (leaf_node j _ _ (sym e))
  element-same b h (Prod l r) (Prod x y) f g e =
      ap (λ n. Prod n r) (factor-same b l x h f.0 g.0 (left-same (mono_at t.parts l) (mono_at t.parts r) (mono_at u.parts x) (mono_at u.parts y) e))
      ∙ ap (λ n. Prod x n) (factor-same b r y h f.1 g.1 (right-same (mono_at t.parts l) (mono_at t.parts r) (mono_at u.parts x) (mono_at u.parts y) e))

  pub same-elements : elems t.parts ≡ elems lower.front
  same-elements = same_lists (elems t.parts) (elems lower.front) (elems-long t.parts lower.front are-shaped) (λ b d h.
      let long = elems-long t.parts lower.front are-shaped in
      let h' : b < length (elems u.parts) = omega (arith, h, fewer) in
      let x = get_or (elems t.parts) b d in
      let y = get_or (elems u.parts) b d in
      let is : slice_get (elems t.parts) b ≡ Some x = get_some (elems t.parts) b x h (get_or_default (elems t.parts) b d x h) in
      let is' : slice_get (elems u.parts) b ≡ Some y = get_some (elems u.parts) b y h' (get_or_default (elems u.parts) b d y h') in
      element-same b h x y (elem_factors t b x tab h is) (elem_factors u b y tab' h' is') (sym (mono_step t b x tab h is) ∙ same-mono b h ∙ mono_step u b y tab' h' is')
      ∙ ap (λ es. get_or es b d) elems-are ∙ get_or_append_left (elems lower.front) (elems lower.rest) d b (omega (arith, h, long)))

  -- ---- products

  factors-in : (w : List ℕ) → IsNextType t w → (s : List ℕ × List ℕ) → IsSplit w s → IsIn s.0 (ats t.parts) × IsIn s.1 (ats t.parts)
  factors-in w h s is =
      let e : length s.0 ≡ length s.1 = is.long ∙ sym is.long_right in
      let all : sum s.0 + sum s.1 ≡ sum w = sum-plus s.0 s.1 e ∙ ap sum is.both in
      let left : type_le s.0 w ≡ true = subst (λ v. type_le s.0 v ≡ true) is.both (le-plus s.0 s.1 (sym e)) in
      let right : type_le s.1 w ≡ true = subst (λ v. type_le s.1 v ≡ true) (plus-turned s.1 s.0 (sym e) ∙ is.both) (le-plus s.1 s.0 e) in
      let l : 0 < sum s.0 = is.left in
      let r : 0 < sum s.1 = is.right in
      let small : sum w ≤ t.degree + 1 = h.degree in (
        subst (IsIn s.0) (sym tab.types) (types_to-all t.target t.degree s.0 (record { long = is.long ∙ h.long; within = le_trans s.0 w t.target is.long h.long left h.within; some = is.left; degree_le = omega arith })),
        subst (IsIn s.1) (sym tab.types) (types_to-all t.target t.degree s.1 (record { long = is.long_right ∙ h.long; within = le_trans s.1 w t.target is.long_right h.long right h.within; some = is.right; degree_le = omega arith })),
      )

  pub same-products : (w : List ℕ) → IsNextType t w → products t.parts w ≡ products u.parts w
  same-products w h = products-by t.parts u.parts (splits w)
      (each-weaker (IsSplit w) _ (splits w) (λ s is. let i = factors-in w h s is in (same-first s.0 i.0, same-dim s.0 i.0, same-first s.1 i.1, same-dim s.1 i.1)) (splits-listing w).each)

  pub type-next : (w : List ℕ) → IsIn w (ats t.parts) → IsNextType t w
  type-next w i = let ty = of-types w i in record { long = ty.counts; within = ty.le; degree = omega (arith, ty.degree) }

  -- ---- entries

  -- the product of two basis elements of which the table has an entry
  product-within : (b c : ℕ) → b < length (elems t.parts) → c < length (elems t.parts) → CoversType t (type_plus (type_at t.parts b) (type_at t.parts c))
      → IsWithinDegree t.target t.degree (node (mono_at t.parts b) (mono_at t.parts c))
  product-within b c h k v =
      let n = length t.target in
      let ob = number-type fs t tab right b h in
      let oc = number-type fs t tab right c k in
      let lb : length (type_at t.parts b) ≡ n = (type-to fs t tab right b h).counts in
      let lc : length (type_at t.parts c) ≡ n = (type-to fs t tab right c k).counts in
      let tb : type_of n (mono_at t.parts b) ≡ type_at t.parts b = subst (λ m. type_of m (mono_at t.parts b) ≡ type_at t.parts b) lb ob.counts in
      let tc : type_of n (mono_at t.parts c) ≡ type_at t.parts c = subst (λ m. type_of m (mono_at t.parts c) ≡ type_at t.parts c) lc oc.counts in
      let w = type_plus (type_at t.parts b) (type_at t.parts c) in
      let lw : length w ≡ n = length-type_plus (type_at t.parts b) (type_at t.parts c) (lb ∙ sym lc) ∙ lb in
      of_type-within t.target t.degree w (node (mono_at t.parts b) (mono_at t.parts c)) (record { counts = lw; le = v.within; degree = v.degree_le }) (record {
        below = both_true (are_below (length w) (mono_at t.parts b)) (are_below (length w) (mono_at t.parts c))
            (subst (λ m. are_below m (mono_at t.parts b) ≡ true) (lb ∙ sym lw) ob.below) (subst (λ m. are_below m (mono_at t.parts c) ≡ true) (lc ∙ sym lw) oc.below);
        counts = ap (λ m. type_of m (node (mono_at t.parts b) (mono_at t.parts c))) lw ∙ type-product n (mono_at t.parts b) (mono_at t.parts c)
            ∙ ap (λ x. type_plus x (type_of n (mono_at t.parts c))) tb ∙ ap (type_plus (type_at t.parts b)) tc;
      })

  -- the entries over monomials are equal
  alike-entries : (b c : ℕ) → b < length (elems t.parts) → c < length (elems t.parts) → CoversType t (type_plus (type_at t.parts b) (type_at t.parts c))
      → IsSamePoly t.p (reindex (mono_at t.parts) (table_product t.parts b c)) (reindex (mono_at u.parts) (table_product u.parts b c))
  alike-entries b c h k v =
      let x = mono_at t.parts b in
      let y = mono_at t.parts c in
      let long = length-monos t.parts in
      let long' = length-monos u.parts in
      let here : reindex (mono_at t.parts) (table_product t.parts b c) ≡ mono_entry t.parts x y =
      entry-respects (length t.target) (monos t.parts) (table_product t.parts) (numbered fs t tab right) b c (omega (arith, long)) (omega (arith, long)) in
      let there : reindex (mono_at u.parts) (table_product u.parts b c) ≡ mono_entry u.parts (mono_at u.parts b) (mono_at u.parts c) =
      entry-respects (length u.target) (monos u.parts) (table_product u.parts) (numbered fs u tab' right') b c (omega (arith, long', fewer)) (omega (arith, long', fewer)) in
      let there' : reindex (mono_at u.parts) (table_product u.parts b c) ≡ mono_entry u.parts x y =
      there ∙ ap (λ z. mono_entry u.parts z (mono_at u.parts c)) (sym (same-mono b h)) ∙ ap (mono_entry u.parts x) (sym (same-mono c k)) in
      let alike = rights.entry-unique t.p pos fs multi high t.target t.degree (basis_monos t.parts) (basis_monos u.parts) (mono_entry t.parts) (mono_entry u.parts) right other x y
      (number-basis fs t tab right b h) (number-basis fs t tab right c k) (product-within b c h k v) in
      subst (λ f. IsSamePoly t.p f (reindex (mono_at u.parts) (table_product u.parts b c))) (sym here)
      (subst (λ f. IsSamePoly t.p (mono_entry t.parts x y) f) (sym there') (poly_alike alike))

  -- rows over basis elements with one polynomial are one
  rows-same : (r s : Cells) → IsBasisRow t.p (length (elems t.parts)) r → IsBasisRow t.p (length (elems u.parts)) s
      → IsSamePoly t.p (reindex (mono_at t.parts) (comb r)) (reindex (mono_at u.parts) (comb s)) → r ≡ s
  rows-same r s vr vs e = row_is_its_vector t.p r s vr.row vs.row at-columns
    where
      n : ℕ
      n = length (elems u.parts)

      cells-below : (m : ℕ) (cells : Cells) → ColumnsBelow m cells → Each (λ c. c.1 < m) (comb cells)
      cells-below m [] h = tt
      cells-below m (x ∷ xs) h = (h 0 x (omega arith), cells-below m xs (λ k d l. h (suc k) d (omega arith)))

      agree : (f : Comb ℕ) → Each (λ c. c.1 < length (elems t.parts)) f → reindex (mono_at t.parts) f ≡ reindex (mono_at u.parts) f
      agree [] h = refl
      agree (c ∷ f) h = ap (λ m. (c.0, m) ∷ reindex (mono_at t.parts) f) (same-mono c.1 h.0) ∙ ap (λ xs. (c.0, mono_at u.parts c.1) ∷ xs) (agree f h.1)

      apart : (i j : ℕ) → i < n → j < n → same_tree (mono_at u.parts i) (mono_at u.parts j) ≡ nat_eq i j
      apart i j h k = elim (cases_order i j) [
        | inl q ↦ rw q (tree_tells.whole (mono_at u.parts j) ∙ sym (nat-itself j))
        | inr o ↦ elim o [
          | inl l ↦ (let z : nat_eq i j ≡ false = grind (arith, nat_tests) in numbers-differ fs u tab' right' i j l k ∙ sym z)
          | inr l ↦ (let z : nat_eq i j ≡ false = grind (arith, nat_tests) in turned (mono_at u.parts i) (mono_at u.parts j) (numbers-differ fs u tab' right' j i l h) ∙ sym z)
        ]
      ]
        where
          nat-itself : (j : ℕ) → nat_eq j j ≡ true
          nat-itself j = grind (arith, nat_tests)

          turned : (x y : Tree) → same_tree y x ≡ false → same_tree x y ≡ false
          turned x y f = elim (cases_Bool (same_tree x y)) [
            | inr g ↦ g
            | inl q ↦ (let z : same_tree y x ≡ true = subst (λ v. same_tree v x ≡ true) (tree_tells.sound x y q) (tree_tells.whole x) in absurd (cc))
          ]

      below-all : (cells : Cells) → ColumnsBelow (length (elems t.parts)) cells → ColumnsBelow n cells
      below-all cells h k d l = let x = h k d l in omega (arith, x, fewer)

      coefficient-at : (cells : Cells) (j : ℕ) → ColumnsBelow n cells → j < n → coefficient same_tree (reindex (mono_at u.parts) (comb cells)) (mono_at u.parts j) ≡ coefficient nat_eq (comb cells) j
      coefficient-at cells j below h = coefficient-reindex (λ i. i < n) nat_eq same_tree (mono_at u.parts) apart (comb cells) j h (cells-below n cells below)

      at-columns : AreSameVector t.p (comb r) (comb s)
      at-columns j = elim (cases_lt j n) [
        | inl h ↦ (
            let e' : IsSameMod t.p (coefficient same_tree (reindex (mono_at u.parts) (comb r)) (mono_at u.parts j)) (coefficient same_tree (reindex (mono_at u.parts) (comb s)) (mono_at u.parts j)) =
            subst (λ f. IsSameMod t.p (coefficient same_tree f (mono_at u.parts j)) (coefficient same_tree (reindex (mono_at u.parts) (comb s)) (mono_at u.parts j)))
            (agree (comb r) (cells-below (length (elems t.parts)) r vr.below)) (e (mono_at u.parts j)) in
            subst (λ a. IsSameMod t.p a (coefficient nat_eq (comb s) j)) (coefficient-at r j (below-all r vr.below) h)
            (subst (λ b. IsSameMod t.p (coefficient same_tree (reindex (mono_at u.parts) (comb r)) (mono_at u.parts j)) b) (coefficient-at s j vs.below h) e'))
        | inr past ↦ mods.same (entry_past r n j (below-all r vr.below) past ∙ sym (entry_past s n j vs.below past))
      ]

  covers-on : (b c : ℕ) → b < length (elems t.parts) → c < length (elems t.parts) → CoversType t (type_plus (type_at t.parts b) (type_at t.parts c)) → CoversType u (type_plus (type_at u.parts b) (type_at u.parts c))
  covers-on b c h k v =
      let same : type_plus (type_at t.parts b) (type_at t.parts c) ≡ type_plus (type_at u.parts b) (type_at u.parts c) =
      ap (λ x. type_plus x (type_at t.parts c)) (same-type b h) ∙ ap (type_plus (type_at u.parts b)) (same-type c k) in
      let v' : CoversType t (type_plus (type_at u.parts b) (type_at u.parts c)) = subst (CoversType t) same v in
      record { within = subst (λ g. type_le (type_plus (type_at u.parts b) (type_at u.parts c)) g ≡ true) (sym goal) v'.within; degree_le = omega (arith, v'.degree_le, deg) }

  entry-cases : (b c : ℕ) → b < length (elems t.parts) → c < length (elems t.parts) → CoversType t (type_plus (type_at t.parts b) (type_at t.parts c))
      → (o o' : Option Cells) → entry_of t.parts b c ≡ o → entry_of u.parts b c ≡ o' → o ≡ o'
  entry-cases b c h k v None o' is is' = absurd (entry_exists t b c tab h k is v)
  entry-cases b c h k v (Some r) None is is' = absurd (entry_exists u b c tab' (omega (arith, h, fewer)) (omega (arith, k, fewer)) is' (covers-on b c h k v))
  entry-cases b c h k v (Some r) (Some s) is is' =
      let vr = entry_vector t b c r tab is in
      let vs : IsBasisRow t.p (length (elems u.parts)) s = subst (λ p. IsBasisRow p (length (elems u.parts)) s) field (entry_vector u b c s tab' is') in
      let pr : table_product t.parts b c ≡ comb r = ap (λ o. comb (unwrap_or o [])) is in
      let ps : table_product u.parts b c ≡ comb s = ap (λ o. comb (unwrap_or o [])) is' in
      let e : IsSamePoly t.p (reindex (mono_at t.parts) (comb r)) (reindex (mono_at u.parts) (comb s)) =
      subst (λ f. IsSamePoly t.p (reindex (mono_at t.parts) f) (reindex (mono_at u.parts) (comb s))) pr
      (subst (λ f. IsSamePoly t.p (reindex (mono_at t.parts) (table_product t.parts b c)) (reindex (mono_at u.parts) f)) ps (alike-entries b c h k v)) in
      ap Some (rows-same r s vr vs e)

  -- THE ENTRIES OF THIS TABLE ARE THOSE OF THE OTHER ONE
  pub same-entry : (b c : ℕ) → b < length (elems t.parts) → c < length (elems t.parts) → CoversType t (type_plus (type_at t.parts b) (type_at t.parts c)) → entry_of t.parts b c ≡ entry_of u.parts b c
  same-entry b c h k v = entry-cases b c h k v (entry_of t.parts b c) (entry_of u.parts b c) refl refl

  entries-long : (v : Table) → IsTable v → (w : List ℕ) → IsIn w (ats v.parts) → length (entries_at v.parts w) ≡ length (products v.parts w)
  entries-long v k w i = entries_full v.parts (λ x. length (products v.parts x)) w i
      (each-weaker (IsPartOf v.p v.parts v.parts) (λ (q : PartView). length q.entries ≡ length (products v.parts q.at)) v.parts (λ q z. z.full) k.each)

  in-other : (w : List ℕ) → IsIn w (ats t.parts) → IsIn w (ats u.parts)
  in-other w i =
      let ty = each-member (to.IsTypeTo t.target t.degree) (types_to t.target t.degree) w (types_to-each t.target t.degree) (subst (IsIn w) tab.types i) in
      subst (IsIn w) (sym tab'.types) (types_to-all u.target u.degree w (record {
        long = ty.long ∙ ap length (sym goal);
        within = subst (λ g. type_le w g ≡ true) (sym goal) ty.within;
        some = ty.some;
        degree_le = omega (arith, ty.degree_le, deg);
      }))

  -- as a list
  pub same-entries : (w : List ℕ) → IsIn w (ats t.parts) → entries_at t.parts w ≡ entries_at u.parts w
  same-entries w i =
      let same = same-products w (type-next w i) in
      entries-listed (products t.parts w) (entries_at t.parts w) (entries_at u.parts w) (distinct-products t.parts w) (entries-long t tab w i)
      (entries-long u tab' w (in-other w i) ∙ ap length (sym same))
      (λ q j.
      let p = product_of t.parts w q.0 q.1 j in
      let a = type_of_range t.parts p.left q.0 p.left_range in
      let b = type_of_range t.parts p.right q.1 p.right_range in
      let tw : type_plus (type_at t.parts q.0) (type_at t.parts q.1) ≡ w = ap (λ x. type_plus x (type_at t.parts q.1)) a.1 ∙ ap (type_plus p.left) b.1 ∙ p.split.both in
      let uw : type_plus (type_at u.parts q.0) (type_at u.parts q.1) ≡ w =
      ap (λ x. type_plus x (type_at u.parts q.1)) (sym (same-type q.0 a.0)) ∙ ap (type_plus (type_at t.parts q.0)) (sym (same-type q.1 b.0)) ∙ tw in
      let ty = of-types w i in
      let v : CoversType t (type_plus (type_at t.parts q.0) (type_at t.parts q.1)) = subst (CoversType t) (sym tw) (record { within = ty.le; degree_le = ty.degree }) in
      ap (λ x. find_entry q (products t.parts x) (entries_at t.parts x)) (sym tw)
      ∙ same-entry q.0 q.1 a.0 b.0 v
      ∙ ap (λ x. find_entry q (products u.parts x) (entries_at u.parts x)) uw
      ∙ ap (λ ks. find_entry q ks (entries_at u.parts w)) (sym same))

  pub have-same-entries : HaveSameEntries t.parts lower.front
  have-same-entries = have-entries t.parts lower.front (sym lower.types) (types_ascend t tab) (λ w i.
      same-entries w i ∙ ap (λ parts. entries_at parts w) lower.parts_are ∙ (kept-front w i).entries)
