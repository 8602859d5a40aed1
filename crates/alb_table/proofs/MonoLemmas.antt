-- The monomials of basis elements.
use Rattle.std.proofs.Common.{◌≡◌, ℕ, zero, suc, ◌+◌, ◌-◌, ◌<◌, ◌≤◌, ◌==◌, false, List, [], ◌∷◌, ◌++◌, length, get_or, sym, refl, ap, ◌∙◌, arith, inl, inr, subst, sum, length-append}
use Rattle.std.specs.Prelude.{Some, slice_get}
use Rattle.std.proofs.lemmas.List.{get_or_append_left, get_or-append_right}
use Rattle.alb_mono.specs.Listing.{Each}
use Rattle.alb_mono.specs.Tree.{Tree, leaf, node, count, listed, type_of}
use Rattle.alb_mono.proofs.ListingLemmas.{each-at, each-weaker}
use Rattle.alb_table.specs.declared.part.Elem.{Elem}
use Rattle.alb_table.specs.declared.part.Elem.TheVariants.{Gen, Prod}
use Rattle.alb_table.specs.Table.{PartView, elems, type_at, mono_of, monos_after, monos, mono_at, products, Table, IsTable, IsElementOf, IsPartOf, FactorsBelow, GeneratorBelow}
use Rattle.alb_table.specs.Grid.{ArePairsBelow}
use Rattle.alb_table.proofs.PartLemmas.{elems_step, sum-plus}
use Rattle.alb_table.proofs.RangeLemmas.{type_first, type_later, product_of, type_of_range, degrees_ascend}
use Rattle.alb_table.proofs.TableLemmas.{types_ascend, type_shape, each-in}
use Rattle.std.proofs.lemmas.Bool.Decides.{nat_tests}
use Rattle.std.proofs.lemmas.Bool.{cases_lt}

mono_of-same : (ms ns : List Tree) (n : ℕ) (e : Elem) → FactorsBelow n e → ((i : ℕ) → i < n → get_or ms i (leaf 0) ≡ get_or ns i (leaf 0)) → mono_of ms e ≡ mono_of ns e
mono_of-same ms ns n (Gen k) f h = refl
mono_of-same ms ns n (Prod b c) f h = ap (λ x. node x (get_or ms c (leaf 0))) (h b f.0) ∙ ap (λ y. node (get_or ns b (leaf 0)) y) (h c f.1)

monos_kept : (ms : List Tree) (es : List Elem) (i : ℕ) (d : Tree) → i < length ms → get_or (monos_after ms es) i d ≡ get_or ms i d
monos_kept ms [] i d h = refl
monos_kept ms (e ∷ es) i d h =
    let l : length (ms ++ mono_of ms e ∷ []) ≡ length ms + 1 = length-append ms (mono_of ms e ∷ []) in
    monos_kept (ms ++ mono_of ms e ∷ []) es i d (omega arith) ∙ get_or_append_left ms (mono_of ms e ∷ []) d i h

monos_at : (ms : List Tree) (es : List Elem) (j : ℕ) (u : Elem) → j < length es → FactorsBelow (length ms + j) (get_or es j u) →
    get_or (monos_after ms es) (length ms + j) (leaf 0) ≡ mono_of (monos_after ms es) (get_or es j u)
monos_at ms [] j u h f = absurd (omega arith)
monos_at ms (e ∷ es) zero u h f =
    let l : length (ms ++ mono_of ms e ∷ []) ≡ length ms + 1 = length-append ms (mono_of ms e ∷ []) in
    let z : length ms + 0 ≡ length ms = omega arith in
    let a : get_or (monos_after ms (e ∷ es)) (length ms) (leaf 0) ≡ get_or (ms ++ mono_of ms e ∷ []) (length ms) (leaf 0) = monos_kept (ms ++ mono_of ms e ∷ []) es (length ms) (leaf 0) (omega arith) in
    let s : length ms - length ms ≡ 0 = omega arith in
    let b : get_or (ms ++ mono_of ms e ∷ []) (length ms) (leaf 0) ≡ mono_of ms e =
    get_or-append_right ms (mono_of ms e ∷ []) (length ms) (length ms) (leaf 0) refl (omega arith) ∙ ap (λ k. get_or (mono_of ms e ∷ []) k (leaf 0)) s in
    let g : FactorsBelow (length ms) e = subst (λ n. FactorsBelow n e) z f in
    ap (λ n. get_or (monos_after ms (e ∷ es)) n (leaf 0)) z ∙ a ∙ b
    ∙ mono_of-same ms (monos_after ms (e ∷ es)) (length ms) e g (λ i k. sym (monos_kept ms (e ∷ es) i (leaf 0) k))
monos_at ms (e ∷ es) (suc j) u h f =
    let l : length (ms ++ mono_of ms e ∷ []) ≡ length ms + 1 = length-append ms (mono_of ms e ∷ []) in
    let z : length ms + suc j ≡ length (ms ++ mono_of ms e ∷ []) + j = omega arith in
    let g : FactorsBelow (length (ms ++ mono_of ms e ∷ []) + j) (get_or es j u) = subst (λ n. FactorsBelow n (get_or es j u)) z f in
    ap (λ n. get_or (monos_after ms (e ∷ es)) n (leaf 0)) z ∙ monos_at (ms ++ mono_of ms e ∷ []) es j u (omega arith) g

element_at : (ps parts : List PartView) (b : ℕ) (u : Elem) → Each (λ (q : PartView). Each (IsElementOf q.at (products ps q.at)) q.basis) parts → b < length (elems parts) →
    IsElementOf (type_at parts b) (products ps (type_at parts b)) (get_or (elems parts) b u)
element_at ps [] b u e h = absurd (omega arith)
element_at ps (q ∷ qs) b u e h =
    let l : length (elems (q ∷ qs)) ≡ length q.basis + length (elems qs) = elems_step q qs in
    elim (cases_lt b (length q.basis)) [
      | inl s ↦
          let a : IsElementOf q.at (products ps q.at) (get_or q.basis b u) = each-at (IsElementOf q.at (products ps q.at)) q.basis b u e.0 s in
          let g : get_or (elems (q ∷ qs)) b u ≡ get_or q.basis b u = get_or_append_left q.basis (elems qs) u b s in
          subst (λ (w : List ℕ). IsElementOf w (products ps w) (get_or (elems (q ∷ qs)) b u)) (sym (type_first q qs b s)) (subst (IsElementOf q.at (products ps q.at)) (sym g) a)
      | inr s ↦
          let a = element_at ps qs (b - length q.basis) u e.1 (omega arith) in
          let g : get_or (elems (q ∷ qs)) b u ≡ get_or (elems qs) (b - length q.basis) u = get_or-append_right q.basis (elems qs) (length q.basis) b u refl s in
          subst (λ (w : List ℕ). IsElementOf w (products ps w) (get_or (elems (q ∷ qs)) b u)) (sym (type_later q qs b s))
          (subst (IsElementOf (type_at qs (b - length q.basis)) (products ps (type_at qs (b - length q.basis)))) (sym g) a)
    ]

factor_below : (t : Table) (b l : ℕ) (w : List ℕ) → IsTable t → b < length (elems t.parts) → l < length (elems t.parts) → type_at t.parts l ≡ w → sum w < sum (type_at t.parts b) → l < b
factor_below t b l w k h g e s = elim (cases_lt l b) [
  | inl r ↦ r
  | inr r ↦ let d : sum (type_at t.parts b) ≤ sum (type_at t.parts l) = degrees_ascend t.parts b l (types_ascend t k) r g in let q : sum (type_at t.parts l) ≡ sum w = ap sum e in absurd (omega arith)
]

factors_of : (t : Table) (b : ℕ) (e : Elem) → IsTable t → b < length (elems t.parts) → IsElementOf (type_at t.parts b) (products t.parts (type_at t.parts b)) e → FactorsBelow b e
factors_of t b (Gen n) k h i = tt
factors_of t b (Prod l r) k h i =
    let p = product_of t.parts (type_at t.parts b) l r i in
    let s = p.split in
    let a = type_of_range t.parts p.left l p.left_range in
    let c = type_of_range t.parts p.right r p.right_range in
    let z : sum p.left + sum p.right ≡ sum (type_at t.parts b) = sum-plus p.left p.right (s.long ∙ sym s.long_right) ∙ ap sum s.both in
    let x : 0 < sum p.left = s.left in let y : 0 < sum p.right = s.right in
    (factor_below t b l p.left k h a.0 a.1 (omega arith), factor_below t b r p.right k h c.0 c.1 (omega arith))

pub get_of_some : {X : Type 0} (xs : List X) (i : ℕ) (x d : X) → slice_get xs i ≡ Some x → get_or xs i d ≡ x
get_of_some [] i x d h = absurd (cc)
get_of_some (y ∷ xs) zero x d h = let q : Some y ≡ Some x = h in cc
get_of_some (y ∷ xs) (suc i) x d h = get_of_some xs i x d h

pub elem_factors : (t : Table) (b : ℕ) (e : Elem) → IsTable t → b < length (elems t.parts) → slice_get (elems t.parts) b ≡ Some e → FactorsBelow b e
elem_factors t b e k h g =
    let q : get_or (elems t.parts) b e ≡ e = get_of_some (elems t.parts) b e e g in
    subst (FactorsBelow b) q
    (factors_of t b (get_or (elems t.parts) b e) k h
    (element_at t.parts t.parts b e (each-weaker (IsPartOf t.p t.parts t.parts) (λ (v : PartView). Each (IsElementOf v.at (products t.parts v.at)) v.basis) t.parts (λ v z. z.elements) k.each) h))

-- a generator that is none of the first n has no count among them
no_count : (k j n : ℕ) → j + n ≤ k → sum (listed (λ g. count g (leaf k)) j n) ≡ 0
no_count k j zero h = refl
no_count k j (suc n) h =
    let e : (k == j) ≡ false = grind (arith, nat_tests) in
    rw e (no_count k (suc j) n (omega arith))

no_type : (k n : ℕ) → n ≤ k → sum (type_of n (leaf k)) ≡ 0
unfolding type_of
no_type k n h = no_count k 0 n (omega arith)

generator_of : (t : Table) (b : ℕ) (e : Elem) → IsTable t → b < length (elems t.parts) → IsElementOf (type_at t.parts b) (products t.parts (type_at t.parts b)) e → GeneratorBelow (length t.target) e
generator_of t b (Gen k) tab h i = elim (cases_lt k (length t.target)) [
  | inl r ↦ r
  | inr r ↦
      let s = type_shape t b tab h in
      let n : length (type_at t.parts b) ≡ length t.target = s.long in
      let z : sum (type_of (length (type_at t.parts b)) (leaf k)) ≡ 0 = no_type k (length (type_at t.parts b)) (omega arith) in
      let q : sum (type_at t.parts b) ≡ 0 = ap sum i ∙ z in
      let some : 0 < sum (type_at t.parts b) = s.some in absurd (omega arith)
]
generator_of t b (Prod l r) tab h i = tt

pub elem_generator : (t : Table) (b : ℕ) (e : Elem) → IsTable t → b < length (elems t.parts) → slice_get (elems t.parts) b ≡ Some e → GeneratorBelow (length t.target) e
elem_generator t b e k h g =
    let q : get_or (elems t.parts) b e ≡ e = get_of_some (elems t.parts) b e e g in
    subst (GeneratorBelow (length t.target)) q
    (generator_of t b (get_or (elems t.parts) b e) k h
    (element_at t.parts t.parts b e (each-weaker (IsPartOf t.p t.parts t.parts) (λ (v : PartView). Each (IsElementOf v.at (products t.parts v.at)) v.basis) t.parts (λ v z. z.elements) k.each) h))

-- ---- the numbers of listed products

pub products_below : (parts : List PartView) (t : List ℕ) → ArePairsBelow (length (elems parts)) (products parts t)
products_below parts t = each-in (λ k. (k.0 < length (elems parts)) × (k.1 < length (elems parts))) (products parts t) (λ k i.
    let p = product_of parts t k.0 k.1 i in
    ((type_of_range parts p.left k.0 p.left_range).0, (type_of_range parts p.right k.1 p.right_range).0))

-- the monomial of an element is made of those of its factors
pub mono_step : (t : Table) (b : ℕ) (e : Elem) → IsTable t → b < length (elems t.parts) → slice_get (elems t.parts) b ≡ Some e → mono_at t.parts b ≡ mono_of (monos t.parts) e
mono_step t b e k h g =
    let q : get_or (elems t.parts) b e ≡ e = get_of_some (elems t.parts) b e e g in
    let z : 0 + b ≡ b = omega arith in
    let f : FactorsBelow (0 + b) (get_or (elems t.parts) b e) = subst (λ n. FactorsBelow n (get_or (elems t.parts) b e)) (sym z) (subst (FactorsBelow b) (sym q) (elem_factors t b e k h g)) in
    ap (λ n. get_or (monos t.parts) n (leaf 0)) (sym z) ∙ monos_at [] (elems t.parts) b e h f ∙ ap (mono_of (monos t.parts)) q
