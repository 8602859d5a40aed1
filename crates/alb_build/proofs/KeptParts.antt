-- What the longer table has of the older degrees.
use Rattle.std.proofs.Common.{◌≡◌, ℕ, zero, suc, ◌+◌, ◌<◌, ◌≤◌, false, List, [], ◌∷◌, ◌++◌, map, length, get_or, replicate, sym, refl, ap, ◌∙◌, arith, sum, inl, inr, append_assoc}
use Rattle.std.specs.Prelude.{unwrap_or}
use Rattle.std.proofs.lemmas.Bool.{cases_Bool}
use Rattle.std.proofs.lemmas.Grind.{flat_map-append}
use Rattle.std.proofs.lemmas.List.{get_or_append_left, append-nil}
use Rattle.alb_mono.specs.Listing.{Each}
use Rattle.alb_mono.specs.Tree.{Tree, leaf, type_plus, rising}
use Rattle.alb_poly.specs.Poly.{list_eq}
use Rattle.alb_table.specs.declared.part.Elem.{Elem}
use Rattle.alb_rows.specs.Row.{comb}
use Rattle.alb_table.specs.Table.{find_entry, PartView, first_of, dim_of, entries_at, origins_at, elems, types, type_at, monos, monos_after, mono_at, products, entry_of, table_product}
use Rattle.alb_table.specs.Table as View
use Rattle.alb_table.specs.RightTable.{basis_monos}
use Rattle.alb_table.proofs.PartLemmas.{list_eq-other, dim-extend, first-extend, products-extend, length-types}
use Rattle.alb_table.proofs.RangeLemmas.{range_within}

-- the monomials of more elements
monos-longer : (ms : List Tree) (es : List Elem) → (news : List Tree) × (monos_after ms es ≡ ms ++ news)
monos-longer ms [] = ([], sym (append-nil ms))
monos-longer ms (e ∷ es) =
    let r = monos-longer (ms ++ View.mono_of ms e ∷ []) es in
    (View.mono_of ms e ∷ r.0, r.1 ∙ append_assoc ms (View.mono_of ms e ∷ []) r.0)

monos-after : (ms : List Tree) (es fs : List Elem) → monos_after ms (es ++ fs) ≡ monos_after (monos_after ms es) fs
monos-after ms [] fs = refl
monos-after ms (e ∷ es) fs = monos-after (ms ++ View.mono_of ms e ∷ []) es fs

elems-append : (ps new : List PartView) → elems (ps ++ new) ≡ elems ps ++ elems new
elems-append ps new = flat_map-append (λ (q : PartView). q.basis) ps new

-- the older monomials stay
pub monos-kept : (ps new : List PartView) → (news : List Tree) × (monos (ps ++ new) ≡ monos ps ++ news)
monos-kept ps new =
    let r = monos-longer (monos ps) (elems new) in
    (r.0, ap (monos_after []) (elems-append ps new) ∙ monos-after [] (elems ps) (elems new) ∙ r.1)

pub mono-kept : (ps new : List PartView) (b : ℕ) → b < length (monos ps) → mono_at (ps ++ new) b ≡ mono_at ps b
mono-kept ps new b l =
    let r = monos-kept ps new in
    ap (λ ms. get_or ms b (leaf 0)) r.1 ∙ get_or_append_left (monos ps) r.0 (leaf 0) b l

-- the older types stay
pub type-kept : (ps new : List PartView) (b : ℕ) → b < length (elems ps) → type_at (ps ++ new) b ≡ type_at ps b
type-kept ps new b l =
    let e : types (ps ++ new) ≡ types ps ++ types new = flat_map-append (λ (q : PartView). replicate (length q.basis) q.at) ps new in
    ap (λ ts. get_or ts b []) e ∙ get_or_append_left (types ps) (types new) [] b (omega (arith, l, length-types ps))

module _ (new : List PartView) (d : ℕ) (next : Each (λ (q : PartView). sum q.at ≡ d + 1) new) where
  entries-none : (qs : List PartView) (w : List ℕ) → Each (λ (q : PartView). sum q.at ≡ d + 1) qs → sum w ≤ d → entries_at qs w ≡ []
  entries-none [] w a l = refl
  entries-none (q ∷ qs) w a l =
      let z : sum q.at ≡ d + 1 = a.0 in
      let e : list_eq q.at w ≡ false = list_eq-other q.at w (λ s. absurd (let y : sum q.at ≡ sum w = ap sum s in omega arith)) in
      rw e (entries-none qs w a.1 l)

  origins-none : (qs : List PartView) (w : List ℕ) → Each (λ (q : PartView). sum q.at ≡ d + 1) qs → sum w ≤ d → origins_at qs w ≡ []
  origins-none [] w a l = refl
  origins-none (q ∷ qs) w a l =
      let z : sum q.at ≡ d + 1 = a.0 in
      let e : list_eq q.at w ≡ false = list_eq-other q.at w (λ s. absurd (let y : sum q.at ≡ sum w = ap sum s in omega arith)) in
      rw e (origins-none qs w a.1 l)

  -- the older entries and origins stay
  pub entries-kept : (ps : List PartView) (w : List ℕ) → sum w ≤ d → entries_at (ps ++ new) w ≡ entries_at ps w
  entries-kept [] w l = entries-none new w next l
  entries-kept (q ∷ ps) w l = elim (cases_Bool (list_eq q.at w)) [
    | inl s ↦ rw s refl
    | inr s ↦ rw s (entries-kept ps w l)
  ]

  pub origins-kept : (ps : List PartView) (w : List ℕ) → sum w ≤ d → origins_at (ps ++ new) w ≡ origins_at ps w
  origins-kept [] w l = origins-none new w next l
  origins-kept (q ∷ ps) w l = elim (cases_Bool (list_eq q.at w)) [
    | inl s ↦ rw s refl
    | inr s ↦ rw s (origins-kept ps w l)
  ]

  -- the product of older elements of an older type stays
  pub product-kept : (ps : List PartView) (b c : ℕ) → b < length (elems ps) → c < length (elems ps) → sum (type_plus (type_at ps b) (type_at ps c)) ≤ d →
      table_product (ps ++ new) b c ≡ table_product ps b c
  product-kept ps b c l m s =
      let w : List ℕ = type_plus (type_at ps b) (type_at ps c) in
      let e : entry_of (ps ++ new) b c ≡ entry_of ps b c =
      ap (λ t. find_entry (b, c) (products (ps ++ new) (type_plus t (type_at (ps ++ new) c))) (entries_at (ps ++ new) (type_plus t (type_at (ps ++ new) c)))) (type-kept ps new b l)
      ∙ ap (λ t. find_entry (b, c) (products (ps ++ new) (type_plus (type_at ps b) t)) (entries_at (ps ++ new) (type_plus (type_at ps b) t))) (type-kept ps new c m)
      ∙ ap (λ ks. find_entry (b, c) ks (entries_at (ps ++ new) w)) (products-extend ps new w (d + 1) next (omega arith))
      ∙ ap (find_entry (b, c) (products ps w)) (entries-kept ps w s) in
      ap (λ o. comb (unwrap_or o [])) e

  run-kept : (ps : List PartView) (k n : ℕ) → k + n ≤ length (monos ps) → map (mono_at (ps ++ new)) (rising k n) ≡ map (mono_at ps) (rising k n)
  run-kept ps k zero l = refl
  run-kept ps k (suc n) l = ap (λ m. m ∷ map (mono_at (ps ++ new)) (rising (suc k) n)) (mono-kept ps new k (omega arith))
      ∙ ap (λ ms. mono_at ps k ∷ ms) (run-kept ps (suc k) n (omega arith))

  -- the older bases stay
  pub basis-kept : (ps : List PartView) (w : List ℕ) → length (monos ps) ≡ length (elems ps) → sum w ≤ d → basis_monos (ps ++ new) w ≡ basis_monos ps w
  basis-kept ps w z l = elim (first-extend ps new w (d + 1) next (omega arith)) [
    | inl f ↦ (
        let r : first_of ps w + dim_of ps w ≤ length (elems ps) = range_within ps w in
        ap (λ n. map (mono_at (ps ++ new)) (rising n (dim_of (ps ++ new) w))) f
        ∙ ap (λ n. map (mono_at (ps ++ new)) (rising (first_of ps w) n)) (dim-extend ps new w (d + 1) next (omega arith))
        ∙ run-kept ps (first_of ps w) (dim_of ps w) (omega arith))
    | inr f ↦ (
        ap (λ n. map (mono_at (ps ++ new)) (rising (first_of (ps ++ new) w) n)) (dim-extend ps new w (d + 1) next (omega arith) ∙ f)
        ∙ ap (λ n. map (mono_at ps) (rising (first_of ps w) n)) (sym f))
  ]
