-- The table of degree 1 is right.
use Rattle.std.proofs.Common.{◌≡◌, ℕ, zero, suc, ◌+◌, ◌<◌, ◌≤◌, true, false, List, [], ◌∷◌, ◌++◌, map, length, get_or, sym, refl, ap, ◌∙◌, arith, inl, inr, subst, sum, append_assoc}
use Rattle.std.proofs.lemmas.Bool.{cases_Bool}
use Rattle.gf_field.specs.Modular.{IsInTable}
use Rattle.alb_mono.specs.Listing.{Each, IsIn}
use Rattle.alb_mono.specs.Tree.{Tree, leaf, type_of, types_of, rising}
use Rattle.std.proofs.lemmas.List.{append-nil}
use Rattle.alb_table.proofs.Within.{test_from_below}
use Rattle.alb_mono.proofs.TypesListing.{types_of-listing}
use Rattle.alb_mono.proofs.ListingLemmas.{each-weaker}
use Rattle.alb_poly.specs.Poly.{list_eq}
use Rattle.alb_poly.specs.Consequence.{AreMultilinear}
use Rattle.alb_poly.specs.Instance.{Form}
use Rattle.alb_table.specs.declared.part.Elem.TheVariants.{Gen}
use Rattle.alb_table.specs.Table.{PartView, elems, first_of, dim_of, origins_at, monos_after, mono_at, IsTable, IsTarget, IsPartOf, first_parts, first_table, most_of_type}
use Rattle.alb_table.specs.Right.{AreHigh, IsOfType, IsTypeTo}
use Rattle.alb_table.specs.RightTable.{IsRightTable, basis_monos, mono_entry}
use Rattle.alb_table.proofs.FirstLemmas.{IsUnit, first_units, first_is_table, length_first, first_elems, first_products, first_coefficients}
use Rattle.alb_linear.proofs.IdentityLemmas.{list_eq-sound, list_eq-itself}
use Rattle.alb_table.proofs.Right.{first-right}

-- the range of a type of degree 1 is the generator of this type
record Place (ps : List PartView) (ts : List (List ℕ)) (w : List ℕ) : Type 0 where
  at : ℕ
  low : at < length ts
  type : get_or ts at [] ≡ w
  first : first_of ps w ≡ at
  count : dim_of ps w ≡ 1

first-place : (k : ℕ) (ts : List (List ℕ)) (w : List ℕ) → IsIn w ts → Place (first_parts k ts) ts w
first-place k [] w h = absurd h
first-place k (t ∷ ts) w h = elim (cases_Bool (list_eq t w)) [
  | inl e ↦ record { at = 0; low = omega arith; type = list_eq-sound t w e; first = rw e refl; count = rw e refl }
  | inr e ↦ later (λ i. first-place (suc k) ts w i) e h
]
  where
    later : (IsIn w ts → Place (first_parts (suc k) ts) ts w) → list_eq t w ≡ false → IsIn w (t ∷ ts) → Place (first_parts k (t ∷ ts)) (t ∷ ts) w
    later rec e (inl q) = let s : list_eq t w ≡ true = subst (λ u. list_eq t u ≡ true) (sym q) (list_eq-itself t) in absurd (cc)
    later rec e (inr i) = let r = rec i in
        let f : first_of (first_parts (suc k) ts) w ≡ r.at = r.first in
        record { at = suc r.at; low = omega (arith, r.low); type = r.type; first = rw (e, f) (omega arith); count = rw e r.count }

first-none : (k : ℕ) (ts : List (List ℕ)) (w : List ℕ) → sum w ≡ 0 → Each (λ t. sum t ≡ 1) ts → dim_of (first_parts k ts) w ≡ 0
first-none k [] w z a = refl
first-none k (t ∷ ts) w z a = elim (cases_Bool (list_eq t w)) [
  | inl e ↦ let q : t ≡ w = list_eq-sound t w e in let s : sum t ≡ sum w = ap sum q in let o : sum t ≡ 1 = a.0 in absurd (omega arith)
  | inr e ↦ rw e (first-none (suc k) ts w z a.1)
]

first-type : (p : ℕ) (before parts : List PartView) (k : ℕ) (ts : List (List ℕ)) (j : ℕ) → Each (IsPartOf p before parts) (first_parts k ts) → j < length ts →
    get_or ts j [] ≡ type_of (length (get_or ts j [])) (leaf (k + j))
first-type p before parts k [] j e h = absurd (omega arith)
first-type p before parts k (t ∷ ts) zero e h =
    let z : k ≡ k + 0 = omega arith in subst (λ i. t ≡ type_of (length t) (leaf i)) z e.0.elements.0
first-type p before parts k (t ∷ ts) (suc j) e h =
    let z : suc k + j ≡ k + suc j = omega arith in
    subst (λ i. get_or ts j [] ≡ type_of (length (get_or ts j [])) (leaf i)) z (first-type p before parts (suc k) ts j e.1 (omega arith))

monos-gens : (ms : List Tree) (k n : ℕ) → monos_after ms (map Gen (rising k n)) ≡ ms ++ map leaf (rising k n)
monos-gens ms k zero = sym (append-nil ms)
monos-gens ms k (suc n) = monos-gens (ms ++ leaf k ∷ []) (suc k) n ∙ append_assoc ms (leaf k ∷ []) (map leaf (rising (suc k) n))

get-leaf : (k n j : ℕ) → j < n → get_or (map leaf (rising k n)) j (leaf 0) ≡ leaf (k + j)
get-leaf k zero j h = absurd (omega arith)
get-leaf k (suc n) zero h = ap leaf (omega arith)
get-leaf k (suc n) (suc j) h = get-leaf (suc k) n j (omega arith) ∙ ap leaf (omega arith)

first-mono : (ts : List (List ℕ)) (j : ℕ) → j < length ts → mono_at (first_parts 0 ts) j ≡ leaf j
first-mono ts j h =
    ap (λ es. get_or (monos_after [] es) j (leaf 0)) (first_elems 0 ts) ∙ ap (λ ms. get_or ms j (leaf 0)) (monos-gens [] 0 (length ts))
    ∙ get-leaf 0 (length ts) j h ∙ ap leaf (omega arith)

no-origins : (k : ℕ) (ts : List (List ℕ)) (n : ℕ) → Each (λ (q : PartView). Each (λ (o : ℕ × List ℕ). Each (λ b. b < n) o.1) q.origins) (first_parts k ts)
no-origins k [] n = tt
no-origins k (t ∷ ts) n = (tt, no-origins (suc k) ts n)

origins-none : (k : ℕ) (ts : List (List ℕ)) (w : List ℕ) → origins_at (first_parts k ts) w ≡ []
origins-none k [] w = refl
origins-none k (t ∷ ts) w = elim (cases_Bool (list_eq t w)) [ inl e ↦ rw e refl | inr e ↦ rw e (origins-none (suc k) ts w) ]

small-parts : (k : ℕ) (ts : List (List ℕ)) → Each (λ (q : PartView). length q.entries ≤ most_of_type) (first_parts k ts)
small-parts k [] = tt
small-parts k (t ∷ ts) = (omega arith, small-parts (suc k) ts)

module _ (p : ℕ) (target : List ℕ) (prime : IsInTable p) (goal : IsTarget target) where
  parts : List PartView
  parts = first_parts 0 (types_of target 1)

  is-table : IsTable (first_table p target)
  is-table = first_is_table p target prime goal

  one : (w : List ℕ) → IsTypeTo target 1 w → sum w ≡ 1 → (k : ℕ) × IsOfType w (leaf k) × (basis_monos (first_parts 0 (types_of target 1)) w ≡ leaf k ∷ [])
  one w ty s =
      let i : IsIn w (types_of target 1) = (types_of-listing target 1).all w (record { long = ty.counts; within = ty.le; degree = s }) in
      let r = first-place 0 (types_of target 1) w i in
      let l : r.at < length (types_of target 1) = r.low in
      let n : length (types_of target 1) ≡ length target = length_first target goal.positive in
      let c : length w ≡ length target = ty.counts in
      let z : 0 + r.at ≡ r.at = omega arith in
      let f : get_or (types_of target 1) r.at [] ≡ type_of (length (get_or (types_of target 1) r.at [])) (leaf (0 + r.at)) =
      first-type p (first_parts 0 (types_of target 1)) (first_parts 0 (types_of target 1)) 0 (types_of target 1) r.at is-table.each l in
      let g : w ≡ type_of (length w) (leaf r.at) = subst (λ i. w ≡ type_of (length w) (leaf i)) z (subst (λ u. u ≡ type_of (length u) (leaf (0 + r.at))) r.type f) in
      let b : r.at < length w = omega arith in (
        r.at,
        record { below = test_from_below (length w) (leaf r.at) b; counts = sym g },
        ap (λ m. map (mono_at (first_parts 0 (types_of target 1))) (rising m (dim_of (first_parts 0 (types_of target 1)) w))) r.first
            ∙ ap (λ m. map (mono_at (first_parts 0 (types_of target 1))) (rising r.at m)) r.count
            ∙ ap (λ m. m ∷ []) (first-mono (types_of target 1) r.at l),
      )

  none : (w : List ℕ) → sum w ≡ 0 → basis_monos (first_parts 0 (types_of target 1)) w ≡ []
  none w z = ap (λ m. map (mono_at (first_parts 0 (types_of target 1))) (rising (first_of (first_parts 0 (types_of target 1)) w) m))
      (first-none 0 (types_of target 1) w z (each-weaker (IsUnit (length target)) (λ t. sum t ≡ 1) (types_of target 1) (λ t u. u.one) (first_units target)))

  -- the table of the generators is right, whatever the identities
  pub first-right-table : (fs : List Form) → AreMultilinear fs → AreHigh fs → IsRightTable fs (first_table p target)
  first-right-table fs multi high = record {
    right = first-right p fs multi high target (basis_monos (first_parts 0 (types_of target 1))) (mono_entry (first_parts 0 (types_of target 1))) one none;
    books = record {
      origins = λ w l c h. (let d : sum w ≤ 1 = c.degree_le in absurd (omega arith));
      no_origins = λ w l. origins-none 0 (types_of target 1) w;
      known = no-origins 0 (types_of target 1) (length (elems (first_parts 0 (types_of target 1))));
      limits = record {
        types = small-parts 0 (types_of target 1);
        products = let e = first_products 0 (types_of target 1) in omega arith;
        coefficients = let e = first_coefficients 0 (types_of target 1) in omega arith;
      };
    };
  }
