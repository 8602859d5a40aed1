-- The table of the next degree.
use Rattle.std.proofs.Common.{◌≡◌, ℕ, ◌+◌, ◌*◌, ◌^◌, ◌<◌, ◌≤◌, List, [], ◌∷◌, ◌++◌, map, length, refl, ap, ◌∙◌, arith, sum, length-append}
use Rattle.std.proofs.lemmas.Grind.{flat_map-append}
use Rattle.gf_field.proofs.Table.{IsPrime-from_table}
use Rattle.gf_sums.proofs.Totals.{total-append}
use Rattle.alb_mono.specs.Listing.{Each}
use Rattle.alb_mono.specs.Tree.{IsTypeWithin}
use Rattle.alb_mono.proofs.TypesListing.{types_of-listing}
use Rattle.alb_mono.proofs.ListingLemmas.{each-weaker}
use Rattle.alb_poly.specs.Instance.{Form}
use Rattle.alb_table.specs.Table.{PartView, elems, next_types, next_products, most_products, Table, IsTable, IsPartOf, IsCountable, count_products, count_coefficients, extended}
use Rattle.alb_table.proofs.TableLemmas.{extend_table, old_degrees}
use Rattle.alb_block.specs.View.{BlockView}
use Rattle.alb_build.specs.Part.{ArePartsOf}
use Rattle.alb_build.specs.Next.{AreBlocks}
use Rattle.alb_build.proofs.CellCounts.{coefficients-most}
use Rattle.alb_build.proofs.Counts.{made-count}
use Rattle.alb_build.proofs.NewParts.{made-parts}

-- the parts have the types of the blocks
pub made-types : (fs : List Form) (t : Table) (ws : List (List ℕ)) (bs : List BlockView) (qs : List PartView) (n : ℕ) → AreBlocks fs t ws bs → ArePartsOf n bs qs → map (λ (q : PartView). q.at) qs ≡ ws
made-types fs t [] [] [] n a m = refl
made-types fs t [] [] (q ∷ qs) n a m = absurd m
made-types fs t [] (b ∷ bs) qs n a m = absurd a
made-types fs t (w ∷ ws) [] qs n a m = absurd a
made-types fs t (w ∷ ws) (b ∷ bs) [] n a m = absurd m
made-types fs t (w ∷ ws) (b ∷ bs) (q ∷ qs) n a m =
    ap (λ x. x ∷ map (λ (y : PartView). y.at) qs) (m.0.at ∙ a.0.block.at) ∙ ap (λ xs. w ∷ xs) (made-types fs t ws bs qs (n + length q.basis) a.1 m.1)

-- how many products the longer table has
pub grown-products : (fs : List Form) (t : Table) (bs : List BlockView) (new : List PartView) (n : ℕ) → AreBlocks fs t (next_types t) bs → ArePartsOf n bs new →
    count_products (t.parts ++ new) ≡ next_products t
grown-products fs t bs new n a m = total-append (λ (q : PartView). length q.entries) t.parts new ∙ ap (λ k. count_products t.parts + k) (made-count fs t (next_types t) bs new n a m)

module _ (fs : List Form) (t : Table) (bs : List BlockView) (new : List PartView) (tab : IsTable t) (big : 1 < t.p) (a : AreBlocks fs t (next_types t) bs)
    (m : ArePartsOf (length (elems t.parts)) bs new) where
  -- types of the next degree are none of the table
  others : (w : List ℕ) → sum w ≡ t.degree + 1 → Each (λ (x : PartView). x.at ≡ w → ⊥) t.parts
  others w e = each-weaker (λ (x : PartView). sum x.at ≤ t.degree) (λ (x : PartView). x.at ≡ w → ⊥) t.parts
      (λ x l s. absurd (let y : sum x.at ≡ sum w = ap sum s in omega arith)) (old_degrees t tab)

  -- the new parts are parts of the longer table
  pub grown-parts : Each (IsPartOf t.p t.parts (t.parts ++ new)) new
  grown-parts = made-parts fs t t.parts (next_types t) bs new big a m (types_of-listing t.target (t.degree + 1)).ascends
      (each-weaker (IsTypeWithin t.target (t.degree + 1)) (λ w. Each (λ (x : PartView). x.at ≡ w → ⊥) t.parts) (next_types t) (λ w k. others w k.degree)
      (types_of-listing t.target (t.degree + 1)).each)

  -- its numbers fit
  pub grown-countable : next_products t ≤ most_products → length (elems t.parts) + length (elems new) < 2 ^ 32 → count_coefficients (t.parts ++ new) < 2 ^ 64 → IsCountable (t.parts ++ new)
  grown-countable l s c =
      let e : elems (t.parts ++ new) ≡ elems t.parts ++ elems new = flat_map-append (λ (q : PartView). q.basis) t.parts new in
      let n : length (elems (t.parts ++ new)) ≡ length (elems t.parts) + length (elems new) = ap length e ∙ length-append (elems t.parts) (elems new) in
      let p = grown-products fs t bs new (length (elems t.parts)) a m in
      record { elements = omega arith; products = omega arith; coefficients = c }

  pub grown-table : t.degree < sum t.target → IsCountable (t.parts ++ new) → IsTable (extended t new)
  grown-table room c = extend_table t new tab room (made-types fs t (next_types t) bs new (length (elems t.parts)) a m) grown-parts c

-- a field of a table has more than one element
pub table-big : (t : Table) → IsTable t → 1 < t.p
table-big t tab = (IsPrime-from_table t.p tab.field).above_one

-- the new parts have few coefficients
pub new-few : (fs : List Form) (t : Table) (bs : List BlockView) (new : List PartView) → IsTable t → AreBlocks fs t (next_types t) bs → ArePartsOf (length (elems t.parts)) bs new →
    length (elems t.parts) + length (elems new) < 2 ^ 32 → next_products t ≤ 1000000 → count_coefficients new ≤ 2 ^ 32 * 1000000
new-few fs t bs new tab a m s l =
    let e : elems (t.parts ++ new) ≡ elems t.parts ++ elems new = flat_map-append (λ (q : PartView). q.basis) t.parts new in
    let n : length (elems (t.parts ++ new)) ≡ length (elems t.parts) + length (elems new) = ap length e ∙ length-append (elems t.parts) (elems new) in
    let c = coefficients-most t.p (2 ^ 32) t.parts (t.parts ++ new) new (omega arith) (grown-parts fs t bs new tab (table-big t tab) a m) in
    let d = made-count fs t (next_types t) bs new (length (elems t.parts)) a m in
    omega arith
