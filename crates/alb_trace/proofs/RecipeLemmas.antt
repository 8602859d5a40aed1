-- The recipe of a product, as the code finds it.
use Rattle.std.proofs.Common.{◌≡◌, ℕ, ◌<◌, ◌≤◌, true, false, List, [], length, get_or, sym, refl, ap, ◌∙◌, subst, arith, Some, None}
use Rattle.std.specs.Prelude.{All, position}
use Rattle.std.specs.List.{position_or_len}
use Rattle.std.proofs.lemmas.Bool.Decides.{nat_tests}
use Rattle.std.proofs.lemmas.List.{length-map, get_or-map}
use Rattle.std.proofs.lemmas.List.Quantifiers.{position-Some}
use Rattle.std.proofs.lemmas.List.Sums.{fails_before_first}
use Rattle.gf_sums.specs.Sums.{Comb}
use Rattle.alb_mono.specs.Listing.{IsIn}
use Rattle.alb_mono.specs.Tree.{leaf, node}
use Rattle.alb_poly.specs.Poly.{IsSamePoly}
use Rattle.alb_poly.proofs.Consequence.{poly_alike}
use Rattle.alb_rows.specs.Span.{IsPivot}
use Rattle.alb_reduce.specs.Reduction.{Reduction, kept, IsRecipe}
use Rattle.alb_table.specs.Columns.{col}
use Rattle.alb_table.specs.Table.{products, same_pair, type_at, mono_at, origins_at, Table}
use Rattle.alb_table.specs.RightTable.{RulesView, IsRightFor}
use Rattle.alb_table.proofs.RangeLemmas.{product_in, number_in_range}
use Rattle.alb_table.proofs.TableLemmas.{type_shape, types_ascend}
use Rattle.alb_mono.proofs.TypeLemmas.{length-type_plus}
use Rattle.alb_subst.proofs.SumLemmas.{pairs_tell}
use Rattle.alb_block.specs.Instances.{columns_of}
use Rattle.alb_block.specs.Meaning.{column_monos}
use Rattle.alb_block.proofs.ListLemmas.{in-reverse, in_place}
use Rattle.alb_trace.specs.Origins.{product_type, IsOriginBlock}
use Rattle.alb_trace.specs.Recipes.{IsProduct, IsRecipeFor}
use Rattle.alb_trace.specs.Trace.{product_less}
use Rattle.alb_trace.proofs.BlockEntries.{product-free, product-recipe}
use Rattle.alb_trace.proofs.OfferedLemmas.{number_below}

-- what stands in a list has a position
position-in : (q : ℕ × ℕ) (xs : List (ℕ × ℕ)) → IsIn q xs → position (λ x. same_pair q x) xs ≡ None → ⊥
position-in q xs h e =
    let k = in_place q xs h in
    let l : length xs ≤ position_or_len (λ x. same_pair q x) xs = grind (arith, nat_tests) in
    let f : same_pair q (get_or xs k.0 q) ≡ false = fails_before_first (λ x. same_pair q x) xs k.0 q (omega (arith, k.1)) in
    let t : same_pair q q ≡ true = pairs_tell.whole q in
    let z : same_pair q q ≡ false = subst (λ x. same_pair q x ≡ false) (k.2 q) f in absurd (cc)

module _ (given : RulesView) (t : Table) (g : IsRightFor given t) (b c : ℕ) (p : IsProduct t (b, c)) where
  listed : IsIn (b, c) (products t.parts (product_type t (b, c)))
  listed =
      let x = type_shape t b g.table p.left in
      let y = type_shape t c g.table p.right in
      let e : length (type_at t.parts b) ≡ length (type_at t.parts c) = x.long ∙ sym y.long in
      product_in t.parts b c (product_type t (b, c)) (type_at t.parts b) (type_at t.parts c)
      (record { long = sym (length-type_plus (type_at t.parts b) (type_at t.parts c) e); long_right = sym e ∙ sym (length-type_plus (type_at t.parts b) (type_at t.parts c) e); left = x.some; right = y.some; both = refl })
      (number_in_range t.parts b (types_ascend t g.table) p.left) (number_in_range t.parts c (types_ascend t g.table) p.right)

  module _ (columns : List (ℕ × ℕ)) (r : Reduction) (block : IsOriginBlock given.forms t (product_type t (b, c)) columns r) where
    -- the product has a column
    pub column-found : position (λ x. same_pair (b, c) x) columns ≡ None → ⊥
    column-found e = position-in (b, c) (columns_of t.parts (product_type t (b, c))) (in-reverse (b, c) (products t.parts (product_type t (b, c))) listed)
        (subst (λ xs. position (λ x. same_pair (b, c) x) xs ≡ None) block.columns_are e)

    module _ (j : ℕ) (at : position (λ x. same_pair (b, c) x) columns ≡ Some j) where
      place : (j < length (columns_of t.parts (product_type t (b, c)))) × ((b, c) ≡ get_or (columns_of t.parts (product_type t (b, c))) j (0, 0))
      place =
          let s = position-Some (λ x. same_pair (b, c) x) (columns_of t.parts (product_type t (b, c))) j (0, 0) (subst (λ xs. position (λ x. same_pair (b, c) x) xs ≡ Some j) block.columns_are at) in
          (s.0, pairs_tell.sound (b, c) (get_or (columns_of t.parts (product_type t (b, c))) j (0, 0)) s.1)

      within : j < length (column_monos t.parts (product_type t (b, c)))
      within = omega (arith, place.0, length-map (columns_of t.parts (product_type t (b, c))) (λ (q : ℕ × ℕ). node (mono_at t.parts q.0) (mono_at t.parts q.1)))

      is : col (column_monos t.parts (product_type t (b, c))) j ≡ node (mono_at t.parts b) (mono_at t.parts c)
      is = get_or-map (λ (q : ℕ × ℕ). node (mono_at t.parts q.0) (mono_at t.parts q.1)) (columns_of t.parts (product_type t (b, c))) j (0, 0) (leaf 0) place.0
          ∙ sym (ap (λ (q : ℕ × ℕ). node (mono_at t.parts q.0) (mono_at t.parts q.1)) place.1)

      pub recipe-none : (IsPivot t.p (kept r) j → ⊥) → IsSamePoly t.p (product_less t (b, c)) []
      recipe-none n = poly_alike (product-free given t g (product_type t (b, c)) p.type.covered p.type.long p.type.big columns r block b c j within is n)

      pub recipe-some : (items : Comb ℕ) → IsRecipe r j items → IsRecipeFor given.forms t (b, c) items
      recipe-some items k = record {
        below = λ i d l. number_below r.offers (length (origins_at t.parts (product_type t (b, c)))) (get_or items i d).1 block.offered_all.below (k.tags i d l);
        residues = subst (λ m. All (λ s. s.0 < m) items) block.offered_all.field k.residues;
        gives = poly_alike (product-recipe given t g (product_type t (b, c)) p.type.covered p.type.long p.type.big columns r block b c j within is items k);
      }
