-- A kept instance, as the code has it.
use Rattle.std.proofs.Common.{◌≡◌, ℕ, ◌+◌, ◌-◌, ◌<◌, ◌≤◌, List, [], map, length, get_or, sum, sym, ap, ◌∙◌, subst, arith}
use Rattle.std.specs.Prelude.{All, IsTrue, sum_by, true}
use Rattle.gf_sums.specs.Sums.{total}
use Rattle.alb_mono.specs.Tree.{tree, degree, are_below, listed, type_le, count as count_of}
use Rattle.alb_mono.specs.declared.mono.Mono.{Mono}
use Rattle.alb_poly.proofs.Multilinear.{each-from, all_from_each}
use Rattle.alb_poly.specs.Poly.{normal}
use Rattle.alb_deriv.specs.Derivation as value
use Rattle.alb_deriv.specs.Derivation.{are_within}
use Rattle.alb_deriv.proofs.Appended.{Appends}
use Rattle.alb_deriv.proofs.LineLemmas.{low-together, below-26}
use Rattle.alb_table.proofs.FirstLemmas.{few_generators}
use Rattle.alb_table.proofs.RightForLemmas.{right-linearized}
use Rattle.alb_table.proofs.TableLemmas.{each-unmap}
use Rattle.alb_table.specs.Right.{IsWithinDegree}
use Rattle.alb_table.specs.RightTable.{rules_view, AreRules, IsRightFor, instance_at}
use Rattle.alb_table.specs.Block.{IsTupleAt}
use Rattle.std.proofs.lemmas.List.{length-map, get_or-map, length-reverse}
use Rattle.alb_mono.specs.Listing.{Each}
use Rattle.alb_poly.specs.Instance.{instance}
use Rattle.alb_poly.specs.Consequence.{form_at, form, forms}
use Rattle.alb_poly.specs.declared.rules.Linear.{Linear}
use Rattle.alb_poly.specs.declared.rules.Rules.{Rules}
use Rattle.alb_linear.specs.Identity.{IsLinearized}
use Rattle.alb_rows.specs.Row.{Cells, ColumnsBelow}
use Rattle.alb_table.specs.Table.{elems, origin_view, origins_at, mono_at, products, Table}
use Rattle.alb_table.specs.declared.part.Origin.{Origin}
use Rattle.alb_subst.specs.Sums.{HasEntries, instance_row}
use Rattle.alb_block.specs.Asked.{setting_of}
use Rattle.alb_block.specs.Instances.{columns_of}
use Rattle.alb_block.specs.Offers.{IsRowOf}
use Rattle.alb_block.proofs.OfferLemmas.{form_item, item-form, row-of}
use Rattle.alb_trace.specs.Given.{IsProductType}
use Rattle.alb_trace.specs.Origins.{origin_at, origin_instance}
use Rattle.alb_trace.specs.Trace.{most_items, lines_of, IsTrace}
use Rattle.alb_trace.specs.declared.trace.Trace.{Trace}
use Rattle.alb_trace.proofs.TableSums.{append-tuple}
use Rattle.alb_trace.proofs.ValueRows.{pos}
use Rattle.alb_trace.proofs.BlockEntries.{origin-named, origin-below, origin-long}
use Rattle.alb_trace.proofs.LimitLemmas.{products-few, origins-few}

module _ (rules : Rules) (t : Table) (g : IsRightFor (rules_view rules) t) (w : List ℕ) (ty : IsProductType t w) where
  -- a type has at most 4096 products
  pub few-products : length (products t.parts w) ≤ 4096
  few-products = products-few (rules_view rules) t w g ty.covered ty.long (omega (arith, ty.big))

  pub few-columns : length (columns_of t.parts w) ≤ 4096
  few-columns = omega (arith, few-products, length-reverse (products t.parts w))

  pub few-origins : length (origins_at t.parts w) ≤ 4096
  few-origins = omega (arith, few-columns, origins-few (rules_view rules) t g w ty.covered ty.long ty.big)

  module _ (os : List Origin) (views : map origin_view os ≡ origins_at t.parts w) where
    pub count : length os ≡ length (origins_at t.parts w)
    count = sym (length-map os origin_view) ∙ ap length views

    module _ (k : ℕ) (o : Origin) (here : k < length os) (is : o ≡ get_or os k o) where
      pub among : k < length (origins_at t.parts w)
      among = omega (arith, count)

      pub view : (o.identity, o.args.items) ≡ origin_at (origins_at t.parts w) k
      view = ap origin_view is ∙ sym (get_or-map origin_view os k o (0, []) here) ∙ ap (λ xs. get_or xs k (0, [])) views

      pub identity-below : o.identity < length rules.linears.items
      identity-below =
          let h : (origin_at (origins_at t.parts w) k).0 < length (forms rules) = (origin-named (rules_view rules) t g w ty.covered ty.long ty.big k among).form in
          omega (arith, h, length-map rules.linears.items form, ap (λ s. s.0) view)

      pub args-below : All (λ b. b < length (elems t.parts)) o.args.items
      args-below = all_from_each (λ b. b < length (elems t.parts)) o.args.items
          (subst (Each (λ b. b < length (elems t.parts))) (sym (ap (λ s. s.1) view)) (origin-below (rules_view rules) t g w ty.covered ty.long ty.big k among))

      module _ (f : Linear) (at : f ≡ get_or rules.linears.items o.identity f) where
        pub form-is : form f ≡ form_at (forms rules) (origin_at (origins_at t.parts w) k).0
        form-is = form_item rules.linears.items o.identity f identity-below at ∙ ap (form_at (forms rules)) (ap (λ s. s.0) view)

        pub linearized : AreRules (rules_view rules) → IsLinearized t.p (form f)
        linearized h = item-form (IsLinearized t.p) rules.linears.items o.identity f (right-linearized (rules_view rules) t h g) identity-below at

        pub args-long : length o.args.items ≡ f.degree
        args-long = ap (λ s. length s.1) view ∙ origin-long (rules_view rules) t g w ty.covered ty.long ty.big k among ∙ sym (ap (λ x. x.degree) form-is)

        pub row-is : (columns : List (ℕ × ℕ)) (row : Cells) → columns ≡ columns_of t.parts w → HasEntries t.p columns row (instance_row t.parts (form f) o.args.items) →
            ColumnsBelow (length columns) row → IsRowOf (setting_of (forms rules) t w) (origin_at (origins_at t.parts w) k) row
        row-is columns row e h b = row-of (setting_of (forms rules) t w) (origin_at (origins_at t.parts w) k) columns row (form f) e form-is
            (subst (λ xs. HasEntries t.p columns row (instance_row t.parts (form f) xs)) (ap (λ s. s.1) view) h) b

        -- its monomials
        module _ (ms : List Mono) (are : map tree ms ≡ map (mono_at t.parts) o.args.items) where
          pub named : IsTupleAt t.p (forms rules) t.target (sum w - 1) w (o.identity, map tree ms)
          named = subst (λ xs. IsTupleAt t.p (forms rules) t.target (sum w - 1) w (o.identity, xs)) (sym are)
              (subst (λ s. IsTupleAt t.p (forms rules) t.target (sum w - 1) w (instance_at t.parts s)) (sym view) (origin-named (rules_view rules) t g w ty.covered ty.long ty.big k among))

          monos-within : Each (λ m. IsWithinDegree t.target (sum w - 1) (tree m)) ms
          monos-within = each-unmap (IsWithinDegree t.target (sum w - 1)) tree ms (each-from _ _ (map tree ms) (λ m b. b.within) named.basis)

          pub monos-known : All (λ m. IsTrue (are_below (length t.target) (tree m))) ms
          monos-known = all_from_each (λ m. IsTrue (are_below (length t.target) (tree m))) ms (each-from _ _ ms (λ m h. h.below) monos-within)

          pub monos-small : All (λ m. degree (tree m) ≤ 64) ms
          monos-small = all_from_each (λ m. degree (tree m) ≤ 64) ms (each-from (λ m. IsWithinDegree t.target (sum w - 1) (tree m)) _ ms (λ m h. (
              let n : degree (tree m) ≤ sum w - 1 = h.degree in
              let l : sum w ≤ t.degree = ty.covered.degree_le in
              let u : t.degree ≤ sum t.target = g.table.within in
              let v : sum t.target ≤ 12 = g.table.goal.small in omega arith)) monos-within)

          pub monos-fit : are_within t.target (map tree ms) ≡ true
          monos-fit =
              let e : listed (λ x. total (count_of x) (map tree ms)) 0 (length t.target) ≡ w = subst (λ n. listed (λ x. total (count_of x) (map tree ms)) 0 n ≡ w) ty.long named.types in
              subst (λ y. IsTrue (type_le y t.target)) (sym e) ty.covered.within

          pub monos-long : length ms ≡ f.degree
          monos-long = sym (length-map ms tree) ∙ ap length are ∙ length-map o.args.items (mono_at t.parts) ∙ args-long

          pub degrees-small : sum_by (λ m. degree (tree m)) ms ≤ 64
          degrees-small = low-together t.target ms g.table.goal.small monos-known monos-fit

          pub known-26 : All (λ m. IsTrue (are_below 26 (tree m))) ms
          known-26 = below-26 (length t.target) ms (omega (arith, few_generators t.target g.table.goal)) monos-known

          -- the line of the instance may be the next one
          pub next-instance : (s : Trace) → IsTrace (forms rules) t s →
              Appends t.p most_items t.target (forms rules) (lines_of s) (value.Instance (o.identity + 1) (map tree ms)) (origin_instance (forms rules) t w k)
          next-instance s h = subst (λ x. Appends t.p most_items t.target (forms rules) (lines_of s) (value.Instance (o.identity + 1) (map tree ms)) x) instance-is
              (append-tuple t.p (pos (rules_view rules) t g) most_items t.target (forms rules) (sum w - 1) w (lines_of s) (o.identity, map tree ms) h.fine
              (record { counts = ty.long; le = ty.covered.within; degree = omega (arith, ty.big) }) named)
            where
              instance-is : instance (form_at (forms rules) o.identity) (map tree ms) ≡ origin_instance (forms rules) t w k
              instance-is = ap (instance (form_at (forms rules) o.identity)) are ∙ ap (λ (s : ℕ × List ℕ). instance (form_at (forms rules) s.0) (map (mono_at t.parts) s.1)) view

          -- its polynomial
          pub value-is : (p : ℕ) → normal p (instance (form f) (map tree ms)) ≡ normal p (origin_instance (forms rules) t w k)
          value-is p = ap (normal p) (ap (λ x. instance x (map tree ms)) form-is
              ∙ ap (instance (form_at (forms rules) (origin_at (origins_at t.parts w) k).0)) (are ∙ ap (λ (s : ℕ × List ℕ). map (mono_at t.parts) s.1) view))
