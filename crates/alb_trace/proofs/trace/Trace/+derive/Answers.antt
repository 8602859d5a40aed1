use Rattle.std.proofs.Common.{rules, Option, IfSome, ◌≡◌, ℕ, ◌+◌, ◌-◌, ◌*◌, ◌%◌, ◌<◌, ◌≤◌, ◌∙◌, List, length, get_or, sum, take, ap, sym, subst, arith}
use Rattle.std.specs.Prelude.{All}
use Rattle.std.proofs.lemmas.List.{take_all, length-map}
use Rattle.alb_poly.proofs.Multilinear.{all_from_each}
use Rattle.alb_poly.specs.Poly.{normal}
use Rattle.alb_deriv.specs.Derivation.{Line}
use Rattle.gf_field.specs.Modular.{IsSameMod}
use Rattle.gf_field.proofs.Mod.{same, of_mod, ◌⊙◌}
use Rattle.gf_sums.specs.Sums.{scale, reindex}
use Rattle.gf_sums.proofs.Alike.{joined, turned}
use Rattle.alb_mono.specs.Tree.{tree, Tree, leaf, node, degree}
use Rattle.alb_mono.specs.declared.side.Side.TheVariants.{Right}
use Rattle.alb_poly.specs.Consequence.{beside, forms}
use Rattle.alb_poly.specs.Terms.{term, terms}
use Rattle.alb_poly.proofs.Consequence.{alike_poly}
use Rattle.alb_rows.specs.Row.{Cells, comb}
use Rattle.alb_deriv.proofs.Appended.{sum-none}
use Rattle.alb_table.specs.Block.{spread}
use Rattle.alb_table.specs.Table.{type_at, origins_at}
use Rattle.alb_table.specs.Right.{IsOfType, IsWithinDegree}
use Rattle.alb_table.specs.RightTable.{rules_view}
use Rattle.alb_table.proofs.GeneratorLemmas.{above_one}
use Rattle.alb_table.proofs.PartLemmas.{sum-plus}
use Rattle.alb_table.proofs.Right.{of_type-degree, of_type-within}
use Rattle.alb_table.proofs.TableLemmas.{type_shape}
use Rattle.alb_table.proofs.Within.{degree-positive}
use Rattle.alb_trace.specs.Adds.{item_of, IsLonger}
use Rattle.alb_trace.specs.Given.{IsProductType, IsValueRow}
use Rattle.alb_trace.specs.Origins.{product_type, origin_row, origin_instance}
use Rattle.alb_trace.specs.Trace.{lines_of, product_less, mono_less, image_less, entries_less, Derives, PushesItems}
use Rattle.alb_deriv.specs.Short.{IsSumOf}
use Rattle.alb_trace.specs.declared.trace.Citation.{Citation}
use Rattle.alb_trace.specs.declared.trace.Citation.TheVariants as citations
use Rattle.alb_trace.proofs.Adds.{longer-sum}
use Rattle.alb_trace.proofs.FactorLemmas.{within-left, within-right, right-fits}
use Rattle.alb_trace.proofs.ProductLemmas.{scale-one, scales-three, negative-is, pushes-after, pushes-sum, pushes-residues, pushes-term, pushes-scaled, pushes-nothing, cell-degree, row-products, entries-alike, mono-alike, leaf-alike, image-pushes, instance-type, origin-pushed, term-is, term-holds}
use Rattle.alb_trace.proofs.PushLemmas.{pushes-alike, pushes-then, pushes-item, pushes-next, pushes-last}
use Rattle.alb_trace.proofs.ResultLemmas.{OnOk-weaker}
use Rattle.alb_trace.proofs.TraceLemmas.{derives-none, derives-known, derives-joined}
use Rattle.alb_trace.proofs.ValueRows.{pos}
use Rattle.alb_trace.proofs.trace.Trace.+derive.Goals as goal

-- ---- monomial_line

pub monomial_line-returns-in-Some : goal.monomial_line-returns-in-Some
monomial_line-returns-in-Some t c =
    derives-known (forms c.args.ground.now.rules.now) c.args.ground.now.tables.now c.args.self.now c.requires.trace c.in-Some.cited (mono_less c.args.ground.now.tables.now (tree c.args.m.now)) (subst (λ (r : Option Citation). IfSome r (λ o. IsSumOf c.args.ground.now.tables.now.p (forms c.args.ground.now.rules.now) (lines_of c.args.self.now) (item_of o) (mono_less c.args.ground.now.tables.now (tree c.args.m.now)))) c.in-Some.is
    (c.in_ok-known.ensures (forms c.args.ground.now.rules.now) c.args.ground.now.tables.now c.requires.trace))

pub monomial_line-returns-in-Gen : goal.monomial_line-returns-in-Gen
monomial_line-returns-in-Gen t c =
    let e : tree c.args.m.now ≡ leaf c.in-Gen.field-0 = ap tree c.in-Gen.is in
    subst (λ (m : Tree). Derives (forms c.args.ground.now.rules.now) c.args.ground.now.tables.now c.args.self.now c.args.self.now citations.Zero (mono_less c.args.ground.now.tables.now m)) (sym e)
    (derives-none (forms c.args.ground.now.rules.now) c.args.ground.now.tables.now c.args.self.now c.requires.trace (mono_less c.args.ground.now.tables.now (leaf c.in-Gen.field-0)) (sum-none c.args.ground.now.tables.now.p (forms c.args.ground.now.rules.now) (lines_of c.args.self.now) (leaf-alike (rules_view c.args.ground.now.rules.now) c.args.ground.now.tables.now c.requires.ground.right c.in-Gen.field-0)))

pub monomial_line-add_factor_differences-requires : goal.monomial_line-add_factor_differences-requires
monomial_line-add_factor_differences-requires t c =
    let a = c.in-Prod.is in let b = c.deref.ensures in let d = c.deref-in-Prod.ensures in
    let e : tree c.args.m.now ≡ node (tree c.deref.result.now) (tree c.deref-in-Prod.result.now) = search rules in
    let n : degree (tree c.args.m.now) ≡ degree (tree c.deref.result.now) + degree (tree c.deref-in-Prod.result.now) = ap degree e in
    (search rules, (c.requires.ground, (c.requires.trace, (above_one c.args.ground.now.tables.now c.requires.ground.right.table, subst (IsWithinDegree c.args.ground.now.tables.now.target c.args.ground.now.tables.now.degree) e c.requires.within))))

pub monomial_line-add_part_products-requires : goal.monomial_line-add_part_products-requires
monomial_line-add_part_products-requires t c =
    let a = c.in-Prod.is in let b = c.deref-in-Prod-2.ensures in let d = c.deref-in-Prod-3.ensures in
    let e : tree c.args.m.now ≡ node (tree c.deref-in-Prod-2.result.now) (tree c.deref-in-Prod-3.result.now) = search rules in
    let n : degree (tree c.args.m.now) ≡ degree (tree c.deref-in-Prod-2.result.now) + degree (tree c.deref-in-Prod-3.result.now) = ap degree e in
    (search rules, (c.requires.ground, (c.in_ok-add_factor_differences-in-Prod.ensures.trace, subst (IsWithinDegree c.args.ground.now.tables.now.target c.args.ground.now.tables.now.degree) e c.requires.within)))

pub monomial_line-returns-in_ok-note_monomial-in-Prod : goal.monomial_line-returns-in_ok-note_monomial-in-Prod
monomial_line-returns-in_ok-note_monomial-in-Prod t c =
    let a = c.in-Prod.is in let b1 = c.deref.ensures in let d1 = c.deref-in-Prod.ensures in let b2 = c.deref-in-Prod-2.ensures in let d2 = c.deref-in-Prod-3.ensures in
    let e1 : tree c.args.m.now ≡ node (tree c.deref.result.now) (tree c.deref-in-Prod.result.now) = search rules in
    let e2 : tree c.args.m.now ≡ node (tree c.deref-in-Prod-2.result.now) (tree c.deref-in-Prod-3.result.now) = search rules in
    let before : List (ℕ × ℕ) = c.new-sum.result.items.items in
    let after : List (ℕ × ℕ) = c.add_part_products.new.sum.items.items in
    let f = mono_less c.args.ground.now.tables.now (tree c.args.m.now) in
    let p1 = subst (λ (m : Tree). PushesItems (forms c.args.ground.now.rules.now) c.args.ground.now.tables.now c.args.self.now c.add_factor_differences.new.self before c.add_factor_differences.new.sum.items.items (scale 1 (image_less c.args.ground.now.tables.now m))) (sym e1) c.in_ok-add_factor_differences-in-Prod.ensures in
    let p2 = subst (λ (m : Tree). PushesItems (forms c.args.ground.now.rules.now) c.args.ground.now.tables.now c.add_factor_differences.new.self c.add_part_products.new.self c.add_factor_differences.new.sum.items.items after (entries_less c.args.ground.now.tables.now m)) (sym e2) c.in_ok-add_part_products-in-Prod.ensures in
    let p : PushesItems (forms c.args.ground.now.rules.now) c.args.ground.now.tables.now c.args.self.now c.add_part_products.new.self before after f = pushes-alike (forms c.args.ground.now.rules.now) c.args.ground.now.tables.now (mono-alike (rules_view c.args.ground.now.rules.now) c.args.ground.now.tables.now c.requires.ground.right (tree c.args.m.now)) (pushes-then (forms c.args.ground.now.rules.now) c.args.ground.now.tables.now p1 p2) in
    let d = c.in_ok-cited-in-Prod.ensures.derives (forms c.args.ground.now.rules.now) c.args.ground.now.tables.now f p.trace
    (pushes-residues (forms c.args.ground.now.rules.now) c.args.ground.now.tables.now c.args.self.now c.add_part_products.new.self before after f c.new-sum.ensures p)
    (pushes-sum (forms c.args.ground.now.rules.now) c.args.ground.now.tables.now c.args.self.now c.add_part_products.new.self before after f c.new-sum.ensures p) in
    c.in_ok-note_monomial-in-Prod.ensures (forms c.args.ground.now.rules.now) c.args.ground.now.tables.now c.args.self.now
    (derives-joined (forms c.args.ground.now.rules.now) c.args.ground.now.tables.now c.args.self.now c.add_part_products.new.self c.sum_line.new.self c.in_ok-cited-in-Prod.cited f p.longer d)

-- ---- add_factor_differences

pub add_factor_differences-monomial_line-requires : goal.add_factor_differences-monomial_line-requires
add_factor_differences-monomial_line-requires t c =
    let n : 1 ≤ degree (tree c.args.r.now) = degree-positive (tree c.args.r.now) in
    (search rules, (c.requires.ground, (c.requires.trace, within-left (rules_view c.args.ground.now.rules.now) c.args.ground.now.tables.now c.requires.ground.right (tree c.args.l.now) (tree c.args.r.now) c.requires.within)))

pub add_factor_differences-monomial_line-requires-2 : goal.add_factor_differences-monomial_line-requires-2
add_factor_differences-monomial_line-requires-2 t c =
    let n : 1 ≤ degree (tree c.args.l.now) = degree-positive (tree c.args.l.now) in
    (search rules, (c.requires.ground, (c.in_ok-left.ensures.trace, within-right (rules_view c.args.ground.now.rules.now) c.args.ground.now.tables.now c.requires.ground.right (tree c.args.l.now) (tree c.args.r.now) c.requires.within)))

pub add_factor_differences-add_right_difference-requires-clause-within : goal.add_factor_differences-add_right_difference-requires-clause-within
add_factor_differences-add_right_difference-requires-clause-within t c = within-left (rules_view c.args.ground.now.rules.now) c.args.ground.now.tables.now c.requires.ground.right (tree c.args.l.now) (tree c.args.r.now) c.requires.within

pub add_factor_differences-add_right_difference-requires-clause-trace : goal.add_factor_differences-add_right_difference-requires-clause-trace
add_factor_differences-add_right_difference-requires-clause-trace t c =
    let s = longer-sum c.args.ground.now.tables.now.p (forms c.args.ground.now.rules.now) c.in_ok-right.ensures.adds.longer (item_of c.in_ok-left.left) c.in_ok-left.ensures.adds.sum in
    (c.in_ok-product.ensures.derives (forms c.args.ground.now.rules.now) c.args.ground.now.tables.now (mono_less c.args.ground.now.tables.now (tree c.args.l.now)) c.in_ok-right.ensures.trace s
    (within-right (rules_view c.args.ground.now.rules.now) c.args.ground.now.tables.now c.requires.ground.right (tree c.args.l.now) (tree c.args.r.now) c.requires.within).below
    (right-fits (rules_view c.args.ground.now.rules.now) c.args.ground.now.tables.now c.requires.ground.right (tree c.args.l.now) (tree c.args.r.now) c.requires.within)).trace

pub add_factor_differences-returns : goal.add_factor_differences-returns
add_factor_differences-returns t c =
    let l : Tree = tree c.args.l.now in
    let r : Tree = tree c.args.r.now in
    let d1 = c.in_ok-left.ensures in
    let d2 = c.in_ok-right.ensures in
    let s = longer-sum c.args.ground.now.tables.now.p (forms c.args.ground.now.rules.now) d2.adds.longer (item_of c.in_ok-left.left) d1.adds.sum in
    let d3 = c.in_ok-product.ensures.derives (forms c.args.ground.now.rules.now) c.args.ground.now.tables.now (mono_less c.args.ground.now.tables.now l) d2.trace s (within-right (rules_view c.args.ground.now.rules.now) c.args.ground.now.tables.now c.requires.ground.right l r c.requires.within).below (right-fits (rules_view c.args.ground.now.rules.now) c.args.ground.now.tables.now c.requires.ground.right l r c.requires.within) in
    let u = longer-sum c.args.ground.now.tables.now.p (forms c.args.ground.now.rules.now) d3.adds.longer (item_of c.in_ok-right.right) d2.adds.sum in
    let item = subst (λ (xs : List (ℕ × ℕ)). PushesItems (forms c.args.ground.now.rules.now) c.args.ground.now.tables.now c.monomial_line-2.new.self c.times_line.new.self c.args.sum.now.items.items xs (scale c.args.c (reindex (beside (Right, r)) (mono_less c.args.ground.now.tables.now l)))) (sym c.in_ok-add.ensures)
    (pushes-item (forms c.args.ground.now.rules.now) c.args.ground.now.tables.now c.monomial_line-2.new.self c.times_line.new.self c.args.sum.now.items.items c.in_ok-product.product c.args.c (reindex (beside (Right, r)) (mono_less c.args.ground.now.tables.now l)) c.requires.residue d3) in
    OnOk-weaker c.add_right_difference.result _ _ (λ z. pushes-alike (forms c.args.ground.now.rules.now) c.args.ground.now.tables.now (image-pushes (rules_view c.args.ground.now.rules.now) c.args.ground.now.tables.now c.requires.ground.right c.args.c l r)
    (pushes-after (forms c.args.ground.now.rules.now) c.args.ground.now.tables.now c.args.self.now c.monomial_line.new.self c.add_right_difference.new.self c.args.sum.now.items.items c.add_right_difference.new.sum.items.items _ d1.adds.longer
    (pushes-after (forms c.args.ground.now.rules.now) c.args.ground.now.tables.now c.monomial_line.new.self c.monomial_line-2.new.self c.add_right_difference.new.self c.args.sum.now.items.items c.add_right_difference.new.sum.items.items _ d2.adds.longer (pushes-then (forms c.args.ground.now.rules.now) c.args.ground.now.tables.now item z))))
    (c.add_right_difference.ensures r c.requires.within u)

-- ---- product_line

pub product_line-returns : goal.product_line-returns
product_line-returns t c =
    let f = product_less c.args.ground.now.tables.now (c.args.b, c.args.c) in
    let p = c.in_ok-add_recipe.ensures in
    let d = c.in_ok-cited.ensures.derives (forms c.args.ground.now.rules.now) c.args.ground.now.tables.now f p.trace
    (pushes-residues (forms c.args.ground.now.rules.now) c.args.ground.now.tables.now c.recipe.new.self c.add_recipe.new.self c.new-sum.result.items.items c.add_recipe.new.sum.items.items f c.new-sum.ensures p)
    (pushes-sum (forms c.args.ground.now.rules.now) c.args.ground.now.tables.now c.recipe.new.self c.add_recipe.new.self c.new-sum.result.items.items c.add_recipe.new.sum.items.items f c.new-sum.ensures p) in
    let l : IsLonger (lines_of c.args.self.now) (lines_of c.add_recipe.new.self) = subst (λ (ls : List Line). IsLonger ls (lines_of c.add_recipe.new.self)) c.in_ok-found.ensures.same p.longer in
    c.in_ok-note_product.ensures (forms c.args.ground.now.rules.now) c.args.ground.now.tables.now c.args.self.now (derives-joined (forms c.args.ground.now.rules.now) c.args.ground.now.tables.now c.args.self.now c.add_recipe.new.self c.sum_line.new.self c.in_ok-cited.cited f l d)

-- ---- add_part_products

pub add_part_products-value-requires-clause-within : goal.add_part_products-value-requires-clause-within
add_part_products-value-requires-clause-within t c = within-left (rules_view c.args.ground.now.rules.now) c.args.ground.now.tables.now c.requires.ground.right (tree c.args.l.now) (tree c.args.r.now) c.requires.within

pub add_part_products-value-requires-2-clause-within : goal.add_part_products-value-requires-2-clause-within
add_part_products-value-requires-2-clause-within t c = within-right (rules_view c.args.ground.now.rules.now) c.args.ground.now.tables.now c.requires.ground.right (tree c.args.l.now) (tree c.args.r.now) c.requires.within

pub add_part_products-loop-part-init : goal.add_part_products-loop-part-init
add_part_products-loop-part-init t c = pushes-nothing (forms c.args.ground.now.rules.now) c.args.ground.now.tables.now c.args.self.now c.args.sum.now.items.items c.requires.trace

pub add_part_products-add_products_of_part-requires : goal.add_part_products-add_products_of_part-requires
add_part_products-add_products_of_part-requires t c =
    let left : Cells = c.cells-part-items.result.now in
    let right : Cells = c.cells-parts.result.now in
    let vl : IsValueRow (forms c.args.ground.now.rules.now) c.args.ground.now.tables.now (tree c.args.l.now) left = subst (λ (x : Cells). IsValueRow (forms c.args.ground.now.rules.now) c.args.ground.now.tables.now (tree c.args.l.now) x) (sym c.cells-part-items.ensures.all) c.in_ok-left.ensures in
    let vr : IsValueRow (forms c.args.ground.now.rules.now) c.args.ground.now.tables.now (tree c.args.r.now) right = subst (λ (x : Cells). IsValueRow (forms c.args.ground.now.rules.now) c.args.ground.now.tables.now (tree c.args.r.now) x) (sym c.cells-parts.ensures.all) c.in_ok-right.ensures in
    let n : sum (type_at c.args.ground.now.tables.now.parts (get_or c.cells-part-items.result.now c.loop-part.part-index (0, 0)).0) ≡ degree (tree c.args.l.now) =
    cell-degree (rules_view c.args.ground.now.rules.now) c.args.ground.now.tables.now c.requires.ground.right (tree c.args.l.now) left vl c.loop-part.part-index (0, 0) c.loop-part-test.true in (
      search rules,
      (
        c.requires.ground,
        (
          c.loop-part.invariant.trace,
          (
            vl.vector.row.residues c.loop-part.part-index (0, 0) c.loop-part-test.true,
            (vr, row-products (rules_view c.args.ground.now.rules.now) c.args.ground.now.tables.now c.requires.ground.right (tree c.args.l.now) (tree c.args.r.now) c.requires.within left right vl vr c.loop-part.part-index (0, 0) c.loop-part-test.true),
          ),
        ),
      ),
    )

pub add_part_products-loop-part-preserved : goal.add_part_products-loop-part-preserved
add_part_products-loop-part-preserved t c =
    let y : ℕ = (get_or c.cells-part-items.result.now c.loop-part.part-index (0, 0)).1 in
    let e : y ≡ 1 * y = omega arith in
    pushes-next (forms c.args.ground.now.rules.now) c.args.ground.now.tables.now c.args.self.now c.loop-part.self c.add_products_of_part.new.self c.args.sum.now.items.items c.loop-part.sum.items.items c.add_products_of_part.new.sum.items.items 1 y
    (λ b. spread (λ d. product_less c.args.ground.now.tables.now (b, d)) (comb c.cells-parts.result.now)) c.cells-part-items.result.now c.loop-part.part-index (0, 0) c.loop-part-test.true (same e)
    c.loop-part.invariant c.in_ok-add_products_of_part.ensures

pub add_part_products-returns : goal.add_part_products-returns
add_part_products-returns t c =
    let left : Cells = c.cells-part-items.result.now in
    let right : Cells = c.cells-parts.result.now in
    let vl : IsValueRow (forms c.args.ground.now.rules.now) c.args.ground.now.tables.now (tree c.args.l.now) left = subst (λ (x : Cells). IsValueRow (forms c.args.ground.now.rules.now) c.args.ground.now.tables.now (tree c.args.l.now) x) (sym c.cells-part-items.ensures.all) c.in_ok-left.ensures in
    let vr : IsValueRow (forms c.args.ground.now.rules.now) c.args.ground.now.tables.now (tree c.args.r.now) right = subst (λ (x : Cells). IsValueRow (forms c.args.ground.now.rules.now) c.args.ground.now.tables.now (tree c.args.r.now) x) (sym c.cells-parts.ensures.all) c.in_ok-right.ensures in
    let h = λ (b : ℕ). spread (λ d. product_less c.args.ground.now.tables.now (b, d)) (comb right) in
    pushes-alike (forms c.args.ground.now.rules.now) c.args.ground.now.tables.now (joined (scale-one (spread h (comb left))) (entries-alike (rules_view c.args.ground.now.rules.now) c.args.ground.now.tables.now c.requires.ground.right (tree c.args.l.now) (tree c.args.r.now) left right vl vr))
    (pushes-last (forms c.args.ground.now.rules.now) c.args.ground.now.tables.now c.args.self.now c.loop-part.self c.args.sum.now.items.items c.loop-part.sum.items.items 1 h left c.loop-part.part-index c.loop-part-test.false c.loop-part.invariant)

-- ---- add_products_of_part

pub add_products_of_part-loop-cell-init : goal.add_products_of_part-loop-cell-init
add_products_of_part-loop-cell-init t c = pushes-nothing (forms c.args.ground.now.rules.now) c.args.ground.now.tables.now c.args.self.now c.args.sum.now.items.items c.requires.trace

pub add_products_of_part-product_line-requires : goal.add_products_of_part-product_line-requires
add_products_of_part-product_line-requires t c =
    let n : sum (type_at c.args.ground.now.tables.now.parts (get_or c.args.right.now c.loop-cell.cell-index (0, 0)).0) ≡ degree (tree c.args.r.now) =
    cell-degree (rules_view c.args.ground.now.rules.now) c.args.ground.now.tables.now c.requires.ground.right (tree c.args.r.now) c.args.right.now c.requires.value c.loop-cell.cell-index (0, 0) c.loop-cell-test.true in
    (search rules, (c.requires.ground, (c.loop-cell.invariant.trace, c.requires.products c.loop-cell.cell-index (0, 0) c.loop-cell-test.true)))

pub add_products_of_part-loop-cell-preserved : goal.add_products_of_part-loop-cell-preserved
add_products_of_part-loop-cell-preserved t c =
    let cell : ℕ × ℕ = get_or c.args.right.now c.loop-cell.cell-index (0, 0) in
    let e : c.mul.result ≡ (c.args.part.1 * cell.1) % c.args.ground.now.tables.now.p = c.mul.ensures.value ∙ ap (λ (p : ℕ). (c.args.part.1 * cell.1) % p) c.field-field.ensures in
    let small : c.mul.result < c.args.ground.now.tables.now.p = subst (λ (p : ℕ). c.mul.result < p) c.field-field.ensures c.mul.ensures.residue in
    let m : IsSameMod c.args.ground.now.tables.now.p c.mul.result (c.args.part.1 * cell.1) = same e ⊙ of_mod (c.args.part.1 * cell.1) in
    let f = product_less c.args.ground.now.tables.now (c.args.part.0, cell.0) in
    let i = subst (λ (xs : List (ℕ × ℕ)). PushesItems (forms c.args.ground.now.rules.now) c.args.ground.now.tables.now c.loop-cell.self c.product_line.new.self c.loop-cell.sum.items.items xs (scale c.mul.result f)) (sym {A = List (ℕ × ℕ)} c.in_ok-add.ensures)
    (pushes-item (forms c.args.ground.now.rules.now) c.args.ground.now.tables.now c.loop-cell.self c.product_line.new.self c.loop-cell.sum.items.items c.in_ok-cited.cited c.mul.result f small c.in_ok-cited.ensures) in
    pushes-next (forms c.args.ground.now.rules.now) c.args.ground.now.tables.now c.args.self.now c.loop-cell.self c.product_line.new.self c.args.sum.now.items.items c.loop-cell.sum.items.items c.add.new.self.items.items c.args.part.1 c.mul.result
    (λ d. product_less c.args.ground.now.tables.now (c.args.part.0, d)) c.args.right.now c.loop-cell.cell-index (0, 0) c.loop-cell-test.true m c.loop-cell.invariant i

pub add_products_of_part-returns : goal.add_products_of_part-returns
add_products_of_part-returns t c =
    pushes-last (forms c.args.ground.now.rules.now) c.args.ground.now.tables.now c.args.self.now c.loop-cell.self c.args.sum.now.items.items c.loop-cell.sum.items.items c.args.part.1 (λ d. product_less c.args.ground.now.tables.now (c.args.part.0, d)) c.args.right.now c.loop-cell.cell-index c.loop-cell-test.false c.loop-cell.invariant

-- ---- add_recipe

pub add_recipe-loop-item-init : goal.add_recipe-loop-item-init
add_recipe-loop-item-init t c = pushes-nothing (forms c.args.ground.now.rules.now) c.args.ground.now.tables.now c.args.self.now c.args.sum.now.items.items c.requires.trace

pub add_recipe-row_line-requires : goal.add_recipe-row_line-requires
add_recipe-row_line-requires t c =
    let e : c.plus-t.result ≡ product_type c.args.ground.now.tables.now (c.args.b, c.args.c) = search rules in
    let x = type_shape c.args.ground.now.tables.now c.args.b c.requires.ground.right.table c.requires.product.left in
    let y = type_shape c.args.ground.now.tables.now c.args.c c.requires.ground.right.table c.requires.product.right in
    let s : sum (type_at c.args.ground.now.tables.now.parts c.args.b) + sum (type_at c.args.ground.now.tables.now.parts c.args.c) ≡ sum (product_type c.args.ground.now.tables.now (c.args.b, c.args.c)) = sum-plus (type_at c.args.ground.now.tables.now.parts c.args.b) (type_at c.args.ground.now.tables.now.parts c.args.c) (x.long ∙ sym y.long) in
    let n : sum c.plus-t.result ≡ sum (type_at c.args.ground.now.tables.now.parts c.args.b) + sum (type_at c.args.ground.now.tables.now.parts c.args.c) = ap sum e ∙ sym s in (
      search rules,
      (
        c.requires.ground,
        (
          c.loop-item.invariant.trace,
          (
            subst (IsProductType c.args.ground.now.tables.now) (sym e) c.requires.product.type,
            subst (λ (w : List ℕ). (get_or c.args.found.now c.loop-item.item-index (0, 0)).1 < length (origins_at c.args.ground.now.tables.now.parts w)) (sym e) (c.requires.recipe.below c.loop-item.item-index (0, 0) c.loop-item-test.true),
          ),
        ),
      ),
    )

pub add_recipe-loop-item-preserved : goal.add_recipe-loop-item-preserved
add_recipe-loop-item-preserved t c =
    let item : ℕ × ℕ = get_or c.args.found.now c.loop-item.item-index (0, 0) in
    let f = origin_row (forms c.args.ground.now.rules.now) c.args.ground.now.tables.now c.plus-t.result item.1 in
    let i = subst (λ (xs : List (ℕ × ℕ)). PushesItems (forms c.args.ground.now.rules.now) c.args.ground.now.tables.now c.loop-item.self c.row_line.new.self c.loop-item.sum.items.items xs (scale item.0 f)) (sym {A = List (ℕ × ℕ)} c.in_ok-add.ensures)
    (pushes-item (forms c.args.ground.now.rules.now) c.args.ground.now.tables.now c.loop-item.self c.row_line.new.self c.loop-item.sum.items.items c.in_ok-cited.cited item.0 f (c.requires.recipe.residues c.loop-item.item-index (0, 0) c.loop-item-test.true) c.in_ok-cited.ensures) in
    pushes-term (forms c.args.ground.now.rules.now) c.args.ground.now.tables.now c.args.self.now c.loop-item.self c.row_line.new.self c.args.sum.now.items.items c.loop-item.sum.items.items c.add.new.self.items.items
    (origin_row (forms c.args.ground.now.rules.now) c.args.ground.now.tables.now c.plus-t.result) c.args.found.now c.loop-item.item-index (0, 0) c.loop-item-test.true c.loop-item.invariant i

pub add_recipe-returns : goal.add_recipe-returns
add_recipe-returns t c =
    let e : c.plus-t.result ≡ product_type c.args.ground.now.tables.now (c.args.b, c.args.c) = search rules in
    let f : take c.loop-item.item-index c.args.found.now ≡ c.args.found.now = take_all c.loop-item.item-index c.args.found.now c.loop-item-test.false in
    let p = subst (λ (w : List ℕ). PushesItems (forms c.args.ground.now.rules.now) c.args.ground.now.tables.now c.args.self.now c.loop-item.self c.args.sum.now.items.items c.loop-item.sum.items.items (spread (origin_row (forms c.args.ground.now.rules.now) c.args.ground.now.tables.now w) (take c.loop-item.item-index c.args.found.now))) e c.loop-item.invariant in
    let q = subst (λ (xs : List (ℕ × ℕ)). PushesItems (forms c.args.ground.now.rules.now) c.args.ground.now.tables.now c.args.self.now c.loop-item.self c.args.sum.now.items.items c.loop-item.sum.items.items (spread (origin_row (forms c.args.ground.now.rules.now) c.args.ground.now.tables.now (product_type c.args.ground.now.tables.now (c.args.b, c.args.c))) xs)) f p in
    pushes-alike (forms c.args.ground.now.rules.now) c.args.ground.now.tables.now (turned (alike_poly c.requires.recipe.gives)) q

-- ---- row_line

pub row_line-returns-in-Some : goal.row_line-returns-in-Some
row_line-returns-in-Some t c =
    derives-known (forms c.args.ground.now.rules.now) c.args.ground.now.tables.now c.args.self.now c.requires.trace c.in-Some.cited (origin_row (forms c.args.ground.now.rules.now) c.args.ground.now.tables.now c.args.t.now c.args.k) (c.in-Some.ensures (forms c.args.ground.now.rules.now) c.args.ground.now.tables.now c.requires.trace)

pub row_line-add_origin_row-requires : goal.row_line-add_origin_row-requires
row_line-add_origin_row-requires t c =
    (search rules, (c.requires.ground, (c.requires.trace, (above_one c.args.ground.now.tables.now c.requires.ground.right.table, (c.requires.product, c.requires.kept)))))

pub row_line-returns : goal.row_line-returns
row_line-returns t c =
    let f = origin_row (forms c.args.ground.now.rules.now) c.args.ground.now.tables.now c.args.t.now c.args.k in
    let before : List (ℕ × ℕ) = c.new-sum.result.items.items in
    let after : List (ℕ × ℕ) = c.add_origin_row.new.sum.items.items in
    let p : PushesItems (forms c.args.ground.now.rules.now) c.args.ground.now.tables.now c.args.self.now c.add_origin_row.new.self before after f = pushes-alike (forms c.args.ground.now.rules.now) c.args.ground.now.tables.now (scale-one f) c.in_ok-add_origin_row.ensures in
    let d = c.in_ok-cited.ensures.derives (forms c.args.ground.now.rules.now) c.args.ground.now.tables.now f p.trace
    (pushes-residues (forms c.args.ground.now.rules.now) c.args.ground.now.tables.now c.args.self.now c.add_origin_row.new.self before after f c.new-sum.ensures p)
    (pushes-sum (forms c.args.ground.now.rules.now) c.args.ground.now.tables.now c.args.self.now c.add_origin_row.new.self before after f c.new-sum.ensures p) in
    c.in_ok-note_row.ensures (forms c.args.ground.now.rules.now) c.args.ground.now.tables.now c.args.self.now
    (derives-joined (forms c.args.ground.now.rules.now) c.args.ground.now.tables.now c.args.self.now c.add_origin_row.new.self c.sum_line.new.self c.in_ok-cited.cited f p.longer d)

-- ---- add_origin_row

pub add_origin_row-loop-term-init : goal.add_origin_row-loop-term-init
add_origin_row-loop-term-init t c = pushes-nothing (forms c.args.ground.now.rules.now) c.args.ground.now.tables.now c.add_origin_instance.new.self c.add_origin_instance.new.sum.items.items c.in_ok-value.ensures.pushes.trace

pub add_origin_row-subtract_factor_differences-requires : goal.add_origin_row-subtract_factor_differences-requires
add_origin_row-subtract_factor_differences-requires t c =
    let w : List ℕ = c.args.t.now in
    let types = instance-type (rules_view c.args.ground.now.rules.now) c.args.ground.now.tables.now c.requires.ground.right w c.requires.product c.args.k c.requires.kept c.args.ground.now.tables.now.p in
    let all : All (λ (s : ℕ × Tree). IsOfType w s.1) c.in_ok-value.value = subst (λ (f : List (ℕ × Tree)). All (λ (s : ℕ × Tree). IsOfType w s.1) f) (sym c.in_ok-value.ensures.value)
    (all_from_each (λ (s : ℕ × Tree). IsOfType w s.1) _ types) in
    let o = term-holds (λ (s : ℕ × Tree). IsOfType w s.1) c.terms-term-items.result.now c.in_ok-value.value c.loop-term.term-index c.term-item.result c.terms-term-items.ensures.value all c.loop-term-test.true c.term-item.is in
    let r = term-holds (λ (s : ℕ × Tree). s.0 < c.args.ground.now.tables.now.p) c.terms-term-items.result.now c.in_ok-value.value c.loop-term.term-index c.term-item.result c.terms-term-items.ensures.value c.in_ok-value.ensures.residues c.loop-term-test.true c.term-item.is in
    let d : degree (tree c.term-item.result.mono) ≡ sum w = of_type-degree w (tree c.term-item.result.mono) o in
    let b : 2 ≤ sum w = c.requires.product.big in
    let n : 2 ≤ degree (tree c.term-item.result.mono) = omega arith in (
      search rules,
      (
        c.requires.ground,
        (
          c.loop-term.invariant.trace,
          (
            c.requires.residue,
            (
              r,
              (
                of_type-within c.args.ground.now.tables.now.target c.args.ground.now.tables.now.degree w (tree c.term-item.result.mono) (record { counts = c.requires.product.long; le = c.requires.product.covered.within; degree = c.requires.product.covered.degree_le }) o,
                n,
              ),
            ),
          ),
        ),
      ),
    )

pub add_origin_row-loop-term-preserved : goal.add_origin_row-loop-term-preserved
add_origin_row-loop-term-preserved t c =
    let l : c.loop-term.term-index < length (terms c.terms-term-items.result.now) = omega (arith, length-map c.terms-term-items.result.now term, c.loop-term-test.true) in
    pushes-scaled (forms c.args.ground.now.rules.now) c.args.ground.now.tables.now c.add_origin_instance.new.self c.loop-term.self c.subtract_factor_differences.new.self c.add_origin_instance.new.sum.items.items c.loop-term.sum.items.items c.subtract_factor_differences.new.sum.items.items
    (c.args.ground.now.tables.now.p - 1) c.args.c (image_less c.args.ground.now.tables.now) (terms c.terms-term-items.result.now) c.loop-term.term-index (term c.term-item.result) l
    (term-is c.terms-term-items.result.now c.loop-term.term-index c.term-item.result c.loop-term-test.true c.term-item.is) c.loop-term.invariant c.in_ok-subtract_factor_differences.ensures

pub add_origin_row-returns : goal.add_origin_row-returns
add_origin_row-returns t c =
    let w : List ℕ = c.args.t.now in
    let l : length (terms c.terms-term-items.result.now) ≤ c.loop-term.term-index = omega (arith, length-map c.terms-term-items.result.now term, c.loop-term-test.false) in
    let e : take c.loop-term.term-index (terms c.terms-term-items.result.now) ≡ normal c.args.ground.now.tables.now.p (origin_instance (forms c.args.ground.now.rules.now) c.args.ground.now.tables.now w c.args.k) =
    take_all c.loop-term.term-index (terms c.terms-term-items.result.now) l ∙ c.terms-term-items.ensures.value ∙ c.in_ok-value.ensures.value in
    let p = subst (λ (f : List (ℕ × Tree)). PushesItems (forms c.args.ground.now.rules.now) c.args.ground.now.tables.now c.add_origin_instance.new.self c.loop-term.self c.add_origin_instance.new.sum.items.items c.loop-term.sum.items.items (scale (c.args.ground.now.tables.now.p - 1) (scale c.args.c (spread (image_less c.args.ground.now.tables.now) f)))) e c.loop-term.invariant in
    pushes-alike (forms c.args.ground.now.rules.now) c.args.ground.now.tables.now (origin-pushed (rules_view c.args.ground.now.rules.now) c.args.ground.now.tables.now c.requires.ground.right w c.requires.product c.args.k c.requires.kept c.args.c) (pushes-then (forms c.args.ground.now.rules.now) c.args.ground.now.tables.now c.in_ok-value.ensures.pushes p)

-- ---- subtract_factor_differences

pub subtract_factor_differences-returns : goal.subtract_factor_differences-returns
subtract_factor_differences-returns t c =
    let a = c.in-Prod.is in let b = c.deref.ensures in let d = c.deref-in-Prod.ensures in
    let e : tree c.args.term.now.mono ≡ node (tree c.deref.result.now) (tree c.deref-in-Prod.result.now) = search rules in
    let m : c.mul.result ≡ (c.args.c * c.args.term.now.coef) % c.args.ground.now.tables.now.p = c.mul.ensures.value ∙ ap (λ (p : ℕ). (c.args.c * c.args.term.now.coef) % p) c.field-field.ensures in
    let z : IsSameMod c.args.ground.now.tables.now.p (c.neg-y.result + c.mul.result) 0 = subst (λ (p : ℕ). IsSameMod p (c.neg-y.result + c.mul.result) 0) c.field-field.ensures c.neg-y.ensures.value in
    let y = negative-is c.args.ground.now.tables.now.p c.args.c c.args.term.now.coef c.neg-y.result c.mul.result (pos (rules_view c.args.ground.now.rules.now) c.args.ground.now.tables.now c.requires.ground.right) z m in
    OnOk-weaker c.add_factor_differences.result _ _ (λ p. pushes-alike (forms c.args.ground.now.rules.now) c.args.ground.now.tables.now (scales-three c.neg-y.result (c.args.ground.now.tables.now.p - 1) c.args.c c.args.term.now.coef (image_less c.args.ground.now.tables.now (tree c.args.term.now.mono)) y)
    (subst (λ (x : Tree). PushesItems (forms c.args.ground.now.rules.now) c.args.ground.now.tables.now c.args.self.now c.add_factor_differences.new.self c.args.sum.now.items.items c.add_factor_differences.new.sum.items.items (scale c.neg-y.result (image_less c.args.ground.now.tables.now x))) (sym e) p))
    c.add_factor_differences.ensures
