use Rattle.std.proofs.Common.{◌+◌, ◌-◌, ◌*◌, sum, take}
use Rattle.gf_sums.specs.Sums.{scale}
use Rattle.alb_mono.specs.Tree.{tree, degree}
use Rattle.alb_poly.specs.Consequence.{forms}
use Rattle.alb_poly.specs.Terms.{terms}
use Rattle.alb_rows.specs.Row.{comb}
use Rattle.alb_table.specs.Block.{spread}
use Rattle.alb_table.specs.Table.{type_at}
use Rattle.alb_trace.specs.Origins.{origin_row}
use Rattle.alb_trace.specs.Trace.{product_less, image_less, PushesItems}
use Rattle.alb_trace.proofs.trace.Trace.+derive.Given as goal

abbrev pub decreases-monomial_line : goal.decreases-monomial_line
decreases-monomial_line l = 10 * degree (tree l.m.now) + 10

abbrev pub decreases-add_factor_differences : goal.decreases-add_factor_differences
decreases-add_factor_differences l = 10 * (degree (tree l.l.now) + degree (tree l.r.now)) + 2

abbrev pub decreases-add_part_products : goal.decreases-add_part_products
decreases-add_part_products l = 10 * (degree (tree l.l.now) + degree (tree l.r.now)) + 9

abbrev pub decreases-add_products_of_part : goal.decreases-add_products_of_part
decreases-add_products_of_part l = 10 * (sum (type_at l.ground.now.tables.now.parts l.part.0) + degree (tree l.r.now)) + 8

abbrev pub decreases-product_line : goal.decreases-product_line
decreases-product_line l = 10 * (sum (type_at l.ground.now.tables.now.parts l.b) + sum (type_at l.ground.now.tables.now.parts l.c)) + 7

abbrev pub decreases-add_recipe : goal.decreases-add_recipe
decreases-add_recipe l = 10 * (sum (type_at l.ground.now.tables.now.parts l.b) + sum (type_at l.ground.now.tables.now.parts l.c)) + 6

abbrev pub decreases-row_line : goal.decreases-row_line
decreases-row_line l = 10 * sum l.t.now + 5

abbrev pub decreases-add_origin_row : goal.decreases-add_origin_row
decreases-add_origin_row l = 10 * sum l.t.now + 4

abbrev pub decreases-subtract_factor_differences : goal.decreases-subtract_factor_differences
decreases-subtract_factor_differences l = 10 * degree (tree l.term.now.mono) + 3

abbrev pub invariant-add_part_products-loop-part : goal.invariant-add_part_products-loop-part
invariant-add_part_products-loop-part l =
    PushesItems (forms l.ground.rules.now) l.ground.tables.now l.initial.self l.self l.initial.sum.items.items l.sum.items.items
    (scale 1 (spread (λ b. spread (λ c. product_less l.ground.tables.now (b, c)) (comb l.parts)) (comb (take l.part-index l.part-items))))

abbrev pub invariant-add_products_of_part-loop-cell : goal.invariant-add_products_of_part-loop-cell
invariant-add_products_of_part-loop-cell l =
    PushesItems (forms l.ground.rules.now) l.ground.tables.now l.initial.self l.self l.initial.sum.items.items l.sum.items.items
    (scale l.part.1 (spread (λ c. product_less l.ground.tables.now (l.part.0, c)) (comb (take l.cell-index l.right))))

abbrev pub invariant-add_recipe-loop-item : goal.invariant-add_recipe-loop-item
invariant-add_recipe-loop-item l =
    PushesItems (forms l.ground.rules.now) l.ground.tables.now l.initial.self l.self l.initial.sum.items.items l.sum.items.items (spread (origin_row (forms l.ground.rules.now) l.ground.tables.now l.t) (take l.item-index l.found))

abbrev pub invariant-add_origin_row-loop-term : goal.invariant-add_origin_row-loop-term
invariant-add_origin_row-loop-term l =
    PushesItems (forms l.ground.rules.now) l.ground.tables.now l.initial.self l.self l.initial.sum.items.items l.sum.items.items
    (scale (l.ground.tables.now.p - 1) (scale l.c (spread (image_less l.ground.tables.now) (take l.term-index (terms l.term-items)))))
