use Rattle.std.proofs.Common.{◌+◌, ◌≤◌, ◌++◌, List, length, arith, ap, sym, subst, map}
use Rattle.alb_poly.specs.Consequence.{forms}
use Rattle.alb_table.specs.Table.{PartView, part_view, elems, next_types, next_products, IsTable, count_coefficients, extended}
use Rattle.alb_table.specs.declared.part.Part.{Part}
use Rattle.alb_block.specs.View.{block_view}
use Rattle.alb_block.specs.declared.block.Block.{Block}
use Rattle.alb_build.specs.Part.{count_columns}
use Rattle.alb_build.proofs.CellCounts.{coefficients-append}
use Rattle.alb_build.proofs.Counts.{columns-are, blocks-few, blocks-fit}
use Rattle.alb_table.proofs.FirstLemmas.{few_generators}
use Rattle.alb_build.proofs.Few.{right-few}
use Rattle.alb_build.proofs.Grown.{made-types, grown-parts, grown-countable, grown-table, table-big, new-few}
use Rattle.alb_build.proofs.NextRight.{next-has}
use Rattle.alb_build.proofs.NextTable.{next-table}
use Rattle.alb_table.specs.RightTable.{rules_view, IsRightFor}
use Rattle.alb_table.proofs.RightForLemmas.{right-extended}
use Rattle.alb_build.proofs.growth.grow.Goals as goal

pub count_products-requires : goal.count_products-requires
count_products-requires c =
    let f = blocks-few (forms c.args.rules.now) c.args.tables.now (c.args.tables.now.degree + 1) (map block_view c.args.blocks.items) c.requires.right.table.goal c.requires.blocks in
    let e = ap (λ (bs : List Block). count_columns (map block_view bs)) c.deref.ensures.value in
    omega arith

pub overflow_add-products : goal.overflow_add-products
overflow_add-products c =
    let f = blocks-few (forms c.args.rules.now) c.args.tables.now (c.args.tables.now.degree + 1) (map block_view c.args.blocks.items) c.requires.right.table.goal c.requires.blocks in
    let e = ap (λ (bs : List Block). count_columns (map block_view bs)) c.deref.ensures.value in
    let l = c.requires.right.right.limits.products in
    let x = c.products.ensures in
    let y = c.count_products.ensures in
    omega arith

pub returns-then-products-gt-MOST_PRODUCTS : goal.returns-then-products-gt-MOST_PRODUCTS
returns-then-products-gt-MOST_PRODUCTS c =
    let f = columns-are (forms c.args.rules.now) c.args.tables.now (next_types c.args.tables.now) (map block_view c.args.blocks.items) c.requires.blocks in
    let e = ap (λ (bs : List Block). count_columns (map block_view bs)) c.deref.ensures.value in
    let x = c.products.ensures in
    let y = c.count_products.ensures in
    record { number = omega arith; many = c.if-products-gt-MOST_PRODUCTS.true }

pub parts_of-requires-clause-fit : goal.parts_of-requires-clause-fit
parts_of-requires-clause-fit c = blocks-fit (forms c.args.rules.now) c.args.tables.now (next_types c.args.tables.now) (map block_view c.args.blocks.items) c.requires.blocks

pub parts_of-requires-clause-room : goal.parts_of-requires-clause-room
parts_of-requires-clause-room c =
    let t = c.requires.right.table in
    let f = right-few (forms c.args.rules.now) c.args.tables.now t c.requires.right.right.right in
    let n = few_generators c.args.tables.now.target t.goal in
    let e = ap (λ (bs : List Block). count_columns (map block_view bs)) c.deref.ensures.value in
    let u = c.products.ensures in
    let v = c.count_products.ensures in
    let z = c.if-products-gt-MOST_PRODUCTS.false in
    omega arith

pub count_part_cells-requires : goal.count_part_cells-requires
count_part_cells-requires c =
    let d = ap (λ (ps : List Part). count_coefficients (map part_view ps)) c.deref-2.ensures.value in
    let g = columns-are (forms c.args.rules.now) c.args.tables.now (next_types c.args.tables.now) (map block_view c.args.blocks.items) c.requires.blocks in
    let e = ap (λ (bs : List Block). count_columns (map block_view bs)) c.deref.ensures.value in
    let u = c.products.ensures in
    let v = c.count_products.ensures in
    let z = c.if-products-gt-MOST_PRODUCTS.false in
    let f = new-few (forms c.args.rules.now) c.args.tables.now (map block_view c.args.blocks.items) (map part_view c.in_ok-parts.parts.items) c.requires.right.table c.requires.blocks c.in_ok-parts.ensures.made
    c.in_ok-parts.ensures.small (omega arith) in
    omega arith

pub overflow_add-coefficients : goal.overflow_add-coefficients
overflow_add-coefficients c =
    let x = c.coefficients.ensures in
    let y = c.count_part_cells.ensures in
    let l = c.requires.right.right.limits.coefficients in
    let d = ap (λ (ps : List Part). count_coefficients (map part_view ps)) c.deref-2.ensures.value in
    let g = columns-are (forms c.args.rules.now) c.args.tables.now (next_types c.args.tables.now) (map block_view c.args.blocks.items) c.requires.blocks in
    let e = ap (λ (bs : List Block). count_columns (map block_view bs)) c.deref.ensures.value in
    let u = c.products.ensures in
    let v = c.count_products.ensures in
    let z = c.if-products-gt-MOST_PRODUCTS.false in
    let f = new-few (forms c.args.rules.now) c.args.tables.now (map block_view c.args.blocks.items) (map part_view c.in_ok-parts.parts.items) c.requires.right.table c.requires.blocks c.in_ok-parts.ensures.made
    c.in_ok-parts.ensures.small (omega arith) in
    omega arith

pub returns-then-coefficients-gt-MOST_COEFFICIENTS : goal.returns-then-coefficients-gt-MOST_COEFFICIENTS
returns-then-coefficients-gt-MOST_COEFFICIENTS c =
    let new : List PartView = map part_view c.in_ok-parts.parts.items in
    let g = columns-are (forms c.args.rules.now) c.args.tables.now (next_types c.args.tables.now) (map block_view c.args.blocks.items) c.requires.blocks in
    let e = ap (λ (bs : List Block). count_columns (map block_view bs)) c.deref.ensures.value in
    let u = c.products.ensures in
    let v = c.count_products.ensures in
    let z = c.if-products-gt-MOST_PRODUCTS.false in
    let few : next_products c.args.tables.now ≤ 1000000 = omega arith in
    let f = new-few (forms c.args.rules.now) c.args.tables.now (map block_view c.args.blocks.items) new c.requires.right.table c.requires.blocks c.in_ok-parts.ensures.made c.in_ok-parts.ensures.small few in
    let l = c.requires.right.right.limits.coefficients in
    let k = coefficients-append c.args.tables.now.parts new in
    let d = ap (λ (ps : List Part). count_coefficients (map part_view ps)) c.deref-2.ensures.value in
    let x = c.coefficients.ensures in
    let y = c.count_part_cells.ensures in
    record {
      few = few;
      next = next-has (forms c.args.rules.now) c.args.tables.now (map block_view c.args.blocks.items) new c.requires.right.table c.requires.right.multilinear c.requires.right.high c.requires.room c.requires.blocks c.in_ok-parts.ensures.made
          few c.in_ok-parts.ensures.small (omega arith) c.requires.right.right.right (c.coefficients.result + c.count_part_cells.result) (omega arith);
      many = c.if-coefficients-gt-MOST_COEFFICIENTS.true;
    }

pub extend-requires-clause-types : goal.extend-requires-clause-types
extend-requires-clause-types c =
    made-types (forms c.args.rules.now) c.args.tables.now (next_types c.args.tables.now) (map block_view c.args.blocks.items) (map part_view c.in_ok-parts.parts.items) (length (elems c.args.tables.now.parts))
    c.requires.blocks c.in_ok-parts.ensures.made

pub extend-requires-clause-parts : goal.extend-requires-clause-parts
extend-requires-clause-parts c =
    grown-parts (forms c.args.rules.now) c.args.tables.now (map block_view c.args.blocks.items) (map part_view c.in_ok-parts.parts.items) c.requires.right.table (table-big c.args.tables.now c.requires.right.table)
    c.requires.blocks c.in_ok-parts.ensures.made

pub extend-requires-clause-countable : goal.extend-requires-clause-countable
extend-requires-clause-countable c =
    let new : List PartView = map part_view c.in_ok-parts.parts.items in
    let g = columns-are (forms c.args.rules.now) c.args.tables.now (next_types c.args.tables.now) (map block_view c.args.blocks.items) c.requires.blocks in
    let e = ap (λ (bs : List Block). count_columns (map block_view bs)) c.deref.ensures.value in
    let u = c.products.ensures in
    let v = c.count_products.ensures in
    let z = c.if-products-gt-MOST_PRODUCTS.false in
    let few : next_products c.args.tables.now ≤ 1000000 = omega arith in
    let f = new-few (forms c.args.rules.now) c.args.tables.now (map block_view c.args.blocks.items) new c.requires.right.table c.requires.blocks c.in_ok-parts.ensures.made c.in_ok-parts.ensures.small few in
    let l = c.requires.right.right.limits.coefficients in
    let k = coefficients-append c.args.tables.now.parts new in
    grown-countable (forms c.args.rules.now) c.args.tables.now (map block_view c.args.blocks.items) new c.requires.right.table (table-big c.args.tables.now c.requires.right.table) c.requires.blocks
    c.in_ok-parts.ensures.made few c.in_ok-parts.ensures.small (omega arith)

pub returns : goal.returns
returns c =
    let new : List PartView = map part_view c.in_ok-parts.parts.items in
    let g = columns-are (forms c.args.rules.now) c.args.tables.now (next_types c.args.tables.now) (map block_view c.args.blocks.items) c.requires.blocks in
    let e = ap (λ (bs : List Block). count_columns (map block_view bs)) c.deref.ensures.value in
    let u = c.products.ensures in
    let v = c.count_products.ensures in
    let z = c.if-products-gt-MOST_PRODUCTS.false in
    let few : next_products c.args.tables.now ≤ 1000000 = omega arith in
    let k = coefficients-append c.args.tables.now.parts new in
    let d = ap (λ (ps : List Part). count_coefficients (map part_view ps)) c.deref-2.ensures.value in
    let x = c.coefficients.ensures in
    let y = c.count_part_cells.ensures in
    let q = c.if-coefficients-gt-MOST_COEFFICIENTS.false in
    let cells : count_coefficients (c.args.tables.now.parts ++ new) ≤ 16777216 = omega arith in
    let tab : IsTable (extended c.args.tables.now new) =
    grown-table (forms c.args.rules.now) c.args.tables.now (map block_view c.args.blocks.items) new c.requires.right.table (table-big c.args.tables.now c.requires.right.table) c.requires.blocks
    c.in_ok-parts.ensures.made c.requires.room
    (grown-countable (forms c.args.rules.now) c.args.tables.now (map block_view c.args.blocks.items) new c.requires.right.table (table-big c.args.tables.now c.requires.right.table) c.requires.blocks
    c.in_ok-parts.ensures.made few c.in_ok-parts.ensures.small (omega arith)) in
    record {
      parts = new;
      extends = c.in_ok-extend.ensures;
      right = subst (IsRightFor (rules_view c.args.rules.now)) (sym c.in_ok-extend.ensures)
          (right-extended (rules_view c.args.rules.now) c.args.tables.now new c.requires.right tab
          (next-table (forms c.args.rules.now) c.args.tables.now (map block_view c.args.blocks.items) new c.requires.right.table tab c.requires.right.multilinear c.requires.right.high c.requires.blocks c.in_ok-parts.ensures.made c.requires.right.right few cells));
    }
