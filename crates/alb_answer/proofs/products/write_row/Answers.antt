use Rattle.std.proofs.Common.{◌^◌, ◌+◌, rules, arith, length, ◌<◌, ap, sym}
use Rattle.std.specs.List.{flat_map}
use Rattle.alb_io.proofs.Writers.{Writes-exit, Writing-start, Writing-more, Writing-fails, Writing-all}
use Rattle.alb_answer.specs.Answers.{product_line}
use Rattle.alb_table.specs.Table.{elems}
use Rattle.alb_answer.proofs.AnswerLemmas.{row-start, row-at, row-end, row-below}
use Rattle.alb_answer.proofs.products.write_row.Goals as goal

pub loop-j-init : goal.loop-j-init
loop-j-init g c = Writing-start _ (ap (flat_map (product_line c.args.tables.now.p c.args.letters.now c.args.tables.now.parts)) (sym (row-start c.args.b c.args.g.now.right c.args.g.now.rights)))

pub returns-in_err-write_product : goal.returns-in_err-write_product
returns-in_err-write_product g c =
    Writes-exit _ _ c.from_residual.ensures.1
    (Writing-fails _ c.loop-j.invariant c.in_err-write_product.ensures (row-at (product_line c.args.tables.now.p c.args.letters.now c.args.tables.now.parts) c.args.b c.args.g.now.right c.args.g.now.rights c.loop-j.j c.loop-j-test.true))

pub loop-j-preserved : goal.loop-j-preserved
loop-j-preserved g c =
    Writing-more c.loop-j.invariant c.in_ok-write_product.ensures (row-at (product_line c.args.tables.now.p c.args.letters.now c.args.tables.now.parts) c.args.b c.args.g.now.right c.args.g.now.rights c.loop-j.j c.loop-j-test.true)

pub returns : goal.returns
returns g c = Writing-all c.loop-j.invariant (row-end (product_line c.args.tables.now.p c.args.letters.now c.args.tables.now.parts) c.args.b c.args.g.now.right c.args.g.now.rights c.loop-j.j (omega arith))

pub write_product-requires-clause-pair : goal.write_product-requires-clause-pair
write_product-requires-clause-pair g c =
    row-below (length (elems c.args.tables.now.parts)) c.args.b c.args.g.now.right c.args.g.now.rights c.loop-j.j c.requires.pairs c.loop-j-test.true

pub overflow_add-g : goal.overflow_add-g
overflow_add-g g c =
    let l : c.args.g.now.right + c.loop-j.j < length (elems c.args.tables.now.parts) =
    (row-below (length (elems c.args.tables.now.parts)) c.args.b c.args.g.now.right c.args.g.now.rights c.loop-j.j c.requires.pairs c.loop-j-test.true).1 in
    let m : length (elems c.args.tables.now.parts) < 2 ^ 32 = c.degree.ensures.table.countable.elements in
    let e : c.args.g.now.right + c.loop-j.j < 2 ^ 32 = omega arith in
    search rules
