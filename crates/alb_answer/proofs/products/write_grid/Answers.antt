use Rattle.std.proofs.Common.{◌^◌, ◌+◌, rules, arith, length, ◌<◌, ◌≡◌, sym, ap, ◌∙◌}
use Rattle.std.specs.List.{flat_map}
use Rattle.alb_io.proofs.Writers.{Writes-exit, Writes-none, Writes-text, Writing-start, Writing-more, Writing-fails, Writing-all}
use Rattle.alb_table.specs.Table.{rectangle, elems}
use Rattle.alb_answer.specs.Answers.{product_line}
use Rattle.alb_answer.proofs.AnswerLemmas.{rectangle-start, rectangle-at, rectangle-end, rectangle-empty, rectangle-below, row-below}
use Rattle.alb_answer.proofs.products.write_grid.Goals as goal

pub loop-i-init : goal.loop-i-init
loop-i-init g c = Writing-start _ (ap (flat_map (product_line c.args.tables.now.p c.args.letters.now c.args.tables.now.parts)) (sym (rectangle-start c.args.g.now.left c.args.g.now.lefts c.args.g.now.right c.args.g.now.rights)))

pub returns-in_err-write_row : goal.returns-in_err-write_row
returns-in_err-write_row g c =
    Writes-exit _ _ c.from_residual.ensures.1
    (Writing-fails _ c.loop-i.invariant c.in_err-write_row.ensures
    (rectangle-at (product_line c.args.tables.now.p c.args.letters.now c.args.tables.now.parts) c.args.g.now.left c.args.g.now.lefts c.args.g.now.right c.args.g.now.rights c.loop-i.i c.loop-i-test.true))

pub loop-i-preserved : goal.loop-i-preserved
loop-i-preserved g c =
    Writing-more c.loop-i.invariant c.in_ok-write_row.ensures
    (rectangle-at (product_line c.args.tables.now.p c.args.letters.now c.args.tables.now.parts) c.args.g.now.left c.args.g.now.lefts c.args.g.now.right c.args.g.now.rights c.loop-i.i c.loop-i-test.true)

pub returns : goal.returns
returns g c =
    Writing-all c.loop-i.invariant
    (rectangle-end (product_line c.args.tables.now.p c.args.letters.now c.args.tables.now.parts) c.args.g.now.left c.args.g.now.lefts c.args.g.now.right c.args.g.now.rights c.loop-i.i (omega arith))

pub write_row-requires-clause-pairs : goal.write_row-requires-clause-pairs
write_row-requires-clause-pairs g c =
    rectangle-below (length (elems c.args.tables.now.parts)) c.args.g.now.left c.args.g.now.lefts c.args.g.now.right c.args.g.now.rights c.loop-i.i c.requires.pairs c.loop-i-test.true

pub returns-then-g-eq0 : goal.returns-then-g-eq0
returns-then-g-eq0 g c =
    let none : c.args.g.now.rights ≡ 0 = search rules in
    let empty = ap (λ n. flat_map (product_line c.args.tables.now.p c.args.letters.now c.args.tables.now.parts) (rectangle c.args.g.now.left c.args.g.now.lefts c.args.g.now.right n)) none
    ∙ ap (flat_map (product_line c.args.tables.now.p c.args.letters.now c.args.tables.now.parts)) (rectangle-empty c.args.g.now.left c.args.g.now.lefts c.args.g.now.right) in
    Writes-text (sym empty) (Writes-none _)

pub overflow_add-g : goal.overflow_add-g
overflow_add-g g c =
    let r : 0 < c.args.g.now.rights = search rules in
    let b = rectangle-below (length (elems c.args.tables.now.parts)) c.args.g.now.left c.args.g.now.lefts c.args.g.now.right c.args.g.now.rights c.loop-i.i c.requires.pairs c.loop-i-test.true in
    let l : c.args.g.now.left + c.loop-i.i < length (elems c.args.tables.now.parts) =
    (row-below (length (elems c.args.tables.now.parts)) (c.args.g.now.left + c.loop-i.i) c.args.g.now.right c.args.g.now.rights 0 b r).0 in
    let m : length (elems c.args.tables.now.parts) < 2 ^ 32 = c.degree.ensures.table.countable.elements in
    let e : c.args.g.now.left + c.loop-i.i < 2 ^ 32 = omega arith in
    search rules
