use Rattle.std.proofs.Common.{ℕ, ◌-◌, subst, arith, length, ◌<◌, sym, false-eqb}
use Rattle.alb_io.proofs.Writers.{Writes-exit, Writes-more, Writes-then, Writes-text}
use Rattle.alb_table.specs.Table.{elems, mono_at}
use Rattle.alb_print.proofs.Writes.{leading-term}
use Rattle.alb_answer.proofs.AnswerLemmas.{cells-text}
use Rattle.std.proofs.lemmas.List.Elements.{All-take}
use Rattle.alb_answer.proofs.products.write_cells.Goals as goal

pub returns-in_err-write_leading_coefficient : goal.returns-in_err-write_leading_coefficient
returns-in_err-write_leading_coefficient g c =
    let some : 0 < length c.args.cells.now = omega (arith, false-eqb (length c.args.cells.now) 0 c.if-is_empty.ensures) in
    let text = cells-text c.args.tables.now.p c.args.letters.now c.args.tables.now.parts c.args.cells.now (length c.args.cells.now - 1) c.cell_at-cell.result (omega arith) c.cell_at-cell.ensures in
    let term = leading-term c.args.tables.now.p c.args.letters.now (c.cell_at-cell.result.1, mono_at c.args.tables.now.parts c.cell_at-cell.result.0) in
    Writes-exit _ _ c.from_residual.ensures.1
    (Writes-text text (Writes-more _ (Writes-text term (Writes-more _ (rw c.field.ensures at c.in_err-write_leading_coefficient.ensures)))))

pub returns-in_err-write_elem : goal.returns-in_err-write_elem
returns-in_err-write_elem g c =
    let some : 0 < length c.args.cells.now = omega (arith, false-eqb (length c.args.cells.now) 0 c.if-is_empty.ensures) in
    let text = cells-text c.args.tables.now.p c.args.letters.now c.args.tables.now.parts c.args.cells.now (length c.args.cells.now - 1) c.cell_at-cell.result (omega arith) c.cell_at-cell.ensures in
    let term = leading-term c.args.tables.now.p c.args.letters.now (c.cell_at-cell.result.1, mono_at c.args.tables.now.parts c.cell_at-cell.result.0) in
    let coefficient = rw c.field.ensures at c.in_ok-write_leading_coefficient.ensures in
    Writes-exit _ _ c.from_residual-in_err-write_elem.ensures.1 (Writes-text text (Writes-more _ (Writes-text term (Writes-then coefficient c.in_err-write_elem.ensures))))

pub returns : goal.returns
returns g c =
    let some : 0 < length c.args.cells.now = omega (arith, false-eqb (length c.args.cells.now) 0 c.if-is_empty.ensures) in
    let text = cells-text c.args.tables.now.p c.args.letters.now c.args.tables.now.parts c.args.cells.now (length c.args.cells.now - 1) c.cell_at-cell.result (omega arith) c.cell_at-cell.ensures in
    let term = leading-term c.args.tables.now.p c.args.letters.now (c.cell_at-cell.result.1, mono_at c.args.tables.now.parts c.cell_at-cell.result.0) in
    let coefficient = rw c.field.ensures at c.in_ok-write_leading_coefficient.ensures in
    Writes-text text
    (Writes-then (Writes-text term (Writes-then coefficient c.in_ok-write_elem.ensures)) (rw c.before-2.ensures at c.write_later_cells.ensures))

pub write_later_cells-requires-clause-cells : goal.write_later_cells-requires-clause-cells
write_later_cells-requires-clause-cells g c = rw c.before-2.ensures (All-take (λ (x : ℕ × ℕ). x.0 < length (elems c.args.tables.now.parts)) (length c.args.cells.now - 1) c.args.cells.now c.requires.cells.0, All-take (λ (x : ℕ × ℕ). x.1 < c.args.tables.now.p) (length c.args.cells.now - 1) c.args.cells.now c.requires.cells.1)

pub write_leading_coefficient-requires : goal.write_leading_coefficient-requires
write_leading_coefficient-requires g c =
    rw c.field.ensures
    (subst (λ x. x.1 < c.args.tables.now.p) (sym c.cell_at-cell.ensures)
    (c.requires.cells.1 (length c.args.cells.now - 1) c.cell_at-cell.result (omega (arith, false-eqb (length c.args.cells.now) 0 c.if-is_empty.ensures))))

pub write_elem-requires-clause-number : goal.write_elem-requires-clause-number
write_elem-requires-clause-number g c =
    subst (λ x. x.0 < length (elems c.args.tables.now.parts)) (sym c.cell_at-cell.ensures)
    (c.requires.cells.0 (length c.args.cells.now - 1) c.cell_at-cell.result (omega (arith, false-eqb (length c.args.cells.now) 0 c.if-is_empty.ensures)))
