use Rattle.std.proofs.Common.{◌+◌, ◌-◌, subst, arith, length, ◌<◌, ◌≡◌, ◌∙◌, ap, take, sym, refl}
use Rattle.std.specs.List.{flat_map}
use Rattle.alb_io.proofs.Writers.{Writes-exit, Writing-start, Writing-more, Writing-fails, Writing-all, Writes-more, Writes-then, Writes-text}
use Rattle.alb_table.specs.Table.{elems, mono_at}
use Rattle.alb_print.specs.Text.{later_text}
use Rattle.alb_print.proofs.Writes.{later-term}
use Rattle.alb_answer.specs.Answers.{cells_poly}
use Rattle.alb_answer.proofs.AnswerLemmas.{later-cells, cells-all}
use Rattle.alb_answer.proofs.products.write_later_cells.Goals as goal

pub loop-left-init : goal.loop-left-init
loop-left-init g c = record {
  few = omega arith;
  writing = Writing-start _ (ap (flat_map (later_text c.args.tables.now.p c.args.letters.now)) (sym (cells-all c.args.tables.now.parts c.args.cells.now (length c.args.cells.now) refl)));
}

pub returns-in_err-write_later_coefficient : goal.returns-in_err-write_later_coefficient
returns-in_err-write_later_coefficient g c =
    let within : c.loop-left.left - 1 < length c.args.cells.now = omega (arith, c.loop-left.invariant.few, c.loop-left-test.true) in
    let one : c.loop-left.left ≡ c.loop-left.left - 1 + 1 = omega (arith, c.loop-left-test.true) in
    let here = ap (λ n. flat_map (later_text c.args.tables.now.p c.args.letters.now) (cells_poly c.args.tables.now.parts (take n c.args.cells.now))) one
    ∙ later-cells c.args.tables.now.p c.args.letters.now c.args.tables.now.parts c.args.cells.now (c.loop-left.left - 1) c.cell_at-cell.result within c.cell_at-cell.ensures in
    let term = later-term c.args.tables.now.p c.args.letters.now (c.cell_at-cell.result.1, mono_at c.args.tables.now.parts c.cell_at-cell.result.0) in
    Writes-exit _ _ c.from_residual.ensures.1
    (Writing-fails _ c.loop-left.invariant.writing (Writes-text term (Writes-more _ (rw c.field.ensures at c.in_err-write_later_coefficient.ensures))) here)

pub returns-in_err-write_elem : goal.returns-in_err-write_elem
returns-in_err-write_elem g c =
    let within : c.loop-left.left - 1 < length c.args.cells.now = omega (arith, c.loop-left.invariant.few, c.loop-left-test.true) in
    let one : c.loop-left.left ≡ c.loop-left.left - 1 + 1 = omega (arith, c.loop-left-test.true) in
    let here = ap (λ n. flat_map (later_text c.args.tables.now.p c.args.letters.now) (cells_poly c.args.tables.now.parts (take n c.args.cells.now))) one
    ∙ later-cells c.args.tables.now.p c.args.letters.now c.args.tables.now.parts c.args.cells.now (c.loop-left.left - 1) c.cell_at-cell.result within c.cell_at-cell.ensures in
    let term = later-term c.args.tables.now.p c.args.letters.now (c.cell_at-cell.result.1, mono_at c.args.tables.now.parts c.cell_at-cell.result.0) in
    let coefficient = rw c.field.ensures at c.in_ok-write_later_coefficient.ensures in
    Writes-exit _ _ c.from_residual-in_err-write_elem.ensures.1
    (Writing-fails _ c.loop-left.invariant.writing (Writes-text term (Writes-then coefficient c.in_err-write_elem.ensures)) here)

pub loop-left-preserved : goal.loop-left-preserved
loop-left-preserved g c =
    let within : c.loop-left.left - 1 < length c.args.cells.now = omega (arith, c.loop-left.invariant.few, c.loop-left-test.true) in
    let one : c.loop-left.left ≡ c.loop-left.left - 1 + 1 = omega (arith, c.loop-left-test.true) in
    let here = ap (λ n. flat_map (later_text c.args.tables.now.p c.args.letters.now) (cells_poly c.args.tables.now.parts (take n c.args.cells.now))) one
    ∙ later-cells c.args.tables.now.p c.args.letters.now c.args.tables.now.parts c.args.cells.now (c.loop-left.left - 1) c.cell_at-cell.result within c.cell_at-cell.ensures in
    let term = later-term c.args.tables.now.p c.args.letters.now (c.cell_at-cell.result.1, mono_at c.args.tables.now.parts c.cell_at-cell.result.0) in
    let coefficient = rw c.field.ensures at c.in_ok-write_later_coefficient.ensures in
    record {
      few = omega (arith, c.loop-left.invariant.few);
      writing = Writing-more c.loop-left.invariant.writing (Writes-text term (Writes-then coefficient c.in_ok-write_elem.ensures)) here;
    }

pub returns : goal.returns
returns g c =
    let none : c.loop-left.left ≡ 0 = omega arith in
    Writing-all c.loop-left.invariant.writing (ap (λ n. flat_map (later_text c.args.tables.now.p c.args.letters.now) (cells_poly c.args.tables.now.parts (take n c.args.cells.now))) none)

pub write_later_coefficient-requires : goal.write_later_coefficient-requires
write_later_coefficient-requires g c =
    rw c.field.ensures
    (subst (λ x. x.1 < c.args.tables.now.p) (sym c.cell_at-cell.ensures)
    (c.requires.cells.1 (c.loop-left.left - 1) c.cell_at-cell.result (omega (arith, c.loop-left.invariant.few, c.loop-left-test.true))))

pub write_elem-requires-clause-number : goal.write_elem-requires-clause-number
write_elem-requires-clause-number g c =
    subst (λ x. x.0 < length (elems c.args.tables.now.parts)) (sym c.cell_at-cell.ensures)
    (c.requires.cells.0 (c.loop-left.left - 1) c.cell_at-cell.result (omega (arith, c.loop-left.invariant.few, c.loop-left-test.true)))
