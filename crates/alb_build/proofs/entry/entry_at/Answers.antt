use Rattle.std.proofs.Common.{arith, ◌≡◌, ◌-◌, ◌∙◌, ◌∷◌, [], sym, subst, get_or, refl, length}
use Rattle.alb_rows.specs.Row.{ColumnsBelow, Cells}
use Rattle.alb_build.specs.Part.{IsNewEntry, IsPivotEntry}
use Rattle.alb_build.proofs.EntryRows.{numbers-long, pivot-row, new-free, new-pivot, ok_from}
use Rattle.alb_build.proofs.entry.entry_at.Goals as goal

pub bounds-numbers-k : goal.bounds-numbers-k
bounds-numbers-k c = omega (arith, c.requires.place, numbers-long c.args.block.now.reduced _ c.args.numbers.now c.requires.numbers)

pub pivot_cells-requires-clause-columns : goal.pivot_cells-requires-clause-columns
pivot_cells-requires-clause-columns c =
    subst (λ n. ColumnsBelow n c.in-Some.row.now) (c.requires.width ∙ sym (numbers-long c.args.block.now.reduced _ c.args.numbers.now c.requires.numbers)) c.in-Some.ensures.columns

pub pivot_cells-requires-clause-few : goal.pivot_cells-requires-clause-few
pivot_cells-requires-clause-few c = omega (arith, c.len.ensures.few, c.len.ensures.value, numbers-long c.args.block.now.reduced _ c.args.numbers.now c.requires.numbers)

pub from_cells-requires : goal.from_cells-requires
from_cells-requires c =
    let row = pivot-row c.args.block.now.reduced (length c.args.block.now.columns) c.args.numbers.now _ c.in-Some.row.now c.in_ok-cells-in-Some.cells.items c.requires.numbers
    c.in-Some.ensures.reduced c.in-Some.ensures.leads c.in-Some.ensures.row (subst (λ n. ColumnsBelow n c.in-Some.row.now) c.requires.width c.in-Some.ensures.columns)
    (subst (λ p. IsPivotEntry p c.args.numbers.now c.in-Some.row.now c.in_ok-cells-in-Some.cells.items) (sym c.requires.field) c.in_ok-cells-in-Some.ensures) in
    row.row

pub returns-in-None : goal.returns-in-None
returns-in-None c =
    let n = numbers-long c.args.block.now.reduced _ c.args.numbers.now c.requires.numbers in
    let z : c.len.result - 1 - c.args.k ≡ length c.args.numbers.now - 1 - c.args.k = omega (arith, n, c.len.ensures.value) in
    ok_from c.unit.result (λ (r : Cells). r ≡ (get_or c.args.numbers.now c.args.k 0, 1) ∷ []) (IsNewEntry c.args.block.now.reduced c.args.numbers.now c.args.k) c.unit.ensures.value
    (λ r h. new-free c.args.block.now.reduced c.args.numbers.now c.args.k (c.len.result - 1 - c.args.k) r z (λ v. (let x = c.in-None.ensures.exactly.1 v in absurd (cc))) h)

pub returns-in_ok-cells-in-Some : goal.returns-in_ok-cells-in-Some
returns-in_ok-cells-in-Some c =
    let n = numbers-long c.args.block.now.reduced _ c.args.numbers.now c.requires.numbers in
    let z : c.len.result - 1 - c.args.k ≡ length c.args.numbers.now - 1 - c.args.k = omega (arith, n, c.len.ensures.value) in
    subst (IsNewEntry c.args.block.now.reduced c.args.numbers.now c.args.k) (sym c.from_cells.ensures)
    (new-pivot c.args.block.now.reduced (length c.args.numbers.now) c.args.numbers.now c.args.k (c.len.result - 1 - c.args.k) c.in-Some.row.now c.in_ok-cells-in-Some.cells.items z
    (c.in-Some.ensures.exactly.0 refl) c.in-Some.ensures.reduced c.in-Some.ensures.leads c.in-Some.ensures.row c.in-Some.ensures.columns
    (subst (λ p. IsPivotEntry p c.args.numbers.now c.in-Some.row.now c.in_ok-cells-in-Some.cells.items) (sym c.requires.field) c.in_ok-cells-in-Some.ensures))
