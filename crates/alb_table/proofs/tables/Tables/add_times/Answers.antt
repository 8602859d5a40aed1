use Rattle.std.proofs.Common.{refl, get_or, sym}
use Rattle.std.proofs.lemmas.List.{append-nil}
use Rattle.alb_rows.specs.Row.{comb}
use Rattle.alb_table.proofs.ValueLemmas.{add_more, same_lists}
use Rattle.alb_table.proofs.tables.Tables.add_times.Goals as goal

pub loop-cell-init : goal.loop-cell-init
loop-cell-init c = (c.requires.row, same_lists c.args.self.now.p (comb c.args.acc.now) _ (sym (append-nil (comb c.args.acc.now))))

pub loop-cell-preserved : goal.loop-cell-preserved
loop-cell-preserved c =
    let r = c.in_ok-add_product.ensures in (
      r.row,
      add_more c.args.self.now.p c.args.self.now.parts c.args.x c.args.b c.cells-cell-items.result.now c.loop-cell.acc c.add_product.new.acc c.args.acc.now
          c.loop-cell.cell-index _ (get_or c.cells-cell-items.result.now c.loop-cell.cell-index (0, 0)) (0, 0) c.loop-cell-test.true refl
          (rw c.field-field.ensures at c.mul.ensures.value) c.loop-cell.invariant.1 r.value,
    )
