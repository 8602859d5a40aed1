use Rattle.std.proofs.Common.{refl, get_or, []}
use Rattle.alb_table.proofs.ValueLemmas.{multiply_more, none_vector, same_lists}
use Rattle.alb_table.proofs.tables.Tables.multiply.Goals as goal

pub loop-cell-init : goal.loop-cell-init
loop-cell-init c = rw c.new-acc.ensures (none_vector _ _, same_lists _ [] [] refl)

pub loop-cell-preserved : goal.loop-cell-preserved
loop-cell-preserved c =
    let r = c.in_ok-add_times.ensures in (
      r.row,
      multiply_more c.args.self.now.p c.args.self.now.parts c.cells-cell-items.result.now c.args.right.now c.loop-cell.acc c.add_times.new.acc c.loop-cell.cell-index
          (get_or c.cells-cell-items.result.now c.loop-cell.cell-index (0, 0)) (0, 0) c.loop-cell-test.true refl c.loop-cell.invariant.1 r.value,
    )
