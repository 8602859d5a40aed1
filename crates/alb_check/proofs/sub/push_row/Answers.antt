use Rattle.std.proofs.Common.{get_or}
use Rattle.alb_check.proofs.SubCode.{row-push}
use Rattle.alb_check.proofs.sub.push_row.Goals as goal

pub loop-cell-preserved : goal.loop-cell-preserved
loop-cell-preserved c =
    row-push (λ cell. record { left = get_or c.args.numbers.now c.args.left 0; right = get_or c.args.numbers.now c.args.right 0; to = get_or c.args.numbers.now cell.0 0; coef = cell.1 })
    c.cells-cell-items.result.now c.args.entries.now.items c.loop-cell.entries.items c.push.new.self.items c.loop-cell.cell-index (0, 0) c.loop-cell-test.true
    c.loop-cell.invariant c.in_ok-push.ensures.items
