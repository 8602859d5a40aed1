use Rattle.std.proofs.Common.{◌≡◌, ◌++◌, take, get_or}
use Rattle.alb_check.specs.SubTable.{row_entries}
use Rattle.alb_check.proofs.sub.push_row.Given as goal

abbrev pub invariant-loop-cell : goal.invariant-loop-cell
invariant-loop-cell l = l.entries.items ≡ l.initial.entries.items ++ row_entries (λ b. get_or l.numbers b 0) l.left l.right (take l.cell-index l.cell-items)
