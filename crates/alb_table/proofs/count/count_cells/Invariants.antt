use Rattle.std.proofs.Common.{◌≡◌, ◌+◌, drop, length}
use Rattle.gf_sums.specs.Sums.{total}
use Rattle.alb_table.proofs.count.count_cells.Given as goal

abbrev pub invariant-loop-row : goal.invariant-loop-row
invariant-loop-row l = l.count + total (λ cells. length cells) (drop l.row-index l.rows) ≡ total (λ cells. length cells) l.rows
