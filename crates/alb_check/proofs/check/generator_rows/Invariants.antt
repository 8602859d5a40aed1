use Rattle.std.proofs.Common.{◌≡◌, map, take}
use Rattle.alb_check.proofs.CheckLemmas.{generator_row}
use Rattle.alb_check.proofs.check.generator_rows.Given as goal

abbrev pub invariant-loop-number : goal.invariant-loop-number
invariant-loop-number l = l.rows.items ≡ map generator_row (take l.number-index l.table.generators.items)
