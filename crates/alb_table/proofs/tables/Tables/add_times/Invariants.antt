use Rattle.std.proofs.Common.{take, length, ◌++◌}
use Rattle.alb_rows.specs.Row.{comb, AreSameVector}
use Rattle.alb_table.specs.Table.{elems}
use Rattle.alb_table.specs.Value.{IsBasisRow, times_right}
use Rattle.alb_table.proofs.tables.Tables.add_times.Given as goal

abbrev pub invariant-loop-cell : goal.invariant-loop-cell
invariant-loop-cell l =
    IsBasisRow l.self.p (length (elems l.self.parts)) l.acc
    × AreSameVector l.self.p (comb l.acc) (comb l.initial.acc ++ times_right l.self.parts l.x l.b (comb (take l.cell-index l.cell-items)))
