use Rattle.std.proofs.Common.{take, length}
use Rattle.alb_rows.specs.Row.{comb, AreSameVector}
use Rattle.alb_poly.specs.Terms.{terms}
use Rattle.alb_table.specs.Table.{elems}
use Rattle.alb_table.specs.Value.{IsBasisRow, table_value}
use Rattle.alb_table.proofs.tables.Tables.value.Given as goal

abbrev pub invariant-loop-t : goal.invariant-loop-t
invariant-loop-t l =
    IsBasisRow l.self.p (length (elems l.self.parts)) l.acc
    × AreSameVector l.self.p (comb l.acc) (table_value l.self (terms (take l.t-index l.t-items)))
