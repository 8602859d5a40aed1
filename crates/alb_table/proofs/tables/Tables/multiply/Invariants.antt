use Rattle.std.proofs.Common.{take, length}
use Rattle.gf_sums.specs.Sums.{multiply}
use Rattle.alb_rows.specs.Row.{comb, AreSameVector}
use Rattle.alb_table.specs.Table.{elems, table_product}
use Rattle.alb_table.specs.Value.{IsBasisRow}
use Rattle.alb_table.proofs.tables.Tables.multiply.Given as goal

abbrev pub invariant-loop-cell : goal.invariant-loop-cell
invariant-loop-cell l =
    IsBasisRow l.self.p (length (elems l.self.parts)) l.acc
    × AreSameVector l.self.p (comb l.acc) (multiply (table_product l.self.parts) (comb (take l.cell-index l.cell-items)) (comb l.right))
