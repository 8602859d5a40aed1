-- Rows that are lent or owned.
use Rattle.alb_rows.specs.Row.{Cells}
use Rattle.alb_table.specs.declared.held.Held.{Held}
use Rattle.alb_table.specs.declared.held.Held.TheVariants.{Lent, Own}

-- the cells of the row
abbrev pub cells_in : Held → Cells
cells_in (Lent row) = row.now
cells_in (Own row) = row
