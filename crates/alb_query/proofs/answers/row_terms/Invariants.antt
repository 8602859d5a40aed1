use Rattle.std.proofs.Common.{◌≡◌, take}
use Rattle.gf_sums.specs.Sums.{reindex}
use Rattle.alb_poly.specs.Terms.{terms}
use Rattle.alb_rows.specs.Row.{comb}
use Rattle.alb_table.specs.Table.{mono_at}
use Rattle.alb_query.proofs.answers.row_terms.Given as goal

abbrev pub invariant-loop-cell : goal.invariant-loop-cell
invariant-loop-cell l = terms l.list.items ≡ reindex (mono_at l.tables.parts) (comb (take l.cell-index l.row))
