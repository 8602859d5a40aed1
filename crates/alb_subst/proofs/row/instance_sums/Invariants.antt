use Rattle.std.proofs.Common.{◌≡◌, ◌<◌, All, take, length, replicate}
use Rattle.alb_poly.specs.Terms.{terms}
use Rattle.alb_table.specs.Table.{table_product}
use Rattle.alb_table.specs.Value.{vectors}
use Rattle.alb_table.specs.Block.{image, spread}
use Rattle.alb_subst.specs.Sums.{AddsAtColumns}
use Rattle.alb_subst.proofs.row.instance_sums.Given as goal

abbrev pub invariant-loop-t : goal.invariant-loop-t
invariant-loop-t l = record {
  len : length l.sums.items ≡ length l.columns;
  residues : All (λ y. y < l.tables.p) l.sums.items;
  adds : AddsAtColumns l.tables.p l.columns (replicate (length l.columns) 0) l.sums.items
      (spread (image (λ b c. (b, c)) (table_product l.tables.parts) (vectors l.rows.items)) (terms (take l.t-index l.t-items)));
}
