use Rattle.std.proofs.Common.{◌≡◌, take}
use Rattle.alb_table.specs.Table.{products_of}
use Rattle.alb_subst.proofs.products.all_products.Given as goal

abbrev pub invariant-loop-pair : goal.invariant-loop-pair
invariant-loop-pair l = l.out.items ≡ products_of l.tables.parts (take l.pair-index l.pairs)
