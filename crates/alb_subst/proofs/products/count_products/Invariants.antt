use Rattle.std.proofs.Common.{◌≡◌, ◌+◌, drop}
use Rattle.gf_sums.specs.Sums.{total}
use Rattle.alb_subst.specs.Products.{split_size}
use Rattle.alb_subst.proofs.products.count_products.Given as goal

abbrev pub invariant-loop-pair : goal.invariant-loop-pair
invariant-loop-pair l = l.count + total (split_size l.tables.parts) (drop l.pair-index l.pairs) ≡ total (split_size l.tables.parts) l.pairs
