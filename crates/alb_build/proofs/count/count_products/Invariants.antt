use Rattle.std.proofs.Common.{◌≡◌, ◌+◌, drop, map}
use Rattle.alb_block.specs.View.{block_view}
use Rattle.alb_build.specs.Part.{count_columns}
use Rattle.alb_build.proofs.count.count_products.Given as goal

abbrev pub invariant-loop-block : goal.invariant-loop-block
invariant-loop-block l = l.count + count_columns (map block_view (drop l.block-index l.blocks)) ≡ count_columns (map block_view l.blocks)
