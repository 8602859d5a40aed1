use Rattle.std.proofs.Common.{map, take}
use Rattle.alb_poly.specs.Consequence.{forms}
use Rattle.alb_block.specs.View.{block_view}
use Rattle.alb_build.specs.Next.{AreBlocks}
use Rattle.alb_pool.specs.Work.{ArePlaces}
use Rattle.alb_pool.proofs.blocks.in_order.Given as goal

abbrev pub invariant-loop-number : goal.invariant-loop-number
invariant-loop-number l = record {
  places : ArePlaces l.degree l.places.items;
  blocks : AreBlocks (forms l.degree.rules.now) l.degree.tables.now (take l.number l.degree.types.now) (map block_view l.blocks.items);
}
