use Rattle.std.proofs.Common.{map, take}
use Rattle.alb_poly.specs.Consequence.{forms}
use Rattle.alb_block.specs.View.{block_view}
use Rattle.alb_build.specs.Next.{AreBlocks}
use Rattle.test_board.proofs.sessions.blocks_of.Given as goal

abbrev pub invariant-loop-t : goal.invariant-loop-t
invariant-loop-t l = AreBlocks (forms l.rules) l.tables (take l.t-index l.t-items) (map block_view l.blocks.items)
