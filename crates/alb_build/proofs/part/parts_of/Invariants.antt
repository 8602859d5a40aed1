use Rattle.std.proofs.Common.{length, vec_len}
use Rattle.alb_table.specs.Table.{elems}
use Rattle.alb_build.proofs.PartsSteps.{Makes}
use Rattle.alb_build.proofs.part.parts_of.Given as goal

abbrev pub invariant-loop-block : goal.invariant-loop-block
invariant-loop-block l = Makes l.tables.p (length (elems l.tables.parts)) l.fn.blocks.items l.parts.items l.first l.left.items

abbrev pub decreases-loop-block : goal.decreases-loop-block
decreases-loop-block l = vec_len l.left
