use Rattle.std.proofs.Common.{take}
use Rattle.gf_sums.specs.Sums.{reindex, scale}
use Rattle.alb_mono.specs.Tree.{tree, Tree, node}
use Rattle.alb_mono.specs.declared.side.Side.TheVariants.{Left}
use Rattle.alb_poly.specs.Consequence.{beside, forms}
use Rattle.alb_rows.specs.Row.{comb}
use Rattle.alb_deriv.specs.Short.{IsSumOf}
use Rattle.alb_table.specs.Block.{spread}
use Rattle.alb_table.specs.Table.{mono_at}
use Rattle.alb_table.specs.Right.{IsWithinDegree}
use Rattle.alb_trace.specs.Adds.{item_of}
use Rattle.alb_trace.specs.Trace.{lines_of, mono_less, PushesItems}
use Rattle.alb_trace.proofs.trace.Trace.add_right_difference.Given as goal

abbrev pub invariant-loop-cell : goal.invariant-loop-cell
invariant-loop-cell l = record {
  pushes : (r : Tree) → IsWithinDegree l.ground.tables.now.target l.ground.tables.now.degree (node (tree l.l) r)
      → IsSumOf l.ground.tables.now.p (forms l.ground.rules.now) (lines_of l.initial.self) (item_of l.cited) (mono_less l.ground.tables.now r)
      → PushesItems (forms l.ground.rules.now) l.ground.tables.now l.initial.self l.self l.initial.sum.items.items l.sum.items.items
      (scale l.c (spread (λ b. reindex (beside (Left, mono_at l.ground.tables.now.parts b)) (mono_less l.ground.tables.now r)) (comb (take l.cell-index l.cell-items))));
}
