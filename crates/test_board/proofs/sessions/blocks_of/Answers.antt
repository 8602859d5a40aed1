use Rattle.std.proofs.Common.{◌≡◌, ◌+◌, [], ◌∷◌, ◌++◌, map, arith, ap, ◌∙◌, sym, subst, take, suc}
use Rattle.std.proofs.lemmas.List.{map-append}
use Rattle.alb_mono.specs.Tree.{types_of}
use Rattle.alb_poly.specs.Consequence.{forms}
use Rattle.alb_block.specs.View.{block_view}
use Rattle.alb_build.specs.Next.{AreBlocks, IsNextBlock}
use Rattle.alb_build.proofs.Wide.{type-next, blocks-more}
use Rattle.test_board.proofs.sessions.blocks_of.Goals as goal

pub reduce_block-requires-clause-next : goal.reduce_block-requires-clause-next
reduce_block-requires-clause-next c =
    type-next c.args.tables.now.target (c.args.tables.now.degree + 1) c.deref-t-items.result.now c.loop-t.t-index c.t-item.result
    (c.deref-t-items.ensures.value ∙ c.in_ok-types.ensures ∙ ap (λ w. types_of w (c.degree.result + 1)) c.target.ensures.value
    ∙ ap (λ d. types_of c.args.tables.now.target (d + 1)) c.degree.ensures.value)
    c.loop-t-test.true (sym c.t-item.is)

pub loop-t-preserved : goal.loop-t-preserved
loop-t-preserved c =
    let a : suc c.loop-t.t-index ≡ c.loop-t.t-index + 1 = omega arith in
    let b : IsNextBlock (forms c.args.rules.now) c.args.tables.now c.t-item.result (block_view c.in-Ok.block) =
    record { block = c.in-Ok.ensures.answer; meaning = c.in-Ok.ensures.block } in
    let e : map block_view c.push_block.new.blocks.items ≡ map block_view c.loop-t.blocks.items ++ block_view c.in-Ok.block ∷ [] =
    ap (map block_view) c.in_ok-push_block-in-Ok.ensures ∙ map-append block_view c.loop-t.blocks.items (c.in-Ok.block ∷ []) in
    subst (λ k. AreBlocks (forms c.args.rules.now) c.args.tables.now (take k c.deref-t-items.result.now) (map block_view c.push_block.new.blocks.items)) a
    (subst (AreBlocks (forms c.args.rules.now) c.args.tables.now (take (suc c.loop-t.t-index) c.deref-t-items.result.now)) (sym e)
    (blocks-more (forms c.args.rules.now) c.args.tables.now c.deref-t-items.result.now c.loop-t.t-index (map block_view c.loop-t.blocks.items) c.t-item.result (block_view c.in-Ok.block)
    c.loop-t.invariant c.loop-t-test.true (sym c.t-item.is) b))
