use Rattle.std.proofs.Common.{◌∙◌}
use Rattle.alb_check.proofs.SubCode.{kept-at}
use Rattle.alb_check.proofs.sub.product_entries.Goals as goal

pub push_products-requires-clause-left : goal.push_products-requires-clause-left
push_products-requires-clause-left c =
    (kept-at c.args.tables.now c.args.top.now c.deref-left-items.result.now c.loop-left.left-index (c.deref-left-items.ensures.value ∙ c.requires.elements) c.loop-left-test.true).below

pub push_products-requires-clause-within : goal.push_products-requires-clause-within
push_products-requires-clause-within c =
    (kept-at c.args.tables.now c.args.top.now c.deref-left-items.result.now c.loop-left.left-index (c.deref-left-items.ensures.value ∙ c.requires.elements) c.loop-left-test.true).passes
