use Rattle.std.proofs.Common.{arith}
use Rattle.alb_subst.proofs.ProductLemmas.{range-fits}
use Rattle.alb_subst.proofs.products.all_products.Goals as goal

pub push_rectangle-requires-clause-left : goal.push_rectangle-requires-clause-left
push_rectangle-requires-clause-left c =
    let f = c.basis.ensures.first in let d = c.basis.ensures.count in let h = range-fits c.args.tables.now.parts c.pair-item.result.0 c.requires in omega (arith, f, d, h)

pub push_rectangle-requires-clause-right : goal.push_rectangle-requires-clause-right
push_rectangle-requires-clause-right c =
    let f = c.basis-in-loop-pair.ensures.first in let d = c.basis-in-loop-pair.ensures.count in let h = range-fits c.args.tables.now.parts c.pair-item.result.1 c.requires in
    omega (arith, f, d, h)
