use Rattle.std.proofs.Common.{arith}
use Rattle.alb_poly.proofs.Items.{coef_at, degree_at}
use Rattle.alb_poly.proofs.lists.push_products.Goals as goal

pub times-requires-clause-right : goal.times-requires-clause-right
times-requires-clause-right c = coef_at c.args.field.now c.args.list.now c.loop-t.t-index c.t-item.result c.requires.right c.loop-t-test.true c.t-item.is

pub times-requires-clause-small : goal.times-requires-clause-small
times-requires-clause-small c = omega (arith, degree_at c.args.list.now c.loop-t.t-index c.t-item.result c.loop-t-test.true c.t-item.is)
