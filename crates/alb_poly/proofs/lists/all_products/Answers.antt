use Rattle.std.proofs.Common.{arith}
use Rattle.alb_poly.proofs.Items.{coef_at, degree_at}
use Rattle.alb_poly.proofs.lists.all_products.Goals as goal

pub push_products-requires-clause-left : goal.push_products-requires-clause-left
push_products-requires-clause-left c = coef_at c.args.field.now c.args.lefts.now c.loop-s.s-index c.s-item.result c.requires.left c.loop-s-test.true c.s-item.is

pub push_products-requires-clause-small : goal.push_products-requires-clause-small
push_products-requires-clause-small c = omega (arith, degree_at c.args.lefts.now c.loop-s.s-index c.s-item.result c.loop-s-test.true c.s-item.is)
