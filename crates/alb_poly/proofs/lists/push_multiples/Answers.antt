use Rattle.alb_poly.proofs.Items.{coef_at}
use Rattle.alb_poly.proofs.lists.push_multiples.Goals as goal

pub mul-requires-clause-right : goal.mul-requires-clause-right
mul-requires-clause-right c = coef_at c.args.field.now c.args.list.now c.loop-t.t-index c.t-item.result c.requires.residues c.loop-t-test.true c.t-item.is
