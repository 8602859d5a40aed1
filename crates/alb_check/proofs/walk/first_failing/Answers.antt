use Rattle.alb_poly.specs.Consequence.{form}
use Rattle.alb_check.specs.Raw.{raw}
use Rattle.alb_check.proofs.WalkLemmas.{first_tuple, zero_tuples}
use Rattle.alb_check.proofs.walk.first_failing.Goals as goal

pub returns-then-branch : goal.returns-then-branch
returns-then-branch c = first_tuple c.args.rules.now.field (raw c.args.table.now) (form c.args.linear.now) c.new-tuple.result.items c.walk.new.tuple.items c.new-tuple.ensures.items
    (c.in_ok-walk.ensures.first c.if-branch.true)

pub returns : goal.returns
returns c = zero_tuples c.args.rules.now.field (raw c.args.table.now) (form c.args.linear.now) c.new-tuple.result.items c.new-tuple.ensures.items
    (c.in_ok-walk.ensures.zero c.if-branch.false)
