use Rattle.alb_linear.proofs.RunLemmas.{one-grown, one-begun}
use Rattle.alb_linear.proofs.runs.longer.Goals as goal

pub returns-in-Some-clause-joins : goal.returns-in-Some-clause-joins
returns-in-Some-clause-joins c =
    one-grown c.args.runs.items c.pop.new.self.items c.push-in-Some.new.self.items c.in-Some.n c.args.joins c.requires.positive c.in-Some.ensures.items
    c.push-in-Some.ensures.items c.if-joins.true

pub returns-clause-joins : goal.returns-clause-joins
returns-clause-joins c = one-begun c.args.runs.items c.push-2.new.self.items c.args.joins c.push-2.ensures.items c.if-joins.false
