use Rattle.std.proofs.Common.{[]}
use Rattle.alb_subst.specs.Tuples.{AreTuples, AreLeastTuples}
use Rattle.alb_subst.proofs.LeastLemmas.{all-listing, ok_weaker}
use Rattle.alb_subst.proofs.instances.Instances.open.Goals as goal

pub returns : goal.returns
returns c =
    ok_weaker (AreLeastTuples c.args.tables.now.parts c.args.f.now.degree c.args.t.now []) (AreTuples c.args.tables.now.parts c.args.f.now.degree c.args.t.now) c.opened.result
    (all-listing c.args.tables.now.parts c.args.f.now.degree c.args.t.now) c.opened.ensures
