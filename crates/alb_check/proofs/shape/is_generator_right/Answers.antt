use Rattle.alb_check.specs.Raw.{raw}
use Rattle.alb_check.proofs.ShapeLemmas.{own_type}
use Rattle.alb_check.proofs.shape.is_generator_right.Goals as goal

pub returns : goal.returns
returns c = rw c.in-Some.is
    (own_type (raw c.args.table.now) c.args.g c.in-Some.k c.in-Some-element.at.now c.is_same.result c.in-Some-element.ensures.0 c.in-Some-element.ensures.1
    (rw (c.type_of.ensures, c.counts.ensures.value) at c.is_same.ensures))
