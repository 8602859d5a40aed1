use Rattle.std.proofs.Common.{arith}
use Rattle.alb_syntax.proofs.Kept.{within-few, within-many, poly-low, poly-length}
use Rattle.alb_syntax.proofs.operations.within.Goals as goal

pub returns-then-count-gt-MAX_TERMS-clause-value : goal.returns-then-count-gt-MAX_TERMS-clause-value
returns-then-count-gt-MAX_TERMS-clause-value c =
    within-many c.args.place c.args.f (poly-low c.terms.result.now c.args.f c.terms.ensures.value) (omega (arith, poly-length c.terms.result.now c.args.f c.terms.ensures.value))

pub returns-clause-value : goal.returns-clause-value
returns-clause-value c =
    within-few c.args.place c.args.f (poly-low c.terms.result.now c.args.f c.terms.ensures.value) (omega (arith, poly-length c.terms.result.now c.args.f c.terms.ensures.value))

pub returns-clause-few : goal.returns-clause-few
returns-clause-few c = omega (arith, poly-length c.terms.result.now c.args.f c.terms.ensures.value)
