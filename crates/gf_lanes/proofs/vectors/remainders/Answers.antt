use Rattle.std.proofs.Common.{get_or, ◌∙◌, arith}
use Rattle.gf_lanes.proofs.LaneLemmas.{estimated_once, inverse_fits, less_multiple}
use Rattle.gf_lanes.proofs.vectors.remainders.Goals as goal

pub overflow_cast-m-2 : goal.overflow_cast-m-2
overflow_cast-m-2 c = record { fits = inverse_fits c.args.p c.requires.above_one }

pub times-requires-clause-fits : goal.times-requires-clause-fits
times-requires-clause-fits c i l =
    let both = estimated_once c.args.p (get_or c.args.x i 0) (omega (arith, c.requires.above_one)) (c.requires.fits i l) in
    rw (c.upper_halves-q.ensures.value i l, c.splat.ensures.value i l, c.splat-2.ensures.value i l) (omega (arith, both.0, c.requires.fits i l))

pub minus-requires-clause-fits : goal.minus-requires-clause-fits
minus-requires-clause-fits c i l =
    let both = estimated_once c.args.p (get_or c.args.x i 0) (omega (arith, c.requires.above_one)) (c.requires.fits i l) in
    rw (c.times.ensures.value i l, c.upper_halves-q.ensures.value i l, c.splat.ensures.value i l, c.splat-2.ensures.value i l) both.0

pub once_less-requires-clause-below : goal.once_less-requires-clause-below
once_less-requires-clause-below c i l =
    let both = estimated_once c.args.p (get_or c.args.x i 0) (omega (arith, c.requires.above_one)) (c.requires.fits i l) in
    rw (c.minus.ensures.value i l, c.times.ensures.value i l, c.upper_halves-q.ensures.value i l, c.splat.ensures.value i l, c.splat-2.ensures.value i l) (omega (arith, both.0, both.1))

pub returns-clause-value : goal.returns-clause-value
returns-clause-value c i l =
    let both = estimated_once c.args.p (get_or c.args.x i 0) (omega (arith, c.requires.above_one)) (c.requires.fits i l) in
    c.once_less.ensures.value i l
    ∙ rw (c.minus.ensures.value i l, c.times.ensures.value i l, c.upper_halves-q.ensures.value i l, c.splat.ensures.value i l, c.splat-2.ensures.value i l)
    (less_multiple c.args.p (get_or c.args.x i 0) _ both.0)
