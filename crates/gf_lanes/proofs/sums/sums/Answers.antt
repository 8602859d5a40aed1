use Rattle.std.proofs.Common.{get_or, ◌∙◌, arith}
use Rattle.gf_lanes.proofs.LaneLemmas.{sum_fits}
use Rattle.gf_lanes.proofs.sums.sums.Goals as goal

pub times-requires-clause-fits : goal.times-requires-clause-fits
times-requires-clause-fits c i l =
    rw (c.splat.ensures.value i l)
    (omega (arith, sum_fits c.args.p (get_or c.args.d i 0) c.args.c (get_or c.args.s i 0) c.requires.small (c.requires.left i l) c.requires.multiplier (c.requires.right i l)))

pub plus-requires-clause-fits : goal.plus-requires-clause-fits
plus-requires-clause-fits c i l =
    rw (c.times.ensures.value i l, c.splat.ensures.value i l)
    (sum_fits c.args.p (get_or c.args.d i 0) c.args.c (get_or c.args.s i 0) c.requires.small (c.requires.left i l) c.requires.multiplier (c.requires.right i l))

pub remainders-requires-clause-fits : goal.remainders-requires-clause-fits
remainders-requires-clause-fits c i l =
    rw (c.plus.ensures.value i l, c.times.ensures.value i l, c.splat.ensures.value i l)
    (sum_fits c.args.p (get_or c.args.d i 0) c.args.c (get_or c.args.s i 0) c.requires.small (c.requires.left i l) c.requires.multiplier (c.requires.right i l))

pub returns-clause-value : goal.returns-clause-value
returns-clause-value c i l =
    c.remainders.ensures.value i l ∙ rw (c.plus.ensures.value i l, c.times.ensures.value i l, c.splat.ensures.value i l)
