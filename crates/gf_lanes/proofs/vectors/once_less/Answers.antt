use Rattle.std.proofs.Common.{◌∙◌}
use Rattle.gf_lanes.proofs.LaneLemmas.{once}
use Rattle.gf_lanes.proofs.vectors.once_less.Goals as goal

pub returns-clause-value : goal.returns-clause-value
returns-clause-value c i l =
    c.lesser.ensures.value i l
    ∙ rw (c.wrapping_minus.ensures.value i l, c.splat.ensures.value i l) (once c.args.p _ c.requires.above c.requires.small (c.requires.below i l))
