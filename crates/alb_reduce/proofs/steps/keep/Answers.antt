use Rattle.alb_reduce.proofs.StateLemmas.{keeps_from_same}
use Rattle.alb_reduce.proofs.steps.keep.Goals as goal

pub fit_lanes-requires : goal.fit_lanes-requires
fit_lanes-requires c = (c.args.field.now, c.requires.ready)

pub keep_row-requires-clause-covers : goal.keep_row-requires-clause-covers
keep_row-requires-clause-covers c = c.in_ok-fit_lanes.ensures.covers c.args.field.now c.requires.ready

pub returns-clause-keeps : goal.returns-clause-keeps
returns-clause-keeps c = keeps_from_same _ _ _ _ _ _ _ (c.in_ok-fit_lanes.ensures.same c.args.field.now c.requires.ready) c.in_ok-offered.ensures.keeps
