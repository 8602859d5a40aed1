use Rattle.alb_reduce.proofs.DropLemmas.{same-through}
use Rattle.alb_reduce.proofs.steps.fit_lanes.Goals as goal

pub drop_lanes-requires : goal.drop_lanes-requires
drop_lanes-requires c = record { held = (c.requires.0, (c.in_ok-open_lanes.ensures.ready c.requires.0 c.requires.1).held) }

pub returns-in_ok-drop_lanes-clause-ready : goal.returns-in_ok-drop_lanes-clause-ready
returns-in_ok-drop_lanes-clause-ready c p r = c.in_ok-drop_lanes.ensures.ready p c.args.columns (c.in_ok-open_lanes.ensures.ready p r)

pub returns-in_ok-drop_lanes-clause-covers : goal.returns-in_ok-drop_lanes-clause-covers
returns-in_ok-drop_lanes-clause-covers c p r =
    c.in_ok-drop_lanes.ensures.covers p c.args.columns (c.in_ok-open_lanes.ensures.ready p r) (c.in_ok-open_lanes.ensures.covers p r)

pub returns-in_ok-drop_lanes-clause-same : goal.returns-in_ok-drop_lanes-clause-same
returns-in_ok-drop_lanes-clause-same c p r =
    same-through _ _ _ c.in_ok-open_lanes.ensures.same (c.in_ok-drop_lanes.ensures.same p c.args.columns (c.in_ok-open_lanes.ensures.ready p r))
