use Rattle.std.proofs.Common.{◌≡◌, get_or, arith, sym}
use Rattle.std.proofs.lemmas.List.{get_or_read}
use Rattle.alb_reduce.proofs.PivotLemmas.{added_agrees, lane_uncleared}
use Rattle.alb_reduce.proofs.steps.clear_lane.Goals as goal

pub returns-in_ok-add_scaled-clause-agrees : goal.returns-in_ok-add_scaled-clause-agrees
returns-in_ok-add_scaled-clause-agrees c w u live pivot long by old =
    added_agrees _ c.neg-factor.result pivot w u live c.args.by.now.lanes.now c.args.lanes.now.items c.add_multiple.new.lanes.items _ _ _ (sym long) (omega (arith, long, c.requires.long)) c.add_multiple.ensures
    c.in_ok-add_scaled.ensures.vector by old

pub returns-else-x-ne0-clause-cleared : goal.returns-else-x-ne0-clause-cleared
returns-else-x-ne0-clause-cleared c =
    let read : c.index-x.result.now ≡ get_or c.args.lanes.now.items c.args.by.now.lane 0 =
    get_or_read c.args.lanes.now.items c.args.by.now.lane _ (omega (arith, c.requires.within, c.requires.long)) c.index-x.ensures 0 in
    lane_uncleared _ c.args.by.now.lane c.args.by.now.lanes.now c.args.lanes.now.items c.requires.lanes_in (omega (arith, read, c.if-x-ne0.false))
