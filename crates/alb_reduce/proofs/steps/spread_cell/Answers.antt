use Rattle.std.proofs.Common.{ℕ, ◌++◌, ◌∷◌, subst, sym}
use Rattle.alb_reduce.specs.Lanes.{lane_cells}
use Rattle.alb_reduce.specs.Echelon.{kept_rows, Agrees, IsSpread}
use Rattle.alb_reduce.proofs.EchelonLemmas.{positive}
use Rattle.alb_reduce.proofs.SpreadLemmas.{agrees_same, put_entries, spread_put}
use Rattle.alb_reduce.proofs.steps.spread_cell.Goals as goal

pub returns-in-None-clause-spread : goal.returns-in-None-clause-spread
returns-in-None-clause-spread c row rest s =
    let none = c.in-None.ensures c.args.kept.now.pivots.items (rw c.deref.ensures.value c.requires.held.index) in
    spread_put _ _ _ _ row _ _ c.args.column c.args.x rest (positive c.requires.held.echelon.above) none c.put_lane.ensures s

pub returns-in-None-clause-agrees : goal.returns-in-None-clause-agrees
returns-in-None-clause-agrees c w u rest all by =
    agrees_same _ w u _ _ _ (λ j. put_entries _ _ _ _ c.args.column c.args.x rest j c.requires.long c.put_lane.ensures) by

pub returns-in_ok-take_off-in-Some-clause-spread : goal.returns-in_ok-take_off-in-Some-clause-spread
returns-in_ok-take_off-in-Some-clause-spread c row rest s =
    let found = c.in-Some.ensures c.args.kept.now.pivots.items (rw c.deref.ensures.value c.requires.held.index) in
    c.in_ok-take_off-in-Some.ensures.spread row rest
    (subst (λ (n : ℕ). IsSpread c.args.field.now c.args.kept.now.live.items c.args.kept.now.pivots.items (kept_rows c.args.kept.now) row c.args.lanes.now.items ((n, c.args.x) ∷ rest))
    (sym found.1) s)

pub returns-in_ok-take_off-in-Some-clause-agrees : goal.returns-in_ok-take_off-in-Some-clause-agrees
returns-in_ok-take_off-in-Some-clause-agrees c w u rest all by =
    let found = c.in-Some.ensures c.args.kept.now.pivots.items (rw c.deref.ensures.value c.requires.held.index) in
    c.in_ok-take_off-in-Some.ensures.agrees w u rest all
    (subst (λ (n : ℕ). Agrees c.args.field.now w u c.args.recipe.now (lane_cells c.args.kept.now.live.items c.args.lanes.now.items ++ (n, c.args.x) ∷ rest))
    (sym found.1) by)
