use Rattle.std.proofs.Common.{◌≡◌, length, arith, rules, subst, sym}
use Rattle.alb_rows.specs.Row.{Cells}
use Rattle.alb_reduce.specs.Lanes.{lane_cells}
use Rattle.alb_reduce.specs.Echelon.{kept_rows, IsCleared}
use Rattle.alb_reduce.proofs.EchelonLemmas.{cleared_at_pivots, differs_none, no_pivot, positive}
use Rattle.alb_reduce.proofs.LaneLemmas.{cells_row}
use Rattle.alb_reduce.proofs.SpreadLemmas.{spread_cleared}
use Rattle.alb_reduce.proofs.StateLemmas.{reduced_below}
use Rattle.alb_reduce.proofs.echelon.Echelon.reduce.Goals as goal

pub returns-then-is_empty-clause-differs : goal.returns-then-is_empty-clause-differs
returns-then-is_empty-clause-differs c = differs_none _ _ _

pub returns-then-is_empty-clause-zero : goal.returns-then-is_empty-clause-zero
returns-then-is_empty-clause-zero c column is =
    let none : length c.self.inside.kept.pivots.items ≡ 0 = search rules in
    absurd (no_pivot _ c.self.inside.kept.pivots.items _ column c.self.invariant.state.kept.echelon (λ i l. absurd (omega arith)) (rw (← c.self.view_is) at is))

pub row_of_lanes-requires-clause-row : goal.row_of_lanes-requires-clause-row
row_of_lanes-requires-clause-row c =
    rw (c.deref.ensures.value, c.deref-2.ensures.value) (cells_row _ _ c.self.invariant.ready.held.laid.ascending)

-- the row that is given back
cleared : (c : goal.After-drop-row-inside-2)
    → IsCleared c.self.inside.field c.self.inside.kept.pivots.items (kept_rows c.self.inside.kept) c.args.row c.in_ok-reduced.reduced
cleared c =
    let kept = c.self.inside.kept in
    let is : c.in_ok-reduced.reduced ≡ lane_cells kept.live.items c.clear.new.lanes.items = rw (c.deref.ensures.value, c.deref-2.ensures.value) at c.in_ok-reduced.ensures in
    subst (λ (w : Cells). IsCleared c.self.inside.field kept.pivots.items (kept_rows kept) c.args.row w) (sym is)
    (spread_cleared _ kept.live.items kept.pivots.items (kept_rows kept) c.args.row c.clear.new.lanes.items c.self.invariant.ready.held.laid.ascending c.in_ok-clear.ensures.spread)

pub returns-clause-differs : goal.returns-clause-differs
returns-clause-differs c = rw (← c.self.view_is) (cleared c).differs

pub returns-clause-row : goal.returns-clause-row
returns-clause-row c = rw (← c.self.view_is) (cleared c).residues

pub returns-clause-zero : goal.returns-clause-zero
returns-clause-zero c column is =
    let kept = c.self.invariant.state.kept.echelon in
    cleared_at_pivots _ _ _ _ _ column (positive kept.above) kept (cleared c) (rw (← c.self.view_is) at is)

pub returns-clause-columns : goal.returns-clause-columns
returns-clause-columns c =
    rw (← c.self.view_is) (reduced_below _ _ _ _ _ _ c.self.invariant.state.kept (rw (← c.self.view_is) at c.requires.columns_in) (cleared c))
