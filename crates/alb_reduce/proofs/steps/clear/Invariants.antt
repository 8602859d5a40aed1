use Rattle.std.proofs.Common.{ℕ, ◌++◌, drop}
use Rattle.alb_rows.specs.Row.{IsRowOver}
use Rattle.alb_reduce.specs.Lanes.{lane_cells}
use Rattle.alb_reduce.specs.Echelon.{kept_rows, Agrees, AllAgree, IsSpread}
use Rattle.alb_reduce.proofs.steps.clear.Given as goal

abbrev pub invariant-loop-column : goal.invariant-loop-column
invariant-loop-column l = record {
  recipe_in : IsRowOver l.field l.recipe;
  spread : IsSpread l.field l.kept.live.items l.kept.pivots.items (kept_rows l.kept) l.row l.lanes.items (drop l.column-index l.column-items);
  agrees : (w u : ℕ → ℕ) → AllAgree l.field w u l.kept.recipes.items (kept_rows l.kept) → Agrees l.field w u l.fn.recipe l.row
      → Agrees l.field w u l.recipe (lane_cells l.kept.live.items l.lanes.items ++ drop l.column-index l.column-items);
}
