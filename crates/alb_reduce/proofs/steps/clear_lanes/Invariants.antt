use Rattle.std.proofs.Common.{◌≡◌, ℕ, List, length, map}
use Rattle.std.specs.List.{All}
use Rattle.alb_rows.specs.Row.{IsRowOver}
use Rattle.alb_reduce.specs.Lanes.{lane_cells, lane_rows, AreLanesCleared}
use Rattle.alb_reduce.specs.Echelon.{RecipesFollow}
use Rattle.alb_reduce.proofs.steps.clear_lanes.Given as goal

abbrev pub invariant-loop-k : goal.invariant-loop-k
invariant-loop-k l = record {
  rows : AreLanesCleared l.field l.by.lane l.by.lanes.now (map (λ v. v.items) l.fn.rows.items) (map (λ v. v.items) l.rows.items) l.k;
  long : length l.recipes.items ≡ length l.fn.recipes.items;
  residues : All (IsRowOver l.field) l.recipes.items;
  recipes : (live pivots : List ℕ) → length live ≡ length l.by.lanes.now → length pivots ≡ length l.fn.rows.items
      → RecipesFollow l.field l.by.recipe.now (lane_cells live l.by.lanes.now) l.fn.recipes.items (lane_rows live pivots (map (λ v. v.items) l.fn.rows.items))
      l.recipes.items (lane_rows live pivots (map (λ v. v.items) l.rows.items));
}
