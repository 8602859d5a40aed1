use Rattle.std.proofs.Common.{◌≡◌, ◌+◌, ◌∷◌, [], get_or, drop, arith}
use Rattle.std.proofs.lemmas.List.{drop_more, drop_all, append-nil}
use Rattle.alb_reduce.proofs.EchelonLemmas.{positive}
use Rattle.alb_reduce.proofs.LaneLemmas.{zero_cells}
use Rattle.alb_reduce.proofs.SpreadLemmas.{spread_none}
use Rattle.alb_reduce.proofs.steps.clear.Goals as goal

pub loop-column-init : goal.loop-column-init
loop-column-init c = record {
  recipe_in = c.requires.recipe_in;
  spread = rw c.cells-column-items.ensures.all (spread_none _ _ _ _ _ _ (positive c.requires.held.echelon.above) c.requires.long c.requires.zero);
  agrees = λ w u all by. rw (zero_cells c.args.kept.now.live.items c.args.lanes.now.items c.requires.zero, c.cells-column-items.ensures.all) by;
}

pub loop-column-preserved : goal.loop-column-preserved
loop-column-preserved c =
    let cells = c.cells-column-items.result.now in
    let i = c.loop-column.column-index in
    let more : drop i cells ≡ get_or cells i (0, 0) ∷ drop (i + 1) cells = drop_more cells i (0, 0) c.loop-column-test.true in
    record {
      recipe_in = c.in_ok-spread_cell.ensures.recipe_residues;
      spread = c.in_ok-spread_cell.ensures.spread c.args.row.now (drop (i + 1) cells) (rw more at c.loop-column.invariant.spread);
      agrees = λ w u all by. c.in_ok-spread_cell.ensures.agrees w u (drop (i + 1) cells) all (rw more at c.loop-column.invariant.agrees w u all by);
    }

pub returns-clause-spread : goal.returns-clause-spread
returns-clause-spread c =
    let none : drop c.loop-column.column-index c.cells-column-items.result.now ≡ [] = drop_all c.loop-column.column-index c.cells-column-items.result.now (omega arith) in
    rw none at c.loop-column.invariant.spread

pub returns-clause-agrees : goal.returns-clause-agrees
returns-clause-agrees c w u all by =
    let none : drop c.loop-column.column-index c.cells-column-items.result.now ≡ [] = drop_all c.loop-column.column-index c.cells-column-items.result.now (omega arith) in
    rw (none, append-nil) at c.loop-column.invariant.agrees w u all by
