use Rattle.std.proofs.Common.{List, arith, length, refl}
use Rattle.std.specs.List.{flat_map}
use Rattle.std.proofs.lemmas.List.{at_drop_all}
use Rattle.alb_io.proofs.Writers.{Writes-exit, Writing-start, Writing-more, Writing-fails, Writing-all}
use Rattle.alb_table.specs.Grid.{cells_of}
use Rattle.alb_table.specs.declared.grid.Grid.{Grid}
use Rattle.alb_answer.specs.Answers.{product_line}
use Rattle.alb_table.specs.Table.{elems}
use Rattle.alb_answer.proofs.AnswerLemmas.{grids-at, grids-below}
use Rattle.alb_answer.proofs.products.write_grids.Goals as goal

pub loop-i-init : goal.loop-i-init
loop-i-init g c = Writing-start _ refl

pub returns-in_err-write_grid : goal.returns-in_err-write_grid
returns-in_err-write_grid g c =
    Writes-exit _ _ c.from_residual.ensures.1
    (Writing-fails _ c.loop-i.invariant c.in_err-write_grid.ensures
    (grids-at (product_line c.args.tables.now.p c.args.letters.now c.args.tables.now.parts) c.args.grids.now c.loop-i.i c.grid_at.result.now c.loop-i-test.true c.grid_at.ensures))

pub loop-i-preserved : goal.loop-i-preserved
loop-i-preserved g c =
    Writing-more c.loop-i.invariant c.in_ok-write_grid.ensures
    (grids-at (product_line c.args.tables.now.p c.args.letters.now c.args.tables.now.parts) c.args.grids.now c.loop-i.i c.grid_at.result.now c.loop-i-test.true c.grid_at.ensures)

pub write_grid-requires-clause-pairs : goal.write_grid-requires-clause-pairs
write_grid-requires-clause-pairs g c = grids-below (length (elems c.args.tables.now.parts)) c.args.grids.now c.loop-i.i c.grid_at.result.now c.requires.pairs c.loop-i-test.true c.grid_at.ensures

pub returns : goal.returns
returns g c =
    Writing-all c.loop-i.invariant (at_drop_all (λ (l : List Grid). flat_map (product_line c.args.tables.now.p c.args.letters.now c.args.tables.now.parts) (flat_map cells_of l)) c.args.grids.now c.loop-i.i (omega arith))
