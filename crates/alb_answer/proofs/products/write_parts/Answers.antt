use Rattle.std.proofs.Common.{arith, length, ◌≡◌, refl}
use Rattle.std.specs.List.{flat_map}
use Rattle.std.proofs.lemmas.List.{at_drop_all}
use Rattle.alb_io.proofs.Writers.{Writes-exit, Writing-start, Writing-more, Writing-fails, Writing-all}
use Rattle.alb_answer.specs.Answers.{part_lines}
use Rattle.alb_answer.proofs.AnswerLemmas.{parts-at}
use Rattle.alb_answer.proofs.products.write_parts.Goals as goal

pub loop-k-init : goal.loop-k-init
loop-k-init g c = Writing-start _ refl

pub returns-in_err-write_grids : goal.returns-in_err-write_grids
returns-in_err-write_grids g c =
    let count : c.type_count-k-end.result ≡ length c.args.tables.now.parts = c.type_count-k-end.ensures in
    Writes-exit _ _ c.from_residual.ensures.1
    (Writing-fails _ c.loop-k.invariant (rw c.grids.ensures.cells at c.in_err-write_grids.ensures)
    (parts-at (part_lines c.args.tables.now.p c.args.letters.now c.args.tables.now.parts) c.args.tables.now.parts c.loop-k.k (omega arith)))

pub loop-k-preserved : goal.loop-k-preserved
loop-k-preserved g c =
    let count : c.type_count-k-end.result ≡ length c.args.tables.now.parts = c.type_count-k-end.ensures in
    Writing-more c.loop-k.invariant (rw c.grids.ensures.cells at c.in_ok-write_grids.ensures)
    (parts-at (part_lines c.args.tables.now.p c.args.letters.now c.args.tables.now.parts) c.args.tables.now.parts c.loop-k.k (omega arith))

pub returns : goal.returns
returns g c =
    let count : c.type_count-k-end.result ≡ length c.args.tables.now.parts = c.type_count-k-end.ensures in
    Writing-all c.loop-k.invariant (at_drop_all (flat_map (part_lines c.args.tables.now.p c.args.letters.now c.args.tables.now.parts)) c.args.tables.now.parts c.loop-k.k (omega arith))
