use Rattle.std.proofs.Common.{arith, length, ◌≡◌, ap, refl}
use Rattle.std.specs.List.{flat_map}
use Rattle.std.proofs.lemmas.List.{at_drop_all}
use Rattle.alb_io.proofs.Writers.{Writes-exit, Writes-text, Writing-start, Writing-more, Writing-fails, Writing-all}
use Rattle.alb_answer.specs.Answers.{dimension_line}
use Rattle.alb_answer.proofs.AnswerLemmas.{parts-at}
use Rattle.alb_answer.proofs.products.write_types.Goals as goal

pub loop-k-init : goal.loop-k-init
loop-k-init g c = Writing-start _ refl

pub returns-in_err-write_dimension : goal.returns-in_err-write_dimension
returns-in_err-write_dimension g c =
    let count : c.type_count-k-end.result ≡ length c.args.tables.now.parts = c.type_count-k-end.ensures in
    Writes-exit _ _ c.from_residual.ensures.1
    (Writing-fails _ c.loop-k.invariant (Writes-text (ap dimension_line c.part.ensures) c.in_err-write_dimension.ensures)
    (parts-at dimension_line c.args.tables.now.parts c.loop-k.k (omega arith)))

pub loop-k-preserved : goal.loop-k-preserved
loop-k-preserved g c =
    let count : c.type_count-k-end.result ≡ length c.args.tables.now.parts = c.type_count-k-end.ensures in
    Writing-more c.loop-k.invariant (Writes-text (ap dimension_line c.part.ensures) c.in_ok-write_dimension.ensures)
    (parts-at dimension_line c.args.tables.now.parts c.loop-k.k (omega arith))

pub returns : goal.returns
returns g c =
    let count : c.type_count-k-end.result ≡ length c.args.tables.now.parts = c.type_count-k-end.ensures in
    Writing-all c.loop-k.invariant (at_drop_all (flat_map dimension_line) c.args.tables.now.parts c.loop-k.k (omega arith))
