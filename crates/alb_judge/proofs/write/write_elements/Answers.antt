use Rattle.std.proofs.Common.{arith, refl}
use Rattle.std.specs.List.{flat_map}
use Rattle.std.proofs.lemmas.List.{at_drop_all}
use Rattle.alb_io.proofs.Writers.{Writes-exit, Writing-start, Writing-more, Writing-fails, Writing-all}
use Rattle.alb_print.proofs.Pieces.{flat-get}
use Rattle.alb_judge.proofs.WriteLemmas.{element_text}
use Rattle.alb_judge.proofs.write.write_elements.Goals as goal

pub loop-element-init : goal.loop-element-init
loop-element-init g c = Writing-start _ refl

pub returns-in_err-write_element : goal.returns-in_err-write_element
returns-in_err-write_element g c =
    Writes-exit _ _ c.from_residual.ensures.1
    (Writing-fails _ c.loop-element.invariant c.in_err-write_element.ensures (flat-get element_text c.args.tuple.now c.loop-element.element-index 0 c.loop-element-test.true))

pub loop-element-preserved : goal.loop-element-preserved
loop-element-preserved g c =
    Writing-more c.loop-element.invariant c.in_ok-write_element.ensures (flat-get element_text c.args.tuple.now c.loop-element.element-index 0 c.loop-element-test.true)

pub returns : goal.returns
returns g c = Writing-all c.loop-element.invariant (at_drop_all (flat_map element_text) c.args.tuple.now c.loop-element.element-index (omega arith))
