use Rattle.std.proofs.Common.{◌+◌, arith, refl}
use Rattle.alb_evidence.specs.Texts.{element_text}
use Rattle.alb_evidence.proofs.WriteLemmas.{counted-at, counted-end}
use Rattle.alb_io.proofs.Writers.{Writes-exit, Writing-start, Writing-more, Writing-fails, Writing-all}
use Rattle.alb_evidence.proofs.basis.write_elements.Goals as goal

pub loop-i-init : goal.loop-i-init
loop-i-init g c = Writing-start _ refl

pub returns-in_err-write_element : goal.returns-in_err-write_element
returns-in_err-write_element g c =
    let here = counted-at element_text (c.loop-i.i + 1) c.args.elements.now c.loop-i.i c.index-elements-i.result c.loop-i-test.true c.index-elements-i.is in
    Writes-exit _ _ c.from_residual.ensures.1 (Writing-fails _ c.loop-i.invariant c.in_err-write_element.ensures here)

pub loop-i-preserved : goal.loop-i-preserved
loop-i-preserved g c =
    let here = counted-at element_text (c.loop-i.i + 1) c.args.elements.now c.loop-i.i c.index-elements-i.result c.loop-i-test.true c.index-elements-i.is in
    Writing-more c.loop-i.invariant c.in_ok-write_element.ensures here

pub returns : goal.returns
returns g c = Writing-all c.loop-i.invariant (counted-end element_text (c.loop-i.i + 1) c.args.elements.now c.loop-i.i (omega arith))
