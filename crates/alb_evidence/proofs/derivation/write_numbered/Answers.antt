use Rattle.std.proofs.Common.{◌+◌, arith, refl}
use Rattle.alb_deriv.specs.Views.{line}
use Rattle.alb_evidence.specs.Texts.{line_text}
use Rattle.alb_evidence.proofs.WriteLemmas.{counted-map-at, counted-map-end}
use Rattle.alb_io.proofs.Writers.{Writes-exit, Writing-start, Writing-more, Writing-fails, Writing-all}
use Rattle.alb_evidence.proofs.derivation.write_numbered.Goals as goal

pub loop-i-init : goal.loop-i-init
loop-i-init g c = Writing-start _ refl

pub returns-in_err-write_line : goal.returns-in_err-write_line
returns-in_err-write_line g c =
    let here = counted-map-at line (line_text c.args.field.now c.args.letters.now) (c.loop-i.i + 1) c.args.lines.now c.loop-i.i c.index-lines-i.result c.loop-i-test.true c.index-lines-i.is in
    Writes-exit _ _ c.from_residual.ensures.1 (Writing-fails _ c.loop-i.invariant c.in_err-write_line.ensures here)

pub loop-i-preserved : goal.loop-i-preserved
loop-i-preserved g c =
    let here = counted-map-at line (line_text c.args.field.now c.args.letters.now) (c.loop-i.i + 1) c.args.lines.now c.loop-i.i c.index-lines-i.result c.loop-i-test.true c.index-lines-i.is in
    Writing-more c.loop-i.invariant c.in_ok-write_line.ensures here

pub returns : goal.returns
returns g c = Writing-all c.loop-i.invariant (counted-map-end line (line_text c.args.field.now c.args.letters.now) (c.loop-i.i + 1) c.args.lines.now c.loop-i.i (omega arith))
