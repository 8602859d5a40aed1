use Rattle.std.proofs.Common.{arith, None, refl}
use Rattle.alb_evidence.specs.Texts.{generator_text}
use Rattle.alb_evidence.proofs.WriteLemmas.{counted-get, counted-end}
use Rattle.alb_io.proofs.Writers.{Writes-exit, Writing-start, Writing-more, Writing-fails, Writing-all}
use Rattle.alb_evidence.proofs.basis.write_generators.Goals as goal

pub loop-k-init : goal.loop-k-init
loop-k-init g c = Writing-start _ refl

pub returns-in_err-write_generator : goal.returns-in_err-write_generator
returns-in_err-write_generator g c =
    let here = counted-get (generator_text c.args.letters.now) c.loop-k.k c.args.generators.now c.loop-k.k None c.loop-k-test.true in
    Writes-exit _ _ c.from_residual.ensures.1 (Writing-fails _ c.loop-k.invariant c.in_err-write_generator.ensures here)

pub loop-k-preserved : goal.loop-k-preserved
loop-k-preserved g c =
    let here = counted-get (generator_text c.args.letters.now) c.loop-k.k c.args.generators.now c.loop-k.k None c.loop-k-test.true in
    Writing-more c.loop-k.invariant c.in_ok-write_generator.ensures here

pub returns : goal.returns
returns g c = Writing-all c.loop-k.invariant (counted-end (generator_text c.args.letters.now) c.loop-k.k c.args.generators.now c.loop-k.k (omega arith))
