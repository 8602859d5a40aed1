use Rattle.std.proofs.lemmas.Result.{err_from_is_err_and}
use Rattle.alb_syntax.proofs.Powers.{goes_on, fails, ends}
use Rattle.alb_syntax.proofs.operations.power.Goals as goal

pub returns-in_err-f-2 : goal.returns-in_err-f-2
returns-in_err-f-2 c =
    let p = err_from_is_err_and c.from_residual-in_err-f-2.result c.from_residual-in_err-f-2.ensures.1 in
    rw (p.1, p.2) (record { value = fails c.args.field.now c.args.place c.args.x.now c.args.n c.loop.counter c.loop.f _ c.loop.invariant.so_far c.in_err-f-2.field-0.0 c.loop-test.true c.in_err-f-2.ensures.value; kept = tt })

pub loop-preserved : goal.loop-preserved
loop-preserved c = record { so_far = goes_on c.args.field.now c.args.place c.args.x.now c.args.n c.loop.counter c.loop.f _ c.loop.invariant.so_far c.in_ok-f-2.f c.loop-test.true c.in_ok-f-2.ensures.value; kept = c.in_ok-f-2.ensures.kept }

pub returns : goal.returns
returns c = record { value = ends c.args.field.now c.args.place c.args.x.now c.args.n c.loop.counter c.loop.f _ c.loop.invariant.so_far c.loop-test.false; kept = c.loop.invariant.kept }
