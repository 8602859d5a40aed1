use Rattle.std.proofs.Common.{sym}
use Rattle.alb_session.proofs.RequestLemmas.{blanks-skipped, dense-skipped}
use Rattle.alb_session.proofs.request.asks_nothing.Goals as goal

pub returns-in-Some : goal.returns-in-Some
returns-in-Some c r letters = dense-skipped r letters c.args.line.now c.in-Some.start (sym c.in-Some.ensures.value)

pub returns-in-None : goal.returns-in-None
returns-in-None c r letters = blanks-skipped r letters c.args.line.now (sym c.in-None.ensures.value)
