use Rattle.std.proofs.Common.{◌+◌, get_or, ap, arith, refl}
use Rattle.alb_evidence.proofs.WriteLemmas.{counted-map-at, counted-map-end}
use Rattle.alb_io.proofs.Writers.{Writes-exit, Writing-start, Writing-more, Writing-fails, Writing-all}
use Rattle.alb_host.specs.Report.{session_text, session_end}
use Rattle.alb_host.proofs.report.write_sessions.Goals as goal

pub loop-i-init : goal.loop-i-init
loop-i-init g c = Writing-start _ refl

pub returns-in_err-write_session : goal.returns-in_err-write_session
returns-in_err-write_session g c =
    let here = counted-map-at session_end session_text (c.loop-i.i + 1) c.args.sessions.now c.loop-i.i (get_or c.args.sessions.now c.loop-i.i c.index-sessions-i.result) c.loop-i-test.true
    (ap (λ x. get_or c.args.sessions.now c.loop-i.i x) c.index-sessions-i.is) in
    Writes-exit _ _ c.from_residual.ensures.1 (Writing-fails _ c.loop-i.invariant c.in_err-write_session.ensures here)

pub loop-i-preserved : goal.loop-i-preserved
loop-i-preserved g c =
    let here = counted-map-at session_end session_text (c.loop-i.i + 1) c.args.sessions.now c.loop-i.i (get_or c.args.sessions.now c.loop-i.i c.index-sessions-i.result) c.loop-i-test.true
    (ap (λ x. get_or c.args.sessions.now c.loop-i.i x) c.index-sessions-i.is) in
    Writing-more c.loop-i.invariant c.in_ok-write_session.ensures here

pub returns : goal.returns
returns g c = Writing-all c.loop-i.invariant (counted-map-end session_end session_text (c.loop-i.i + 1) c.args.sessions.now c.loop-i.i (omega arith))
