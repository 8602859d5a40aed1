use Rattle.alb_io.proofs.Writers.{Writes-exit, Writes-more, Writes-then}
use Rattle.alb_evidence.proofs.derivation.write_times.Goals as goal

pub returns-in_err-write_named : goal.returns-in_err-write_named
returns-in_err-write_named g c =
    Writes-exit _ _ c.from_residual.ensures.1 (Writes-more _ c.in_err-write_named.ensures)

pub returns-in_err-write_side : goal.returns-in_err-write_side
returns-in_err-write_side g c =
    Writes-exit _ _ c.from_residual-in_err-write_side.ensures.1 (Writes-then c.in_ok-write_named.ensures (Writes-more _ c.in_err-write_side.ensures))

pub returns : goal.returns
returns g c =
    Writes-then c.in_ok-write_named.ensures (Writes-then c.in_ok-write_side.ensures c.write_mono.ensures)
