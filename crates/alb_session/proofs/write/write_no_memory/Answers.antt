use Rattle.alb_io.proofs.Writers.{Writes-exit, Writes-more, Writes-then}
use Rattle.alb_session.proofs.write.write_no_memory.Goals as goal

pub returns-in_err-write_named : goal.returns-in_err-write_named
returns-in_err-write_named g c = Writes-exit _ _ c.from_residual.ensures.1 (Writes-more _ (rw c.from.ensures at c.in_err-write_named.ensures))

pub returns : goal.returns
returns g c = Writes-then (rw c.from.ensures at c.in_ok-write_named.ensures) c.put_all.ensures
