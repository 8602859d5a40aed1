use Rattle.alb_io.proofs.Writers.{Writes-exit, Writes-more, Writes-then}
use Rattle.alb_answer.proofs.answer.write_built.Goals as goal

pub returns-in_err-write_named : goal.returns-in_err-write_named
returns-in_err-write_named g c =
    Writes-exit _ _ c.from_residual.ensures.1 (Writes-more _ (rw c.from.ensures at c.in_err-write_named.ensures))

pub returns-in_err-write_end : goal.returns-in_err-write_end
returns-in_err-write_end g c =
    Writes-exit _ _ c.from_residual-in_err-write_end.ensures.1 (Writes-then (rw c.from.ensures at c.in_ok-write_named.ensures) (Writes-more _ c.in_err-write_end.ensures))

pub returns : goal.returns
returns g c =
    Writes-then (rw c.from.ensures at c.in_ok-write_named.ensures) (Writes-then c.in_ok-write_end.ensures c.put_all.ensures)
