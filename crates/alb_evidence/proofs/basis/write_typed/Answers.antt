use Rattle.alb_io.proofs.Writers.{Writes-exit, Writes-more, Writes-then}
use Rattle.alb_evidence.proofs.basis.write_typed.Goals as goal

pub returns-in_err-put_all : goal.returns-in_err-put_all
returns-in_err-put_all g c =
    Writes-exit _ _ c.from_residual.ensures.1 (Writes-more _ c.in_err-put_all.ensures)

pub returns-in_err-write_type : goal.returns-in_err-write_type
returns-in_err-write_type g c =
    Writes-exit _ _ c.from_residual-in_err-write_type.ensures.1 (Writes-then c.in_ok-put_all.ensures (Writes-more _ c.in_err-write_type.ensures))

pub returns : goal.returns
returns g c =
    Writes-then c.in_ok-put_all.ensures (Writes-then c.in_ok-write_type.ensures c.put_all-2.ensures)
