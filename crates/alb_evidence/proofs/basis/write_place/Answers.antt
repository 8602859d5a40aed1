use Rattle.alb_io.proofs.Writers.{Writes-exit, Writes-more, Writes-then}
use Rattle.alb_evidence.proofs.basis.write_place.Goals as goal

pub returns-in_err-put_all : goal.returns-in_err-put_all
returns-in_err-put_all g c =
    Writes-exit _ _ c.from_residual.ensures.1 (Writes-more _ c.in_err-put_all.ensures)

pub returns-in_err-write_letter : goal.returns-in_err-write_letter
returns-in_err-write_letter g c =
    Writes-exit _ _ c.from_residual-in_err-write_letter.ensures.1 (Writes-then c.in_ok-put_all.ensures (Writes-more _ c.in_err-write_letter.ensures))

pub returns-in_err-write_named : goal.returns-in_err-write_named
returns-in_err-write_named g c =
    Writes-exit _ _ c.from_residual-in_err-write_named.ensures.1 (Writes-then c.in_ok-put_all.ensures (Writes-then c.in_ok-write_letter.ensures (Writes-more _ c.in_err-write_named.ensures)))

pub returns : goal.returns
returns g c =
    Writes-then c.in_ok-put_all.ensures (Writes-then c.in_ok-write_letter.ensures (Writes-then c.in_ok-write_named.ensures c.put_all-2.ensures))
