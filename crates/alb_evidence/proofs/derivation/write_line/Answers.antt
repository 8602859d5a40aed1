use Rattle.alb_io.proofs.Writers.{Writes-exit, Writes-more, Writes-then}
use Rattle.alb_evidence.proofs.derivation.write_line.Goals as goal

pub returns-in_err-write_count : goal.returns-in_err-write_count
returns-in_err-write_count g c =
    Writes-exit _ _ c.from_residual.ensures.1 (Writes-more _ c.in_err-write_count.ensures)

pub returns-in_err-write_kind : goal.returns-in_err-write_kind
returns-in_err-write_kind g c =
    Writes-exit _ _ c.from_residual-in_err-write_kind.ensures.1 (Writes-then c.in_ok-write_count.ensures (Writes-more _ c.in_err-write_kind.ensures))

pub returns : goal.returns
returns g c =
    Writes-then c.in_ok-write_count.ensures (Writes-then c.in_ok-write_kind.ensures c.put_all.ensures)
