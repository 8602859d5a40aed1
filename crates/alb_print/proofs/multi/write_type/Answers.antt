use Rattle.std.proofs.Common.{codes}
use Rattle.alb_io.proofs.Writers.{Writes-exit, Writes-more, Writes-then}
use Rattle.alb_print.proofs.multi.write_type.Goals as goal

pub returns-in_err-put_all : goal.returns-in_err-put_all
returns-in_err-put_all g c = Writes-exit _ _ c.from_residual.ensures.1 (Writes-more _ c.in_err-put_all.ensures)

pub returns-in_err-write_counts : goal.returns-in_err-write_counts
returns-in_err-write_counts g c =
    Writes-exit _ _ c.from_residual-in_err-write_counts.ensures.1
    (Writes-then c.in_ok-put_all.ensures (Writes-more (codes ")") (rw c.counts.ensures.value at c.in_err-write_counts.ensures)))

pub returns : goal.returns
returns g c =
    Writes-then c.in_ok-put_all.ensures (Writes-then (rw c.counts.ensures.value at c.in_ok-write_counts.ensures) c.put_all-2.ensures)
