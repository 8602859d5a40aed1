use Rattle.alb_io.proofs.Writers.{Writes-exit, Writes-more, Writes-then}
use Rattle.alb_answer.proofs.products.write_heading.Goals as goal

pub returns-in_err-write_degree : goal.returns-in_err-write_degree
returns-in_err-write_degree g c =
    Writes-exit _ _ c.from_residual.ensures.1 (Writes-more _ c.in_err-write_degree.ensures)

pub returns-in_err-write_named : goal.returns-in_err-write_named
returns-in_err-write_named g c =
    Writes-exit _ _ c.from_residual-in_err-write_named.ensures.1 (Writes-then c.in_ok-write_degree.ensures (Writes-more _ c.in_err-write_named.ensures))

pub returns : goal.returns
returns g c =
    Writes-then c.in_ok-write_degree.ensures (Writes-then c.in_ok-write_named.ensures c.put_all.ensures)
