use Rattle.alb_io.proofs.Writers.{Writes-exit, Writes-more, Writes-then}
use Rattle.alb_answer.proofs.products.write_factors.Goals as goal

pub returns-in_err-write_elem : goal.returns-in_err-write_elem
returns-in_err-write_elem g c =
    Writes-exit _ _ c.from_residual.ensures.1 (Writes-more _ c.in_err-write_elem.ensures)

pub returns : goal.returns
returns g c =
    Writes-then c.in_ok-write_elem.ensures c.write_elem-2.ensures
