use Rattle.alb_io.proofs.Writers.{Writes-exit, Writes-more, Writes-then}
use Rattle.alb_answer.proofs.products.write_products.Goals as goal

pub returns-in_err-write_heading : goal.returns-in_err-write_heading
returns-in_err-write_heading g c =
    Writes-exit _ _ c.from_residual.ensures.1 (Writes-more _ (rw (c.degree.ensures.value, c.products.ensures) at c.in_err-write_heading.ensures))

pub returns : goal.returns
returns g c =
    Writes-then (rw (c.degree.ensures.value, c.products.ensures) at c.in_ok-write_heading.ensures) c.write_parts.ensures
