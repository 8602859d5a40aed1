use Rattle.alb_io.proofs.Writers.{Writes-exit, Writes-more, Writes-then}
use Rattle.alb_answer.proofs.products.write_product.Goals as goal

pub returns-in_err-write_factors : goal.returns-in_err-write_factors
returns-in_err-write_factors g c =
    Writes-exit _ _ c.from_residual.ensures.1 (Writes-more _ c.in_err-write_factors.ensures)

pub returns-in_err-put_all : goal.returns-in_err-put_all
returns-in_err-put_all g c =
    Writes-exit _ _ c.from_residual-in_err-put_all.ensures.1 (Writes-then c.in_ok-write_factors.ensures (Writes-more _ c.in_err-put_all.ensures))

pub returns-in_err-write_entry : goal.returns-in_err-write_entry
returns-in_err-write_entry g c =
    Writes-exit _ _ c.from_residual-in_err-write_entry.ensures.1 (Writes-then c.in_ok-write_factors.ensures (Writes-then c.in_ok-put_all.ensures (Writes-more _ c.in_err-write_entry.ensures)))

pub returns : goal.returns
returns g c =
    Writes-then c.in_ok-write_factors.ensures (Writes-then c.in_ok-put_all.ensures (Writes-then c.in_ok-write_entry.ensures c.put_all-2.ensures))
