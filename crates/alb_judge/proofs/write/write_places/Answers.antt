-- write_places
use Rattle.std.proofs.Common.{codes}
use Rattle.alb_io.proofs.Writers.{Writes-exit, Writes-more, Writes-then}
use Rattle.alb_judge.proofs.write.write_places.Goals as goal

pub returns-in_err-put_all : goal.returns-in_err-put_all
returns-in_err-put_all g c = Writes-exit _ _ c.from_residual.ensures.1 (Writes-more _ c.in_err-put_all.ensures)

pub returns-in_err-write_elements : goal.returns-in_err-write_elements
returns-in_err-write_elements g c =
    Writes-exit _ _ c.from_residual-in_err-write_elements.ensures.1 (Writes-then c.in_ok-put_all.ensures (Writes-more (codes "\n") c.in_err-write_elements.ensures))

pub returns : goal.returns
returns g c = Writes-then c.in_ok-put_all.ensures (Writes-then c.in_ok-write_elements.ensures c.put_all-2.ensures)
