-- write_element
use Rattle.std.proofs.Common.{decimal}
use Rattle.alb_io.proofs.Writers.{Writes-exit, Writes-more, Writes-then}
use Rattle.alb_judge.proofs.write.write_element.Goals as goal

pub returns-in_err-put_all : goal.returns-in_err-put_all
returns-in_err-put_all g c = Writes-exit _ _ c.from_residual.ensures.1 (Writes-more (decimal c.args.element) c.in_err-put_all.ensures)

pub returns : goal.returns
returns g c = Writes-then c.in_ok-put_all.ensures c.write_count.ensures
