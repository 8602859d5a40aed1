use Rattle.alb_io.proofs.Writers.{Writes-exit, Writes-more, Writes-then}
use Rattle.alb_answer.proofs.answer.write_answer.Goals as goal

pub returns-in_err-write_degree : goal.returns-in_err-write_degree
returns-in_err-write_degree g c =
    Writes-exit _ _ c.from_residual.ensures.1 (Writes-more _ c.in_err-write_degree.ensures)

pub returns-in_err-write_reply : goal.returns-in_err-write_reply
returns-in_err-write_reply g c =
    Writes-exit _ _ c.from_residual-in_err-write_reply.ensures.1 (Writes-then c.in_ok-write_degree.ensures (Writes-more _ c.in_err-write_reply.ensures))

pub returns : goal.returns
returns g c =
    Writes-then c.in_ok-write_degree.ensures (Writes-then c.in_ok-write_reply.ensures c.put_all.ensures)
