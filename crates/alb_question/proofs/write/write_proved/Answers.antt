use Rattle.alb_io.proofs.Writers.{Writes-exit, Writes-more, Writes-then}
use Rattle.alb_question.proofs.write.write_proved.Goals as goal

pub returns-in_err-write_reply : goal.returns-in_err-write_reply
returns-in_err-write_reply g c = Writes-exit _ _ c.from_residual.ensures.1 (Writes-more _ c.in_err-write_reply.ensures)

pub returns : goal.returns
returns g c = Writes-then c.in_ok-write_reply.ensures c.write_proof.ensures
