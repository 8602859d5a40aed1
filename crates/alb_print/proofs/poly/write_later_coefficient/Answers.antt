use Rattle.alb_io.proofs.Writers.{Writes-exit, Writes-more, Writes-then}
use Rattle.alb_print.specs.Text.{value_text}
use Rattle.alb_print.proofs.poly.write_later_coefficient.Goals as goal

pub returns-in_err-put_all : goal.returns-in_err-put_all
returns-in_err-put_all g c =
    Writes-exit _ _ c.from_residual.ensures.1 (Writes-more (value_text c.args.field.now c.args.r) (rw c.later_sign.ensures at c.in_err-put_all.ensures))

pub returns : goal.returns
returns g c = Writes-then (rw c.later_sign.ensures at c.in_ok-put_all.ensures) c.write_value.ensures
