use Rattle.alb_trace.proofs.Shown.{each-is-shown}
use Rattle.alb_trace.proofs.laws.each_is_shown.Goals as goal

pub returns : goal.returns
returns c r t g a h few is = each-is-shown r t g a h few is
