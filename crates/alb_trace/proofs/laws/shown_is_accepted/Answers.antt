use Rattle.alb_trace.proofs.Shown.{shown-accepted}
use Rattle.alb_trace.proofs.laws.shown_is_accepted.Goals as goal

pub returns : goal.returns
returns c fs t g a s pos h = shown-accepted fs t g a s pos h
