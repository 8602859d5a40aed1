use Rattle.std.proofs.Common.{◌∙◌, ◌/◌, ◌%◌, ◌^◌, ap}
use Rattle.alb_sample.specs.Draws.{next_state, drawn}
use Rattle.alb_sample.proofs.CodeLemmas.{stepped}
use Rattle.alb_sample.proofs.draws.Draws.draw.Goals as goal

pub returns-clause-value : goal.returns-clause-value
unfolding drawn
returns-clause-value c = ap (λ n. n / 2 ^ 33 % c.args.below) (stepped c.self.inside.state ∙ ap next_state c.self.view_is)

pub returns-clause-state : goal.returns-clause-state
returns-clause-state c = stepped c.self.inside.state ∙ ap next_state c.self.view_is
