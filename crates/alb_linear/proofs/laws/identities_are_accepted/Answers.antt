use Rattle.alb_linear.proofs.LawLemmas.{accepted, accepts}
use Rattle.alb_linear.proofs.laws.identities_are_accepted.Goals as goal

pub returns : goal.returns
returns c p f k b = (accepted p f k b, λ w. accepts p w.0 f k w.1)
