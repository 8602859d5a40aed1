use Rattle.alb_poly.proofs.Ideals.{consequences-are-t-ideal}
use Rattle.alb_poly.proofs.laws.consequences_are_t_ideal.Goals as goal

pub returns : goal.returns
returns c = consequences-are-t-ideal
