use Rattle.alb_mono.proofs.Order.{trees_equal, monos_equal}
use Rattle.alb_mono.proofs.laws.order_tells_apart.Goals as goal

pub returns : goal.returns
returns c = record { within_type = trees_equal; monomials = monos_equal }
