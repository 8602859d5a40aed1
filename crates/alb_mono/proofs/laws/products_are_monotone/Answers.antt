use Rattle.alb_mono.proofs.Order.{product_left, product_right}
use Rattle.alb_mono.proofs.laws.products_are_monotone.Goals as goal

pub returns : goal.returns
returns c = record { left = product_left; right = product_right }
