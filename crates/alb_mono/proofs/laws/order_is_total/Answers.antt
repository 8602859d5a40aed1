use Rattle.alb_mono.proofs.Order.{cmp_types_total, cmp_trees_total, cmp_monos_total}
use Rattle.alb_mono.proofs.laws.order_is_total.Goals as goal

pub returns : goal.returns
returns c = record { types = cmp_types_total; within_type = cmp_trees_total; monomials = cmp_monos_total }
