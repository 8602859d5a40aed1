use Rattle.std.proofs.Common.{◌≡◌, drop}
use Rattle.alb_check.specs.Raw.{raw, are_generators_right}
use Rattle.alb_check.proofs.shape.are_generators_right.Given as goal

abbrev pub invariant-loop-g : goal.invariant-loop-g
invariant-loop-g l = are_generators_right (raw l.table) 0 l.table.generators.items ≡ are_generators_right (raw l.table) l.g (drop l.g l.table.generators.items)
