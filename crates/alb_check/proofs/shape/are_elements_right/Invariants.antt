use Rattle.std.proofs.Common.{◌≡◌, ◌&&◌, drop, nat_lt, sum}
use Rattle.std.specs.List.{list_all}
use Rattle.alb_mono.specs.Tree.{type_le}
use Rattle.alb_check.specs.Raw.{raw, are_elements_right}
use Rattle.alb_check.proofs.shape.are_elements_right.Given as goal

abbrev pub invariant-loop-e : goal.invariant-loop-e
invariant-loop-e l = are_elements_right (raw l.table) ≡ list_all (λ e. nat_lt 0 (sum e) && type_le e l.table.top) (drop l.e-index l.table.elements.items)
