use Rattle.std.proofs.Common.{◌≡◌, map, take}
use Rattle.alb_table.specs.Table.{type_at}
use Rattle.alb_check.proofs.sub.element_types.Given as goal

abbrev pub invariant-loop-b : goal.invariant-loop-b
invariant-loop-b l = l.types.items ≡ map (type_at l.tables.parts) (take l.b-index l.elements)
