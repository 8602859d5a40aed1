use Rattle.std.proofs.Common.{◌≡◌, ◌++◌, take}
use Rattle.std.specs.List.{flat_map}
use Rattle.alb_check.specs.SubTable.{product_entries}
use Rattle.alb_check.proofs.sub.push_products.Given as goal

abbrev pub invariant-loop-right : goal.invariant-loop-right
invariant-loop-right l = l.entries.items ≡ l.initial.entries.items ++ flat_map (product_entries l.tables l.top l.left) (take l.right-index l.kept.elements.items)
