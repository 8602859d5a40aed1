use Rattle.std.proofs.Common.{◌≡◌, take}
use Rattle.std.specs.List.{flat_map}
use Rattle.alb_check.specs.SubTable.{kept_elements, product_entries}
use Rattle.alb_check.proofs.sub.product_entries.Given as goal

abbrev pub invariant-loop-left : goal.invariant-loop-left
invariant-loop-left l = l.out.items ≡ flat_map (λ b. flat_map (product_entries l.tables l.top b) (kept_elements l.tables l.top)) (take l.left-index l.kept.elements.items)
