use Rattle.std.proofs.Common.{◌≡◌, take}
use Rattle.alb_tidy.specs.Cites.{renumbered_items}
use Rattle.alb_tidy.proofs.copy.items_copy.Given as goal

abbrev pub invariant-loop-item : goal.invariant-loop-item
invariant-loop-item l = l.copies.items ≡ renumbered_items l.places (take l.item-index l.items)
