use Rattle.std.proofs.Common.{◌≡◌, take, fold, flat_map}
use Rattle.alb_tidy.specs.SameLine.{item_writes}
use Rattle.alb_tidy.proofs.key.feed_items.Given as goal

abbrev pub invariant-loop-item : goal.invariant-loop-item
invariant-loop-item g l = l.state ≡ fold g.H.Hasher.write l.initial.state (flat_map item_writes (take l.item-index l.items))
