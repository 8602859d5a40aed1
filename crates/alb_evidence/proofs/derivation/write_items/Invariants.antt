use Rattle.std.proofs.Common.{drop}
use Rattle.std.specs.List.{flat_map}
use Rattle.alb_evidence.specs.Texts.{item_text}
use Rattle.alb_io.proofs.Writers.{Writing}
use Rattle.alb_evidence.proofs.derivation.write_items.Given as goal

abbrev pub invariant-loop-item : goal.invariant-loop-item
invariant-loop-item g l = Writing g.K.Sink l.fn.sink l.sink (flat_map (item_text l.field) l.items) (flat_map (item_text l.field) (drop l.item-index l.items))
