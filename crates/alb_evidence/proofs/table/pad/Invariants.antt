use Rattle.std.proofs.Common.{◌≡◌, ◌-◌, ◌++◌, length, None}
use Rattle.std.specs.Prelude.{replicate}
use Rattle.alb_evidence.proofs.table.pad.Given as goal

abbrev pub invariant-loop-list : goal.invariant-loop-list
invariant-loop-list l = record {
  items : l.list.items ++ replicate (l.count - length l.list.items) None ≡ l.fn.list.items ++ replicate (l.count - length l.fn.list.items) None;
}

abbrev pub decreases-loop-list : goal.decreases-loop-list
decreases-loop-list l = l.count - length l.list.items
