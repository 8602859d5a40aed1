use Rattle.std.proofs.Common.{◌≡◌, drop}
use Rattle.std.specs.List.{list_all}
use Rattle.alb_check.specs.Raw.{raw, is_entry_right, are_entries_right}
use Rattle.alb_check.proofs.shape.are_entries_right.Given as goal

abbrev pub invariant-loop-entry : goal.invariant-loop-entry
invariant-loop-entry l = are_entries_right (raw l.table) ≡ list_all (is_entry_right (raw l.table)) (drop l.entry-index l.table.entries.items)
