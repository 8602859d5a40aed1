use Rattle.std.proofs.Common.{ℕ, length, ◌-◌, ◌≤◌}
use Rattle.alb_rows.specs.Row.{AreCellResidues}
use Rattle.alb_rows.specs.Merge.{Merged}
use Rattle.alb_rows.proofs.merge.Merging.take_left.Given as goal

abbrev pub invariant-lefts : goal.invariant-lefts
invariant-lefts l = record {
  within : l.self.taken ≤ length l.a;
  merged : (p c : ℕ) → AreCellResidues p l.a → Merged p l.a c l.b l.fn.self.taken l.k l.fn.self.cells.items → Merged p l.a c l.b l.self.taken l.k l.self.cells.items;
}

abbrev pub decreases-lefts : goal.decreases-lefts
decreases-lefts l = length l.a - l.self.taken
