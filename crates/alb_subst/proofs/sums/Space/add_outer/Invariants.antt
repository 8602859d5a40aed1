use Rattle.std.proofs.Common.{◌<◌, All, take}
use Rattle.alb_subst.specs.Sums.{AddsAtColumns}
use Rattle.alb_subst.proofs.SumLemmas.{lines}
use Rattle.alb_subst.proofs.sums.Space.add_outer.Given as goal

abbrev pub invariant-loop-cell : goal.invariant-loop-cell
invariant-loop-cell l = record {
  residues : All (λ y. y < l.self.field.now) l.sums;
  adds : AddsAtColumns l.self.field.now l.self.columns.now l.initial.sums l.sums (lines l.x l.right (take l.cell-index l.cell-items));
}
