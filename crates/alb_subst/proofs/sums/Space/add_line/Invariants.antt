use Rattle.std.proofs.Common.{◌<◌, All, take}
use Rattle.gf_sums.specs.Sums.{scale}
use Rattle.alb_subst.specs.Sums.{AddsAtColumns, pairs_with}
use Rattle.alb_subst.proofs.sums.Space.add_line.Given as goal

abbrev pub invariant-loop-cell : goal.invariant-loop-cell
invariant-loop-cell l = record {
  residues : All (λ y. y < l.self.field.now) l.sums;
  adds : AddsAtColumns l.self.field.now l.self.columns.now l.initial.sums l.sums (scale l.x (pairs_with l.b (take l.cell-index l.cell-items)));
}
