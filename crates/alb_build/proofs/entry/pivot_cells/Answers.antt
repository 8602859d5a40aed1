use Rattle.std.proofs.Common.{refl, subst}
use Rattle.alb_build.specs.Part.{IsPivotEntry}
use Rattle.alb_build.proofs.Steps.{cell-more, cells-all}
use Rattle.alb_build.proofs.entry.pivot_cells.Goals as goal

pub loop-k-preserved : goal.loop-k-preserved
loop-k-preserved c =
    cell-more c.args.field.now c.args.numbers.now c.cells-cells.result.now c.loop-k.out.items c.push.new.self.items c.loop-k.k _ _ c.loop-k.auto.k c.loop-k-test.true refl
    c.in_ok-push.ensures.items (record { number = refl; negative = c.neg.ensures.value; residue = c.neg.ensures.residue }) c.loop-k.invariant

pub returns : goal.returns
returns c = subst (λ row. IsPivotEntry c.args.field.now c.args.numbers.now row c.loop-k.out.items) c.cells-cells.ensures.all
    (cells-all c.args.field.now c.args.numbers.now c.cells-cells.result.now c.loop-k.out.items c.loop-k.k c.loop-k-test.false c.loop-k.invariant)
