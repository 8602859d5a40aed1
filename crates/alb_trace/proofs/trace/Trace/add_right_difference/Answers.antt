use Rattle.std.proofs.Common.{◌<◌, ◌*◌, ◌%◌, ℕ, get_or, sym, ap, ◌∙◌, subst}
use Rattle.gf_sums.specs.Sums.{reindex}
use Rattle.alb_mono.specs.Tree.{tree}
use Rattle.alb_mono.specs.declared.side.Side.TheVariants.{Left}
use Rattle.alb_poly.specs.Consequence.{beside, forms}
use Rattle.alb_rows.specs.Row.{Cells}
use Rattle.alb_table.specs.Table.{mono_at}
use Rattle.alb_table.specs.RightTable.{rules_view}
use Rattle.alb_trace.specs.Adds.{item_of}
use Rattle.alb_trace.specs.Given.{IsValueRow}
use Rattle.alb_trace.specs.Trace.{mono_less}
use Rattle.alb_trace.proofs.Adds.{longer-sum}
use Rattle.alb_trace.proofs.FactorLemmas.{left-known, left-small, left-fitting, lefts-next, value-spread}
use Rattle.gf_sums.proofs.Alike.{scale-alike}
use Rattle.alb_trace.proofs.PushLemmas.{pushes-first, pushes-last, pushes-alike}
use Rattle.alb_trace.proofs.trace.Trace.add_right_difference.Goals as goal

pub times_line-requires : goal.times_line-requires
times_line-requires c =
    let v : IsValueRow (forms c.args.ground.now.rules.now) c.args.ground.now.tables.now (tree c.args.l.now) c.cells-cell-items.result.now =
    subst (λ (x : Cells). IsValueRow (forms c.args.ground.now.rules.now) c.args.ground.now.tables.now (tree c.args.l.now) x) (sym c.cells-cell-items.ensures.all) c.in_ok-left.ensures in
    record { small = left-small (rules_view c.args.ground.now.rules.now) c.args.ground.now.tables.now c.requires.ground.right (tree c.args.l.now) (tree c.args.l.now) c.cells-cell-items.result.now v c.loop-cell.cell-index _ c.loop-cell-test.true (tree c.in_ok-b.b) c.in_ok-b.ensures }

pub loop-cell-init : goal.loop-cell-init
loop-cell-init c = record {
  pushes = λ r w s. pushes-first (forms c.args.ground.now.rules.now) c.args.ground.now.tables.now c.args.self.now c.args.sum.now.items.items c.args.c
      (λ b. reindex (beside (Left, mono_at c.args.ground.now.tables.now.parts b)) (mono_less c.args.ground.now.tables.now r)) c.cells-cell-items.result.now c.requires.trace;
}

pub loop-cell-preserved : goal.loop-cell-preserved
loop-cell-preserved c =
    let given = rules_view c.args.ground.now.rules.now in
    let fs = forms c.args.ground.now.rules.now in
    let t = c.args.ground.now.tables.now in
    let cells : Cells = c.cells-cell-items.result.now in
    let v : IsValueRow fs t (tree c.args.l.now) cells =
    subst (λ (x : Cells). IsValueRow fs t (tree c.args.l.now) x) (sym c.cells-cell-items.ensures.all) c.in_ok-left.ensures in
    record {
      pushes = λ r w s.
          let x = c.loop-cell.invariant.pushes r w s in
          let k : ℕ = c.loop-cell.cell-index in
          let line = longer-sum t.p fs x.longer (item_of c.args.cited) s in
          let d = c.in_ok-product.ensures.derives fs t (mono_less t r) x.trace line
          (left-known given t c.requires.ground.right (tree c.args.l.now) r cells v k _ c.loop-cell-test.true (tree c.in_ok-b.b) c.in_ok-b.ensures)
          (left-fitting given t c.requires.ground.right (tree c.args.l.now) r cells v k _ c.loop-cell-test.true (tree c.in_ok-b.b) c.in_ok-b.ensures w) in
          lefts-next given t c.requires.ground.right (tree c.args.l.now) r cells v k _ c.loop-cell-test.true (tree c.in_ok-b.b) c.in_ok-b.ensures
          c.args.self.now c.loop-cell.self c.times_line.new.self c.args.sum.now.items.items c.loop-cell.sum.items.items c.add.new.self.items.items c.args.c c.mul.result c.in_ok-product.product
          c.requires.residue
          (c.mul.ensures.value ∙ ap (λ (p : ℕ). (c.args.c * (get_or c.cells-cell-items.result.now c.loop-cell.cell-index (0, 0)).1) % p) c.field-field.ensures)
          (subst (λ (p : ℕ). c.mul.result < p) c.field-field.ensures c.mul.ensures.residue) x d c.in_ok-add.ensures;
    }

pub returns : goal.returns
returns c =
    let given = rules_view c.args.ground.now.rules.now in
    let fs = forms c.args.ground.now.rules.now in
    let t = c.args.ground.now.tables.now in
    let cells : Cells = c.cells-cell-items.result.now in
    let v : IsValueRow fs t (tree c.args.l.now) cells =
    subst (λ (x : Cells). IsValueRow fs t (tree c.args.l.now) x) (sym c.cells-cell-items.ensures.all) c.in_ok-left.ensures in
    λ r w s. pushes-alike fs t (scale-alike c.args.c (value-spread given t c.requires.ground.right (tree c.args.l.now) cells v (λ b. reindex (beside (Left, b)) (mono_less t r))))
    (pushes-last fs t c.args.self.now c.loop-cell.self c.args.sum.now.items.items c.loop-cell.sum.items.items c.args.c (λ b. reindex (beside (Left, mono_at t.parts b)) (mono_less t r)) cells c.loop-cell.cell-index
    c.loop-cell-test.false (c.loop-cell.invariant.pushes r w s))
