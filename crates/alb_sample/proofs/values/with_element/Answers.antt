use Rattle.std.proofs.Common.{ℕ, ◌<◌, ◌++◌, length, sym, subst}
use Rattle.std.specs.Prelude.{Option, IfSome}
use Rattle.alb_rows.specs.Row.{AreCellResidues}
use Rattle.alb_table.specs.Laws.{HasValue}
use Rattle.alb_table.specs.Table.{elems}
use Rattle.alb_sample.specs.Problem.{sample_view}
use Rattle.alb_sample.specs.Sample.{element_poly}
use Rattle.alb_sample.proofs.ValueLemmas.{element-value, sum-value, sum-vector}
use Rattle.alb_sample.proofs.values.with_element.Goals as goal

pub add_scaled-requires-clause-row_in : goal.add_scaled-requires-clause-row_in
add_scaled-requires-clause-row_in c = subst (λ (q : ℕ). AreCellResidues q c.args.row) (sym c.field.ensures) c.requires.vector.row.residues

pub returns-in_ok-add_scaled-in-Some : goal.returns-in_ok-add_scaled-in-Some
returns-in_ok-add_scaled-in-Some c f h =
    let t = c.args.tables.now in
    let e = c.in_ok-add_scaled-in-Some.ensures in
    let one = c.in_ok-one-in-Some.one in
    let l = subst (λ (o : Option ℕ). IfSome o (λ b. b < length (elems t.parts))) c.in-Some.is c.requires.below in
    let k = element-value sample_view t c.requires.right c.in-Some.b l one c.in_ok-one-in-Some.ensures.value in
    subst (λ (o : Option ℕ). HasValue t (f ++ element_poly t o) c.add_scaled.new.self) (sym c.in-Some.is)
    (sum-value t f _ c.args.row one c.add_scaled.new.self h k
    (sum-vector t _ c.args.row one c.add_scaled.new.self c.field.ensures h.row k.row e.row e.residues e.columns)
    (rw c.field.ensures at e.vector))
