use Rattle.std.proofs.Common.{List, ◌≡◌, ◌∙◌, ap, length, map, subst, sym, arith}
use Rattle.std.specs.List.{All}
use Rattle.std.proofs.lemmas.List.{take_all, length-map}
use Rattle.alb_rows.specs.Row.{Cells, comb, AreCellResidues}
use Rattle.alb_check.specs.Raw.{raw}
use Rattle.alb_poly.specs.Consequence.{form}
use Rattle.alb_check.specs.TableAlgebra.{form_value}
use Rattle.alb_check.proofs.WalkLemmas.{unit_row, unit_residues, known_terms, tuple_value, zero_tells}
use Rattle.alb_check.proofs.walk.is_zero_at.Goals as goal

pub value_of-requires-clause-rows : goal.value_of-requires-clause-rows
value_of-requires-clause-rows c =
    let e : c.deref.result.now ≡ map unit_row c.args.tuple.now =
    c.deref.ensures.value ∙ c.loop-k.invariant ∙ ap (map unit_row) (take_all c.loop-k.k-index c.args.tuple.now (omega arith)) in
    subst (λ (rs : List Cells). All (λ r. AreCellResidues c.args.trial.now.rules.now.field r) rs) (sym e) (unit_residues c.args.trial.now.rules.now.field c.args.tuple.now (omega arith))

pub value_of-requires-clause-known : goal.value_of-requires-clause-known
value_of-requires-clause-known c =
    let e : c.deref.result.now ≡ map unit_row c.args.tuple.now =
    c.deref.ensures.value ∙ c.loop-k.invariant ∙ ap (map unit_row) (take_all c.loop-k.k-index c.args.tuple.now (omega arith)) in
    known_terms (form c.args.trial.now.linear.now) (length c.deref.result.now) c.requires.trial.linearized.multilinear
    (ap length e ∙ length-map c.args.tuple.now unit_row ∙ c.requires.tuple.long)

pub returns : goal.returns
returns c =
    let e : c.deref.result.now ≡ map unit_row c.args.tuple.now =
    c.deref.ensures.value ∙ c.loop-k.invariant ∙ ap (map unit_row) (take_all c.loop-k.k-index c.args.tuple.now (omega arith)) in
    zero_tells c.is_zero.result c.args.trial.now.rules.now.field (comb c.in_ok-value.value) (form_value (raw c.args.trial.now.table.now) (form c.args.trial.now.linear.now) c.args.tuple.now)
    (c.is_zero.ensures.vector c.args.trial.now.rules.now.field c.in_ok-value.ensures.row)
    (tuple_value c.args.trial.now.rules.now.field (raw c.args.trial.now.table.now) c.args.trial.now.products.now (form c.args.trial.now.linear.now) c.args.tuple.now c.deref.result.now (comb c.in_ok-value.value)
    c.requires.trial.values e c.in_ok-value.ensures.value)
