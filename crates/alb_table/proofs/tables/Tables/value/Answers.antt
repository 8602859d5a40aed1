use Rattle.std.proofs.Common.{◌≡◌, ◌∙◌, length, take, refl, [], sym, ap, arith, subst}
use Rattle.std.proofs.lemmas.List.{take_all}
use Rattle.alb_poly.specs.Poly.{Poly, AreResidues}
use Rattle.alb_poly.specs.Terms.{terms}
use Rattle.alb_poly.proofs.Items.{coef_at}
use Rattle.alb_rows.specs.Row.{comb, AreSameVector}
use Rattle.alb_table.specs.Table.{elems}
use Rattle.alb_table.specs.Value.{table_value}
use Rattle.alb_table.proofs.ValueLemmas.{value_more, none_vector, same_lists, zero_exactly}
use Rattle.alb_table.proofs.tables.Tables.value.Goals as goal

pub loop-t-init : goal.loop-t-init
loop-t-init c = rw c.new-acc.ensures (none_vector _ _, same_lists _ [] [] refl)

pub value_at-requires-clause-positions : goal.value_at-requires-clause-positions
value_at-requires-clause-positions c =
    let n : length c.deref.result.now ≡ 26 = ap length c.deref.ensures.value ∙ c.in_ok-rows.ensures.all in
    rw n c.t-item.result.letters

pub add_scaled-requires-clause-c_in : goal.add_scaled-requires-clause-c_in
add_scaled-requires-clause-c_in c =
    let ts = c.terms-t-items.result.now in
    let r = subst (λ (f : Poly). AreResidues c.args.self.now.p f) (sym c.terms-t-items.ensures.value) c.requires in
    rw c.field.ensures (coef_at c.args.self.now.p ts c.loop-t.t-index c.t-item.result r c.loop-t-test.true c.t-item.is)

pub loop-t-preserved : goal.loop-t-preserved
loop-t-preserved c =
    let e = c.in_ok-add_scaled.ensures in (
      record {
        row = record { row = e.row; residues = rw c.field.ensures at e.residues };
        below = e.columns (length (elems c.args.self.now.parts)) c.loop-t.invariant.0.below c.in_ok-value.ensures.row.below;
      },
      value_more c.args.self.now c.terms-t-items.result.now c.in_ok-rows.rows.items c.loop-t.acc c.in_ok-value.value c.add_scaled.new.self c.loop-t.t-index
          c.t-item.result c.loop-t-test.true c.t-item.is c.in_ok-rows.ensures.values c.loop-t.invariant.1 (rw c.deref.ensures.value at c.in_ok-value.ensures.value)
          (rw c.field.ensures at e.vector),
    )

pub returns-clause-value : goal.returns-clause-value
returns-clause-value c =
    let ts = c.terms-t-items.result.now in
    let all : take c.loop-t.t-index ts ≡ ts = take_all c.loop-t.t-index ts (omega arith) in
    subst (λ (f : Poly). AreSameVector c.args.self.now.p (comb c.loop-t.acc) (table_value c.args.self.now f)) (ap terms all ∙ c.terms-t-items.ensures.value) c.loop-t.invariant.1

pub returns-clause-zero : goal.returns-clause-zero
returns-clause-zero c =
    zero_exactly c.args.self.now.p (length (elems c.args.self.now.parts)) c.loop-t.acc (table_value c.args.self.now c.args.g.now) c.loop-t.invariant.0 (returns-clause-value c)
