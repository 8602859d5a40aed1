use Rattle.std.proofs.Common.{◌≤◌, ℕ, length, sym, subst, arith}
use Rattle.std.specs.Prelude.{IsTrue, All}
use Rattle.alb_mono.specs.Tree.{tree, Tree, are_below}
use Rattle.alb_poly.specs.Poly.{Poly, greatest_degree}
use Rattle.alb_poly.specs.Consequence.{forms}
use Rattle.alb_table.proofs.FirstLemmas.{few_generators}
use Rattle.alb_table.specs.Laws.{HasValue, DecidesByRow}
use Rattle.alb_table.specs.Table.{elems, mono_at, Table}
use Rattle.alb_table.specs.RightTable.{rules_view}
use Rattle.alb_table.specs.Value.{IsBasisRow, table_value}
use Rattle.alb_table.proofs.RightForLemmas.{right-positive}
use Rattle.alb_table.proofs.TableValues.{empty-consequence, values-decide}
use Rattle.alb_rows.specs.Row.{Cells, comb, AreSameVector}
use Rattle.alb_query.specs.Answer.{IsNormalForm}
use Rattle.alb_query.proofs.AnswerLemmas.{all-terms, all-within, not-built, zero-answer, not-zero-answer, not-both, misfit-known}
use Rattle.alb_query.proofs.ValueLemmas.{decided-form, row-residues, normal_form-known}
use Rattle.alb_query.proofs.answers.answer.Goals as goal

pub misfit-requires-clause-few : goal.misfit-requires-clause-few
misfit-requires-clause-few c = let n = few_generators c.args.tables.now.target c.requires.right.table.goal in rw c.target.ensures.value (omega arith)

pub misfit-requires-clause-known : goal.misfit-requires-clause-known
misfit-requires-clause-known c =
    rw c.target.ensures.value (all-terms (λ (t : ℕ × Tree). IsTrue (are_below (length c.args.tables.now.target) t.1)) c.terms.result.now c.args.g.now c.terms.ensures.value c.requires.known)

pub returns-in-Some-clause-over : goal.returns-in-Some-clause-over
returns-in-Some-clause-over c =
    let m = rw (c.target.ensures.value, c.terms.ensures.value) at c.in-Some.ensures in
    subst (λ x. IsTrue (are_below (length c.args.tables.now.target) x)) (sym c.in_ok-try_copy.ensures)
    (misfit-known (length c.args.tables.now.target) c.args.tables.now.target c.args.g.now (tree c.in-Some.m.now) m c.requires.known)

pub returns-then-degree : goal.returns-then-degree
returns-then-degree c =
    let m = rw (c.target.ensures.value, c.terms.ensures.value) at c.in_default.ensures in
    record {
      answer = not-built c.args.tables.now.p (forms c.args.rules.now) c.args.tables.now.target c.args.tables.now.degree c.args.g.now m c.degree-degree.result c.degree-degree.ensures.value
          (rw (← c.degree.ensures.value) c.if-degree.true);
      over = tt;
    }

-- the value as a row
valued : (t : Table) (g : Poly) (cells : Cells) → IsBasisRow t.p (length (elems t.parts)) cells → AreSameVector t.p (comb cells) (table_value t g) → HasValue t g cells
valued t g cells row value = record { row = row; value = value }

pub returns-then-is_zero : goal.returns-then-is_zero
returns-then-is_zero c =
    let m = rw (c.target.ensures.value, c.terms.ensures.value) at c.in_default.ensures in
    let t = c.args.tables.now in
    let h : greatest_degree c.args.g.now ≤ t.degree = let x = c.degree-degree.ensures.value in let y = c.degree.ensures.value in let z = c.if-degree.false in omega arith in
    record {
      answer = zero-answer t.p (forms c.args.rules.now) t.target t.degree c.args.g.now m h
          (empty-consequence (rules_view c.args.rules.now) t c.requires.right c.args.g.now (all-within t.target t.degree c.args.g.now m h)
          c.in_ok-value.value (valued t c.args.g.now c.in_ok-value.value c.in_ok-value.ensures.row c.in_ok-value.ensures.value) (c.is_zero.ensures.value.0 c.if-is_zero.true));
      over = tt;
    }

pub from_terms-requires : goal.from_terms-requires
from_terms-requires c = rw c.field.ensures
    (row-residues c.args.tables.now.p (mono_at c.args.tables.now.parts) c.in_ok-list.list.items c.in_ok-value.value c.in_ok-list.ensures.value c.in_ok-value.ensures.row.row)

pub returns : goal.returns
returns c =
    let m = rw (c.target.ensures.value, c.terms.ensures.value) at c.in_default.ensures in
    let t = c.args.tables.now in
    let r = rules_view c.args.rules.now in
    let h : greatest_degree c.args.g.now ≤ t.degree = let x = c.degree-degree.ensures.value in let y = c.degree.ensures.value in let z = c.if-degree.false in omega arith in
    let w = all-within t.target t.degree c.args.g.now m h in
    let v = valued t c.args.g.now c.in_ok-value.value c.in_ok-value.ensures.row c.in_ok-value.ensures.value in
    let d : DecidesByRow r t c.args.g.now c.in_ok-value.value = values-decide r t c.args.g.now c.in_ok-value.value c.requires.right w v in
    let e = rw (c.field.ensures, c.in_ok-list.ensures.value) at c.in_ok-from_terms.ensures.value in
    record {
      answer = not-zero-answer t.p r.forms t.target t.degree c.args.g.now m h
          (λ q. not-both _ c.if-is_zero.false (c.is_zero.ensures.value.1 (d.empty.1 q)))
          c.in_ok-from_terms.field-0 (subst (IsNormalForm t.p r.forms c.args.g.now) (sym e) (decided-form t.p r.forms c.args.g.now _ (right-positive r t c.requires.right) d.decides));
      over = (
        rw c.field.ensures at c.in_ok-from_terms.ensures.residues,
        subst (λ f. All (λ s. IsTrue (are_below (length t.target) s.1)) f) (sym e)
            (normal_form-known r t c.requires.right t.p c.in_ok-value.value c.in_ok-value.ensures.row.below),
      );
    }
