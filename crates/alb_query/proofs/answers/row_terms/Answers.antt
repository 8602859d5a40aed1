use Rattle.std.proofs.Common.{sym, subst}
use Rattle.std.specs.Prelude.{IsTrue, ◌≤◌}
use Rattle.alb_mono.specs.Tree.{degree, are_below}
use Rattle.alb_table.specs.RightTable.{rules_view}
use Rattle.alb_table.proofs.TableValues.{mono-degree, mono-letters}
use Rattle.alb_query.proofs.ValueLemmas.{column-at}
use Rattle.alb_query.proofs.answers.row_terms.Goals as goal

pub invariant_of-push-clause-small : goal.invariant_of-push-clause-small
invariant_of-push-clause-small c =
    let h = column-at _ c.args.row.now c.loop-cell.cell-index (0, 0) c.requires.row.below (rw (← c.cells-cell-items.ensures.all) c.loop-cell-test.true) in
    subst (λ m. degree m ≤ 64) (sym c.in_ok-mono.ensures) (rw c.cells-cell-items.ensures.all (mono-degree (rules_view c.args.rules.now) c.args.tables.now c.requires.right _ h))

pub invariant_of-push-clause-letters : goal.invariant_of-push-clause-letters
invariant_of-push-clause-letters c =
    let h = column-at _ c.args.row.now c.loop-cell.cell-index (0, 0) c.requires.row.below (rw (← c.cells-cell-items.ensures.all) c.loop-cell-test.true) in
    subst (λ m. IsTrue (are_below 26 m)) (sym c.in_ok-mono.ensures) (rw c.cells-cell-items.ensures.all (mono-letters (rules_view c.args.rules.now) c.args.tables.now c.requires.right _ h))
