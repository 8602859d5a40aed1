use Rattle.std.proofs.Common.{◌∷◌, [], length, sym, ap, ◌∙◌, subst, arith, ◌≤◌}
use Rattle.std.specs.Prelude.{IsTrue}
use Rattle.alb_trace.proofs.ResultLemmas.{IfOk-both}
use Rattle.alb_mono.specs.Tree.{tree, are_below}
use Rattle.alb_rows.specs.Row.{comb, AreSameVector}
use Rattle.alb_deriv.proofs.LineLemmas.{below-more}
use Rattle.alb_table.specs.RightTable.{rules_view}
use Rattle.alb_table.specs.Value.{table_value}
use Rattle.alb_table.proofs.RightForLemmas.{right-counts}
use Rattle.alb_trace.proofs.ValueRows.{value-row}
use Rattle.alb_trace.proofs.ground.Ground.value.Goals as goal

pub term-requires-clause-known : goal.term-requires-clause-known
term-requires-clause-known c =
    let few : length c.args.self.now.tables.now.target ≤ 12 = right-counts (rules_view c.args.self.now.rules.now) c.args.self.now.tables.now c.requires.ground.right in
    subst (λ m. IsTrue (are_below 26 m)) (sym c.in_ok-copy.ensures) (below-more (length c.args.self.now.tables.now.target) 26 (tree c.args.m.now) (omega arith) c.requires.within.below)

pub returns : goal.returns
returns c =
    IfOk-both c.value.result _ _ _ (λ r v row. value-row (rules_view c.args.self.now.rules.now) c.args.self.now.tables.now c.requires.ground.right (tree c.args.m.now) c.requires.within r row
    (subst (λ f. AreSameVector c.args.self.now.tables.now.p (comb r) (table_value c.args.self.now.tables.now f)) (c.in_ok-one.ensures ∙ ap (λ m. (1, m) ∷ []) c.in_ok-copy.ensures) v))
    c.value.ensures.value c.value.ensures.row
