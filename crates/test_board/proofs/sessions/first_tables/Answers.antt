use Rattle.std.proofs.Common.{◌∙◌, sym, subst}
use Rattle.alb_table.specs.RightTable.{rules_view, IsRightFor}
use Rattle.alb_table.proofs.RightForLemmas.{first-right-for, rules-multilinear}
use Rattle.test_board.proofs.sessions.first_tables.Goals as goal

pub returns-clause-right : goal.returns-clause-right
returns-clause-right c =
    let r = rules_view c.args.rules.now in
    let h = c.requires in
    subst (IsRightFor r) (sym (c.in_ok-new.ensures.ok ∙ c.in_ok-first.ensures)) (first-right-for r h.prime h.goal (rules-multilinear r h) h.high)
