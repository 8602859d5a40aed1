use Rattle.std.proofs.Common.{sym, subst}
use Rattle.alb_table.specs.RightTable.{rules_view, IsRightFor}
use Rattle.alb_table.proofs.RightForLemmas.{first-right-for, rules-multilinear}
use Rattle.alb_pool.proofs.build.build_with.Goals as goal

pub loop-alloc-init : goal.loop-alloc-init
loop-alloc-init g c =
    let r = rules_view c.args.rules.now in
    let h = c.requires.rules in
    subst (IsRightFor r) (sym c.in_ok-tables.ensures) (first-right-for r h.prime h.goal (rules-multilinear r h) h.high)
