use Rattle.std.proofs.Common.{◌≤◌, arith, subst, sym}
use Rattle.alb_mono.specs.Tree.{tree, count, degree}
use Rattle.alb_deriv.proofs.Within.{total-more}
use Rattle.alb_deriv.proofs.types.all_occurrences.Goals as goal

pub loop-m-preserved : goal.loop-m-preserved
loop-m-preserved c =
    let m = c.m-item.result in
    let i = c.loop-m.m-index in
    let small : degree (tree m) ≤ 64 = subst (λ x. degree (tree x) ≤ 64) (sym c.m-item.is) (c.requires.small i m (omega arith)) in
    let more = total-more (count c.args.g) tree c.args.ms.now i m (omega arith) c.m-item.is in
    (omega (arith, more, c.loop-m.invariant.0, c.occurrences-all.ensures.value), omega (arith, small, c.loop-m.invariant.1, c.occurrences-all.ensures.bound))
