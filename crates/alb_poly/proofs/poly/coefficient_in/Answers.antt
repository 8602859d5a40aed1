use Rattle.std.proofs.Common.{◌≡◌, ◌∙◌, sym, ap, arith, true, get_or, subst}
use Rattle.alb_mono.specs.Tree.{tree, same_tree}
use Rattle.alb_poly.specs.Terms.{terms}
use Rattle.alb_poly.proofs.Falling.{descending-falls, coefficient_index, coefficient_none}
use Rattle.alb_poly.proofs.poly.coefficient_in.Goals as goal

pub returns-then-is_same : goal.returns-then-is_same
returns-then-is_same c =
    let ts = c.args.list.now in
    let m = tree c.args.m.now in
    let k = c.loop-t.t-index in
    let t = c.t-item.result in
    let e : same_tree (tree (get_or ts k t).mono) m ≡ true = subst (λ u. same_tree (tree u.mono) m ≡ true) c.t-item.is (sym c.if-is_same.ensures) in
    ap (λ u. u.coef) c.t-item.is ∙ sym (coefficient_index ts m (descending-falls (terms ts) c.requires) k t c.loop-t-test.true e)

pub returns : goal.returns
returns c =
    let ts = c.args.list.now in
    sym (coefficient_none ts (tree c.args.m.now) (λ k d l. c.loop-t.invariant k d (omega arith)))
