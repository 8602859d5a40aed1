use Rattle.std.proofs.Common.{◌≡◌, ◌∙◌, ap, sym, subst, map, rules}
use Rattle.std.proofs.lemmas.Result.{IfOk-weaker}
use Rattle.alb_mono.specs.Tree.{tree, node}
use Rattle.alb_poly.specs.Instance.{fill}
use Rattle.alb_nodes.specs.Nodes.{at, IsNumber, Extends}
use Rattle.alb_nodes.proofs.NodeLemmas.{filled-both, extends-all, OnOk-weaker}
use Rattle.alb_nodes.proofs.numbers.Numbers.+filled.Goals as goal

pub returns-in_ok-right-in-Prod-clause-number : goal.returns-in_ok-right-in-Prod-clause-number
returns-in_ok-right-in-Prod-clause-number t c =
    let a = c.in-Prod.is in
    let b = c.deref.ensures in
    let d = c.deref-in-Prod.ensures in
    let l = tree c.deref.result.now in
    let r = tree c.deref-in-Prod.result.now in
    let ks = c.args.numbers.now in
    let made = node (at c.filled-in-Prod.new.self c.in_ok-left-in-Prod.left) (at c.filled-in-Prod.new.self c.in_ok-right-in-Prod.right) in
    let e : tree c.args.m.now ≡ node l r = search rules in
    let q : made ≡ fill (map (at c.args.self.now) ks) (tree c.args.m.now) =
    filled-both c.args.self.now c.filled.new.self c.filled-in-Prod.new.self ks c.in_ok-left-in-Prod.left c.in_ok-right-in-Prod.right l r
    c.in_ok-left-in-Prod.ensures.kept c.in_ok-right-in-Prod.ensures.kept c.requires.within c.in_ok-left-in-Prod.ensures.number c.in_ok-right-in-Prod.ensures.number
    ∙ ap (fill (map (at c.args.self.now) ks)) (sym e) in
    IfOk-weaker c.product.result (λ k. IsNumber c.product.new.self k made) (λ k. IsNumber c.product.new.self k (fill (map (at c.args.self.now) ks) (tree c.args.m.now)))
    (λ k h. subst (IsNumber c.product.new.self k) q h) c.product.ensures.number

pub returns-in_ok-right-in-Prod-clause-kept : goal.returns-in_ok-right-in-Prod-clause-kept
returns-in_ok-right-in-Prod-clause-kept t c =
    OnOk-weaker c.product.result (Extends c.filled-in-Prod.new.self c.product.new.self) (Extends c.args.self.now c.product.new.self)
    (λ h. extends-all c.args.self.now c.filled.new.self c.product.new.self c.in_ok-left-in-Prod.ensures.kept
    (extends-all c.filled.new.self c.filled-in-Prod.new.self c.product.new.self c.in_ok-right-in-Prod.ensures.kept h))
    c.product.ensures.kept
