use Rattle.std.proofs.Common.{◌≡◌, ◌∙◌, ◌<◌, ℕ, All, length, map, take, sym, ap, subst}
use Rattle.gf_sums.specs.Sums.{reindex}
use Rattle.alb_mono.specs.Tree.{Tree, tree}
use Rattle.alb_poly.specs.Instance.{fill}
use Rattle.alb_poly.specs.Terms.{terms}
use Rattle.alb_nodes.specs.Nodes.{at}
use Rattle.alb_nodes.proofs.NodeLemmas.{extends-all, map-later}
use Rattle.alb_deriv.specs.Numbered.{read}
use Rattle.alb_deriv.proofs.NumberLists.{within-push, read-push, terms-more}
use Rattle.alb_deriv.proofs.numbered.filled_terms.Goals as goal

pub loop-t-preserved : goal.loop-t-preserved
loop-t-preserved c =
    let i = c.loop-t.t-index in
    let first = c.args.numbers.now in
    let a = c.loop-t.numbers in
    let b = c.filled.new.self in
    let ns = c.args.ns.now in
    let f = c.loop-t.out.items in
    let k = c.in_ok-number.number in
    let t = c.t-item.result in
    let e = c.in_ok-number.ensures.kept in
    let n = c.in_ok-number.ensures.number in
    let h : Tree → Tree = fill (map (at first) ns) in
    let is : at b k ≡ h (tree t.mono) = n.is ∙ ap (λ ms. fill ms (tree t.mono)) (map-later first a ns c.loop-t.invariant.kept c.requires.within) in
    record {
      value = ap (read b) c.in_ok-push.ensures.items
          ∙ read-push a b f t.coef k (h (tree t.mono)) (reindex h (terms (take i c.args.list.now))) e c.loop-t.invariant.within is c.loop-t.invariant.value
          ∙ sym (terms-more h c.args.list.now i t c.loop-t-test.true c.t-item.is);
      within = subst (All (λ (u : ℕ × ℕ). u.1 < length b)) (sym c.in_ok-push.ensures.items) (within-push a b f t.coef k e c.loop-t.invariant.within n.within);
      kept = extends-all first a b c.loop-t.invariant.kept e;
    }
