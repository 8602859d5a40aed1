use Rattle.std.proofs.Common.{◌∙◌, ◌<◌, All, length, map, take, sym, ap, subst}
use Rattle.alb_mono.specs.Tree.{tree}
use Rattle.alb_nodes.specs.Nodes.{at}
use Rattle.alb_nodes.proofs.NodeLemmas.{extends-all}
use Rattle.alb_deriv.proofs.NumberLists.{numbers-push, trees-push, trees-more}
use Rattle.alb_deriv.proofs.numbered.all_numbers.Goals as goal

pub loop-m-preserved : goal.loop-m-preserved
loop-m-preserved c =
    let i = c.loop-m.m-index in
    let a = c.loop-m.numbers in
    let b = c.number.new.self in
    let ks = c.loop-m.list.items in
    let k = c.in_ok-number.number in
    let m = c.m-item.result in
    let n = c.in_ok-number.ensures.number in
    let e = c.in_ok-number.ensures.kept in
    record {
      value = ap (map (at b)) c.in_ok-push.ensures.items
          ∙ trees-push a b ks k (tree m) (map tree (take i c.args.ms.now)) e c.loop-m.invariant.within n c.loop-m.invariant.value
          ∙ sym (trees-more c.args.ms.now i m c.loop-m-test.true c.m-item.is);
      within = subst (All (λ j. j < length b)) (sym c.in_ok-push.ensures.items) (numbers-push a b ks k (tree m) e c.loop-m.invariant.within n);
      kept = extends-all c.args.numbers.now a b c.loop-m.invariant.kept e;
    }
