use Rattle.std.proofs.Common.{◌≡◌, ◌∙◌, ◌<◌, ℕ, All, length, take, get_or, sym, ap, subst}
use Rattle.std.proofs.lemmas.List.{get_or_default}
use Rattle.gf_sums.specs.Sums.{reindex}
use Rattle.alb_mono.specs.Tree.{Tree}
use Rattle.alb_poly.specs.Consequence.{beside}
use Rattle.alb_nodes.specs.Nodes.{at}
use Rattle.alb_nodes.proofs.NodeLemmas.{extends-all, extends-at}
use Rattle.alb_deriv.specs.Numbered.{read}
use Rattle.alb_deriv.proofs.NumberLists.{within-push, read-push, reads-more}
use Rattle.alb_deriv.proofs.numbered.terms_beside.Goals as goal

pub loop-t-preserved : goal.loop-t-preserved
loop-t-preserved c =
    let i = c.loop-t.t-index in
    let first = c.args.numbers.now in
    let a = c.loop-t.numbers in
    let b = c.beside_number.new.numbers in
    let list = c.args.list.now in
    let f = c.loop-t.out.items in
    let k = c.in_ok-number.number in
    let t : ℕ × ℕ = get_or list i (0, 0) in
    let own : t ≡ get_or list i t = get_or_default list i (0, 0) t c.loop-t-test.true in
    let e = c.in_ok-number.ensures.kept in
    let h : Tree → Tree = beside (c.args.side, at first c.args.n) in
    let factor : at a c.args.n ≡ at first c.args.n = extends-at first a c.args.n c.loop-t.invariant.kept c.requires.factor in
    let here : at a t.1 ≡ at first t.1 = extends-at first a t.1 c.loop-t.invariant.kept (c.requires.within i (0, 0) c.loop-t-test.true) in
    let is : at b k ≡ h (at first t.1) = c.in_ok-number.ensures.value ∙ (λ j. beside (c.args.side, factor j) (here j)) in
    record {
      value = ap (read b) c.in_ok-push.ensures.items
          ∙ read-push a b f t.0 k (h (at first t.1)) (reindex h (read first (take i list))) e c.loop-t.invariant.within is c.loop-t.invariant.value
          ∙ sym (reads-more h first list i t c.loop-t-test.true own);
      within = subst (All (λ (u : ℕ × ℕ). u.1 < length b)) (sym c.in_ok-push.ensures.items) (within-push a b f t.0 k e c.loop-t.invariant.within c.in_ok-number.ensures.within);
      kept = extends-all first a b c.loop-t.invariant.kept e;
    }
