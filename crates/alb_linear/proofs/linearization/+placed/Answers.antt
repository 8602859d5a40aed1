use Rattle.std.proofs.Common.{◌≡◌, ◌<◌, ◌+◌, length, get_or, map, ap, subst, arith, IfOk}
use Rattle.alb_mono.specs.Tree.{tree, count, degree, leaf, node}
use Rattle.alb_poly.specs.Instance.{fill, numbered}
use Rattle.alb_linear.proofs.LinearLemmas.{placed_both, both_below, degree-pos}
use Rattle.alb_linear.proofs.linearization.+placed.Goals as goal

pub placed-requires : goal.placed-requires
placed-requires t c =
    let b = both_below (length c.args.next.now) (tree c.in-Prod.left.value) (tree c.in-Prod.right.value) (rw c.in-Prod.is at c.requires.letters) in (
      omega (arith, c.decreases, ap (λ m. degree (tree m)) c.deref.ensures, ap (λ m. degree (tree m)) c.in-Prod.is, degree-pos (tree c.in-Prod.left.value), degree-pos (tree c.in-Prod.right.value)),
      (
        rw c.deref.ensures b.0,
        ((λ v h. let w = rw c.in-Prod.is at (c.requires.within v h) in rw c.deref.ensures (omega (arith, w))), (c.requires.few, c.requires.small)),
      ),
    )

pub placed-requires-in-Prod : goal.placed-requires-in-Prod
placed-requires-in-Prod t c =
    let b = both_below (length c.args.next.now) (tree c.in-Prod.left.value) (tree c.in-Prod.right.value) (rw c.in-Prod.is at c.requires.letters) in
    let n : length c.placed.new.next ≡ length c.args.next.now = c.placed.auto.next in (
      omega (arith, c.decreases, ap (λ m. degree (tree m)) c.deref-in-Prod.ensures, ap (λ m. degree (tree m)) c.in-Prod.is, degree-pos (tree c.in-Prod.left.value), degree-pos (tree c.in-Prod.right.value)),
      (
        rw (n, c.deref-in-Prod.ensures) b.1,
        (
          (λ v h.
              let k : v < length c.args.next.now = omega (arith, n, h) in
              let w = rw c.in-Prod.is at (c.requires.within v k) in
              let s : get_or c.placed.new.next v 0 ≡ get_or c.args.next.now v 0 + count v (tree c.in-Prod.left.value) = rw c.deref.ensures at (c.in_ok-left-in-Prod.ensures.counted v k) in
              rw c.deref-in-Prod.ensures (omega (arith, w, s))),
          (c.requires.few, c.requires.small),
        ),
      ),
    )

pub returns-in_ok-right-in-Prod-clause-value : goal.returns-in_ok-right-in-Prod-clause-value
returns-in_ok-right-in-Prod-clause-value t c =
    let b = both_below (length c.args.next.now) (tree c.in-Prod.left.value) (tree c.in-Prod.right.value) (rw c.in-Prod.is at c.requires.letters) in
    let e : node (tree c.in_ok-left-in-Prod.left) (tree c.in_ok-right-in-Prod.right) ≡ fill (map leaf c.args.places.now) (numbered (λ v. get_or c.args.next.now v 0) (node (tree c.in-Prod.left.value) (tree c.in-Prod.right.value))) =
    placed_both (map leaf c.args.places.now) c.args.next.now c.placed.new.next (tree c.in-Prod.left.value) (tree c.in-Prod.right.value) _ _ b.1
    (λ v k. rw c.deref.ensures at (c.in_ok-left-in-Prod.ensures.counted v k))
    (rw c.deref.ensures at c.in_ok-left-in-Prod.ensures.value) (rw c.deref-in-Prod.ensures at c.in_ok-right-in-Prod.ensures.value) in
    rw c.in-Prod.is (subst (λ z. IfOk c.product.result (λ r. tree r ≡ z)) e c.product.ensures)
