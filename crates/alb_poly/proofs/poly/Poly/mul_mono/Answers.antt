use Rattle.std.proofs.Common.{◌≡◌, sym, subst}
use Rattle.gf_sums.specs.Sums.{reindex}
use Rattle.alb_mono.specs.Tree.{tree}
use Rattle.alb_poly.specs.Consequence.{beside}
use Rattle.alb_poly.specs.Poly.{IsDescending}
use Rattle.alb_poly.specs.Terms.{terms}
use Rattle.alb_poly.proofs.Falling.{descending-beside}
use Rattle.alb_poly.proofs.poly.Poly.mul_mono.Goals as goal

pub invariant_of-result : goal.invariant_of-result
invariant_of-result c =
    let list = c.self.inside.list.items in
    let e : terms c.in_ok-list.list.items ≡ reindex (beside (c.args.side, tree c.args.m.now)) (terms list) = rw c.as_slice.ensures.value at c.in_ok-list.ensures in
    subst (λ f. IsDescending f) (sym e) (descending-beside c.args.side (tree c.args.m.now) (terms list) c.self.invariant)
