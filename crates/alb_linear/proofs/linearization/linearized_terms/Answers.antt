use Rattle.std.proofs.Common.{map, get_or, arith}
use Rattle.std.proofs.lemmas.List.{length-map}
use Rattle.alb_mono.specs.Tree.{leaf}
use Rattle.alb_poly.specs.Terms.{term, terms}
use Rattle.alb_poly.specs.Instance.{fill, numbered}
use Rattle.alb_linear.proofs.OrderLemmas.{flat_next}
use Rattle.alb_linear.proofs.LinearLemmas.{term-at}
use Rattle.alb_linear.proofs.linearization.linearized_terms.Goals as goal

pub loop-t-preserved : goal.loop-t-preserved
loop-t-preserved c =
    flat_next (λ t. map (λ a. (t.0, fill (map leaf a) (numbered (λ v. get_or c.args.numbers.now v 0) t.1))) c.args.all.now)
    (terms c.args.list.now) c.loop-t.t-index (term c.t-item.result) _ _ (omega (arith, length-map c.args.list.now term))
    (term-at c.args.list.now c.loop-t.t-index c.t-item.result c.t-item.is) c.loop-t.invariant c.in_ok-push_linearized.ensures
