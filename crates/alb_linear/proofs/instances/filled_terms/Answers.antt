use Rattle.std.proofs.Common.{◌∙◌, map, ap, arith}
use Rattle.std.proofs.lemmas.List.{length-map}
use Rattle.alb_mono.specs.Tree.{tree}
use Rattle.alb_poly.specs.Terms.{term, terms}
use Rattle.alb_poly.specs.Instance.{fill}
use Rattle.alb_linear.proofs.LinearLemmas.{term-at, terms-push, reindex_next}
use Rattle.alb_linear.proofs.instances.filled_terms.Goals as goal

pub loop-t-preserved : goal.loop-t-preserved
loop-t-preserved c =
    reindex_next (fill (map tree c.args.ms.now)) (terms c.args.list.now) c.loop-t.t-index (term c.t-item.result) (tree c.in_ok-mono.mono) _ _
    (omega (arith, length-map c.args.list.now term)) (term-at c.args.list.now c.loop-t.t-index c.t-item.result c.t-item.is) c.in_ok-mono.ensures
    c.loop-t.invariant (ap terms c.in_ok-push.ensures.items ∙ terms-push c.loop-t.out.items _)
