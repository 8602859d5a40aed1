use Rattle.std.proofs.Common.{◌≡◌, ◌+◌, ◌∙◌, List, Some, ap, sym, subst, take, length, ℕ}
use Rattle.std.specs.Prelude.{IfSome}
use Rattle.alb_mono.specs.Tree.{tree}
use Rattle.alb_mono.proofs.Leaves.{length-type_of}
use Rattle.alb_poly.specs.Terms.{term, terms}
use Rattle.alb_trace.specs.FirstType.{HasFirst, or_earlier}
use Rattle.alb_trace.proofs.FirstTypeLemmas.{first-long, first-more, term-at}
use Rattle.alb_trace.proofs.first.first_type.Goals as goal

pub or_earlier-requires : goal.or_earlier-requires
or_earlier-requires c =
    let long : length c.type_of-at.result ≡ c.args.gens = ap length c.type_of-at.ensures ∙ length-type_of c.args.gens (tree c.t-item.result.mono) in
    subst (λ n. IfSome c.loop-t.first (λ u. length u ≡ n)) (sym long) (first-long c.args.gens (take c.loop-t.t-index (terms c.args.list.now)) c.loop-t.first c.loop-t.invariant)

pub loop-t-preserved : goal.loop-t-preserved
loop-t-preserved c =
    let at = term-at c.args.list.now c.loop-t.t-index c.t-item.result c.loop-t-test.true c.t-item.is in
    let e = c.or_earlier.ensures ∙ ap (or_earlier c.loop-t.first) c.type_of-at.ensures in
    subst (λ (u : List ℕ). HasFirst c.args.gens (take (c.loop-t.t-index + 1) (terms c.args.list.now)) (Some u)) (sym e)
    (first-more c.args.gens (terms c.args.list.now) c.loop-t.first c.loop-t.t-index (term c.t-item.result) at.1 at.0 c.loop-t.invariant)
